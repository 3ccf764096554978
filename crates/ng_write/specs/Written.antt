-- What a write leaves and answers.
use Rattle.std.specs.Prelude.{◌≡◌, false, List, Result, Ok, Err}
use Rattle.ng_base.specs.Faults.{is_memory}
use Rattle.ng_base.specs.Objects.{Object}
use Rattle.ng_base.specs.declared.fault.Fault.{Fault}

-- the objects after a write, and its value or its fault
abbrev pub Written : Type 0 → Type 0
Written A = List Object × Result A Fault

infixl 10 ◌>>◌
-- one write after another: the first fault ends them, and what was written before it stays
abbrev pub ◌>>◌ : {A B : Type 0} → Written A → (A → List Object → Written B) → Written B
w >> go = go_on w.0 w.1 go
  where
    go_on : {A B : Type 0} → List Object → Result A Fault → (A → List Object → Written B) → Written B
    go_on objects (Ok v) go = go v objects
    go_on objects (Err e) go = (objects, Err e)

-- a call left and answered what a definition says, unless memory ran out
abbrev pub Writes : {A : Type 0} → Written A → List Object → Result A Fault → Type 0
Writes asked objects (Ok v) = asked ≡ (objects, Ok v)
Writes asked objects (Err e) = is_memory e ≡ false → asked ≡ (objects, Err e)

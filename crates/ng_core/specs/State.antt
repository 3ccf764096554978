-- The state that an action changes: the objects, the scopes, who listens, the functions, the locals of the body that runs,
-- the bodies entered, the faults handed over, and what waits for the digest.
use Rattle.std.specs.Prelude.{ℕ, ◌+◌, Bool, List, [], ◌∷◌, ◌++◌, Option, Some, None, Result, Ok, Err, eqb, nat_lt, not, if◌then◌else◌}
use Rattle.std.specs.List.{filter, list_any}
use Rattle.ng_base.specs.Objects.{Object}
use Rattle.ng_base.specs.declared.fault.Fault.{Fault}
use Rattle.ng_behaviour.specs.Listeners.{Heard}
use Rattle.ng_behaviour.specs.Scopes.{Scope}
use Rattle.ng_language.specs.Trees.{Trees}
use Rattle.ng_language.specs.declared.snapshots.SnapKind.{SnapKind}
use Rattle.ng_members.specs.Leaves.{Local}
use Rattle.ng_core.specs.declared.core_state.Handed.{Handed}
use Rattle.ng_write.specs.Written.{Written}

-- what a function's name stands for: a declared function with its scope and parameters; the function that takes the
-- listener of the same name out; the one that takes out the declared watch of a scope and a number; or a program that is
-- bound to an outer scope
pub data Fun : Type 0 where
  a_declared : ℕ → List (List ℕ) → Trees → Fun
  a_taker : Fun
  an_unwatcher : ℕ → ℕ → Fun
  an_outer : ℕ → Trees → Fun

-- a program that waits for the digest, and the scope that it runs on
pub record Task : Type 0 where
  pub scope : ℕ
  pub body : Trees

-- a watch that a program declared: its scope, its number, what is compared, what is watched, and what runs
pub record Declared : Type 0 where
  pub scope : ℕ
  pub serial : ℕ
  pub kind : SnapKind
  pub watched : Trees
  pub body : Trees

-- what the watchers are to become: one more, the one of a scope and a number less, or those of a scope and all below it less
pub data Change : Type 0 where
  adds : Declared → Change
  removes : ℕ → ℕ → Change
  leaves : ℕ → Change

pub record State : Type 0 where
  pub objects : List Object
  pub scopes : List Scope
  pub heard : List Heard
  pub funs : List Fun
  pub locals : List Local
  pub stopped : List ℕ
  pub entered : ℕ
  pub handed : Handed
  pub tasks : List Task
  pub probes : List Trees
  pub changes : List Change
  pub serial : ℕ

-- the state that is left, and the value or the fault
abbrev pub Run : Type 0 → Type 0
Run A = State × Result A Fault

infixl 10 ◌>>=◌
-- goes on, unless there is a fault. Effects before a fault stay
abbrev pub ◌>>=◌ : {A B : Type 0} → Run A → (A → State → Run B) → Run B
r >>= go = go_on r.0 r.1 go
  where
    go_on : {A B : Type 0} → State → Result A Fault → (A → State → Run B) → Run B
    go_on s (Ok v) go = go v s
    go_on s (Err e) go = (s, Err e)

abbrev pub with_objects : List Object → State → State
with_objects o s = record s { objects = o }

abbrev pub with_scopes : List Scope → State → State
with_scopes t s = record s { scopes = t }

abbrev pub with_heard : List Heard → State → State
with_heard h s = record s { heard = h }

abbrev pub with_funs : List Fun → State → State
with_funs f s = record s { funs = f }

abbrev pub with_locals : List Local → State → State
with_locals l s = record s { locals = l }

abbrev pub with_stopped : List ℕ → State → State
with_stopped l s = record s { stopped = l }

abbrev pub with_task : Task → State → State
with_task t s = record s { tasks = s.tasks ++ t ∷ [] }

abbrev pub with_change : Change → State → State
with_change c s = record s { changes = s.changes ++ c ∷ [] }

-- a registration number is given
abbrev pub with_serial : State → State
with_serial s = record s { serial = s.serial + 1 }

abbrev pub with_body : State → State
with_body s = record s { entered = s.entered + 1 }

abbrev pub first_or : Option Fault → Fault → Option Fault
first_or (Some e) f = Some e
first_or None f = Some f

-- one fault more: the count stays at 4,294,967,295 once it is there
abbrev pub handed_over : Fault → Handed → Handed
handed_over f h = record { count = if nat_lt h.count 4294967295 then h.count + 1 else h.count; first = first_or h.first f }

abbrev pub with_fault : Fault → State → State
with_fault f s = record s { handed = handed_over f s.handed }

-- a fault is handed over
abbrev pub handed : {A : Type 0} → Run A → State
handed r = noted r.0 r.1
  where
    noted : {A : Type 0} → State → Result A Fault → State
    noted s (Ok v) = s
    noted s (Err e) = with_fault e s

-- an answer that changes nothing
abbrev pub given : {A : Type 0} → State → Result A Fault → Run A
given s r = (s, r)

-- a write of the objects
abbrev pub written : {A : Type 0} → Written A → State → Run A
written w s = (with_objects w.0 s, w.1)

-- whether `stopPropagation` of an event was called
abbrev pub is_stopped : List ℕ → ℕ → Bool
is_stopped l e = list_any (eqb e) l

abbrev pub stop : ℕ → List ℕ → List ℕ
stop e l = l ++ e ∷ []

abbrev pub without_stop : ℕ → List ℕ → List ℕ
without_stop e l = filter (λ x. not (eqb e x)) l

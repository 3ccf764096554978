-- What a step prints, and how it leaves the page.
use Rattle.std.specs.Prelude.{ℕ, Bool, true, false, List, ◌++◌, codes, Option, None, Some, Ok, Err}
use Rattle.ng_base.specs.declared.fault.Fault.{Fault}
use Rattle.ng_link.specs.State.{State}
use Rattle.ng_printing.specs.Lines.{Digest}

-- the page as a step left it, and whether the last digest of that step answered Ok
pub record Left : Type 0 where
  pub state : State
  pub digested : Bool

-- what a step prints, and whether none of its lines is `action:`, `digest:` or `target:`
pub record Step : Type 0 where
  pub lines : List ℕ
  pub well : Bool

abbrev pub is_digested : Digest → Bool
is_digested None = false
is_digested (Some (Ok counts)) = true
is_digested (Some (Err f)) = false

abbrev pub has_no_failure : Digest → Bool
has_no_failure None = true
has_no_failure (Some (Ok counts)) = true
has_no_failure (Some (Err f)) = false

-- all went well where no fault was handed over and no digest failed
abbrev pub is_well : Option Fault → Digest → Bool
is_well None digest = has_no_failure digest
is_well (Some f) digest = false

abbrev pub idle_step : List ℕ → Step
idle_step head = record { lines = head ++ codes "idle\n"; well = true }

abbrev pub aimless_step : List ℕ → Step
aimless_step head = record { lines = head ++ codes "target: none\n"; well = false }

abbrev pub same_page : State → Left
same_page s = record { state = s; digested = false }

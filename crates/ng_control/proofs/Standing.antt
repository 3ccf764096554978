-- What was typed, as long as its model stands.
use Rattle.std.proofs.Common.{◌≡◌, ℕ, Bool, true, false, List, Option, None, Some, Ok, refl, if◌then◌else◌}
use Rattle.ng_base.specs.Objects.{Object}
use Rattle.ng_base.specs.Views.{ViewTree}
use Rattle.ng_value.proofs.Sameness.{same_self}
use Rattle.ng_control.specs.declared.kind.Typed.{Typed}
use Rattle.ng_control.specs.Laws.{model_of}
use Rattle.ng_control.specs.Shown.{shown}
use Rattle.ng_control.specs.State.{ControlState, is_model, while_model, typed_in}
use Rattle.ng_control.specs.Typed.{parsed}

-- once what does not stand is dropped, the rest stands
pub stands_still : (t : ViewTree) (typed : Option Typed) → while_model t (while_model t typed) ≡ while_model t typed
stands_still t None = refl
stands_still t (Some typed) = by (is_model t typed.parsed) refl
  where
    by : (b : Bool) → is_model t typed.parsed ≡ b → while_model t (if is_model t typed.parsed then Some typed else None) ≡ (if is_model t typed.parsed then Some typed else None)
    by true e = rw e (rw e refl)
    by false e = rw e refl

pub typed_is_shown : (objects : List Object) (c : ControlState) (t : List ℕ) → shown objects (typed_in c t) (model_of c t) ≡ Ok t
typed_is_shown objects c t = rw (same_self (parsed c.kind t)) refl

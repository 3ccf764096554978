-- What a control keeps, and how a user and the model change it (API: ngModel.NgModelController).
use Rattle.std.specs.Prelude.{ℕ, Bool, true, false, List, Option, None, Some, if◌then◌else◌}
use Rattle.ng_base.specs.Views.{ViewTree, prim, list, rec}
use Rattle.ng_base.specs.declared.value.Value.{Value}
use Rattle.ng_language.specs.Operators.{same}
use Rattle.ng_control.specs.declared.kind.ControlKind.{ControlKind}
use Rattle.ng_control.specs.declared.kind.Typed.{Typed}
use Rattle.ng_control.specs.Typed.{parsed}

pub record ControlState : Type 0 where
  pub kind : ControlKind
  pub typed : Option Typed
  pub dirty : Bool
  pub touched : Bool

abbrev pub fresh : ControlKind → ControlState
fresh kind = record { kind = kind; typed = None; dirty = false; touched = false }

-- a text was typed: each input makes dirty
abbrev pub typed_in : ControlState → List ℕ → ControlState
typed_in c t = record { kind = c.kind; typed = Some (record { text = t; parsed = parsed c.kind t }); dirty = true; touched = c.touched }

abbrev pub checked_in : ControlState → ControlState
checked_in c = record { kind = c.kind; typed = c.typed; dirty = true; touched = c.touched }

abbrev pub after_touch : ControlState → ControlState
after_touch c = record { kind = c.kind; typed = c.typed; dirty = c.dirty; touched = true }

-- the model is this value; a fresh list or record is none
abbrev pub is_model : ViewTree → Value → Bool
is_model (prim w) v = same v w
is_model (list ts) v = false
is_model (rec fs) v = false

-- what was typed, as long as the model is what it was read as
abbrev pub while_model : ViewTree → Option Typed → Option Typed
while_model t None = None
while_model t (Some typed) = if is_model t typed.parsed then Some typed else None

abbrev pub standing : ControlState → ViewTree → Option Typed
standing c t = while_model t c.typed

-- the model is this one now
abbrev pub with_model : ControlState → ViewTree → ControlState
with_model c t = record { kind = c.kind; typed = standing c t; dirty = c.dirty; touched = c.touched }

-- A control over a model that was kept, whose text is known. Nothing of it is a fault.
use Rattle.std.specs.Prelude.{ℕ, Bool, not, List, [], Option, None, Some}
use Rattle.ng_base.specs.Views.{ViewTree, prim}
use Rattle.ng_base.specs.declared.value.Value.TheVariants as value
use Rattle.ng_language.specs.Texts.{text_of}
use Rattle.ng_control.specs.declared.kind.ControlKind.{ControlKind}
use Rattle.ng_control.specs.declared.kind.ControlKind.TheVariants.{Text, Number, Checkbox}
use Rattle.ng_control.specs.declared.kind.Typed.{Typed}
use Rattle.ng_control.specs.State.{ControlState, standing}
use Rattle.ng_control.specs.Shown.{is_nil, is_typed_empty, is_checked, is_invalid, state_classes}

-- the text of a kept model: none for undefined, null and NaN
abbrev pub model_kept : ViewTree → List ℕ
model_kept (prim value.Undefined) = []
model_kept (prim value.Null) = []
model_kept (prim value.Nan) = []
model_kept t = text_of t

abbrev pub text_or : List ℕ → Option Typed → List ℕ
text_or text None = text
text_or text (Some typed) = typed.text

-- the typed text while it stands, else that of the model
abbrev pub shown_with : ControlState → ViewTree → List ℕ → List ℕ
shown_with c t text = text_or text (standing c t)

abbrev pub is_text_empty_with : ControlKind → List ℕ → Option Typed → Bool
is_text_empty_with kind text None = is_nil text
is_text_empty_with kind text (Some typed) = is_typed_empty kind typed.text

-- whether a control is empty: by what it shows, and a checkbox by whether it is checked
abbrev pub is_empty_with : ControlKind → ViewTree → List ℕ → Option Typed → Bool
is_empty_with Checkbox t text typed = not (is_checked t)
is_empty_with (Text trim) t text typed = is_text_empty_with (Text trim) text typed
is_empty_with Number t text typed = is_text_empty_with Number text typed

abbrev pub classes_with : ControlState → ViewTree → List ℕ → List (List ℕ)
classes_with c t text = state_classes c.dirty c.touched (is_invalid c.kind (standing c t)) (is_empty_with c.kind t text (standing c t))

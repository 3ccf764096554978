-- What a control shows (API: ngModel, "CSS classes"; API: input).
use Rattle.std.specs.Prelude.{ℕ, Bool, true, false, not, List, [], ◌∷◌, codes, Option, None, Some, Result, Ok, if◌then◌else◌}
use Rattle.std.specs.Char.{is_ascii_whitespace}
use Rattle.ng_base.specs.Meets.{◌>>=◌}
use Rattle.ng_base.specs.Objects.{Object}
use Rattle.ng_base.specs.Trimming.{trimmed}
use Rattle.ng_base.specs.Views.{ViewTree, prim}
use Rattle.ng_base.specs.declared.fault.Fault.{Fault}
use Rattle.ng_base.specs.declared.value.Value.{Value}
use Rattle.ng_base.specs.declared.value.Value.TheVariants as value
use Rattle.ng_language.specs.Texts.{to_text}
use Rattle.ng_control.specs.declared.kind.ControlKind.{ControlKind}
use Rattle.ng_control.specs.declared.kind.ControlKind.TheVariants.{Text, Number, Checkbox}
use Rattle.ng_control.specs.declared.kind.Typed.{Typed}
use Rattle.ng_control.specs.State.{ControlState, standing}
use Rattle.ng_control.specs.Typed.{if_trimmed}

-- the text of a model: none for undefined, null and NaN
abbrev pub model_text : List Object → ViewTree → Result (List ℕ) Fault
model_text objects (prim value.Undefined) = Ok []
model_text objects (prim value.Null) = Ok []
model_text objects (prim value.Nan) = Ok []
model_text objects t = to_text objects t

abbrev pub typed_or_model : List Object → ViewTree → Option Typed → Result (List ℕ) Fault
typed_or_model objects t None = model_text objects t
typed_or_model objects t (Some typed) = Ok typed.text

-- the typed text while it stands, else the model's
abbrev pub shown : List Object → ControlState → ViewTree → Result (List ℕ) Fault
shown objects c t = typed_or_model objects t (standing c t)

abbrev pub is_nil : List ℕ → Bool
is_nil [] = true
is_nil (c ∷ cs) = false

-- a typed text is empty where nothing is left of it once it is trimmed, where the control trims; a number always does
abbrev pub is_typed_empty : ControlKind → List ℕ → Bool
is_typed_empty (Text trim) t = is_nil (if_trimmed trim t)
is_typed_empty Number t = is_nil (trimmed is_ascii_whitespace t)
is_typed_empty Checkbox t = is_nil t

-- a checkbox is checked where its model is true, and by nothing else
abbrev pub is_checked : ViewTree → Bool
is_checked (prim (value.Bool b)) = b
is_checked t = false

abbrev pub is_text_empty : List Object → ControlKind → ViewTree → Option Typed → Result Bool Fault
is_text_empty objects kind t None = model_text objects t >>= λ text. Ok (is_nil text)
is_text_empty objects kind t (Some typed) = Ok (is_typed_empty kind typed.text)

-- whether a control is empty: by what it shows, and a checkbox by whether it is checked
abbrev pub is_empty : List Object → ControlKind → ViewTree → Option Typed → Result Bool Fault
is_empty objects Checkbox t typed = Ok (not (is_checked t))
is_empty objects (Text trim) t typed = is_text_empty objects (Text trim) t typed
is_empty objects Number t typed = is_text_empty objects Number t typed

abbrev pub is_undefined : Value → Bool
is_undefined value.Undefined = true
is_undefined v = false

-- a typed text is wrong where a number control reads no number in it
abbrev pub is_invalid : ControlKind → Option Typed → Bool
is_invalid Number (Some typed) = is_undefined typed.parsed
is_invalid kind typed = false

-- one word of each pair
abbrev pub state_classes : Bool → Bool → Bool → Bool → List (List ℕ)
state_classes dirty touched invalid empty =
    (if dirty then codes "ng-dirty" else codes "ng-pristine")
    ∷ (if touched then codes "ng-touched" else codes "ng-untouched")
    ∷ (if invalid then codes "ng-invalid" else codes "ng-valid")
    ∷ (if empty then codes "ng-empty" else codes "ng-not-empty")
    ∷ []

abbrev pub classes : List Object → ControlState → ViewTree → Result (List (List ℕ)) Fault
classes objects c t =
    is_empty objects c.kind t (standing c t) >>= λ empty. Ok (state_classes c.dirty c.touched (is_invalid c.kind (standing c t)) empty)

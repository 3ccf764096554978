-- What a typed text is read as (API: input[text], input[number]).
use Rattle.std.specs.Prelude.{ℕ, ℤ, Bool, List, [], ◌∷◌, Option, None, Some, if◌then◌else◌}
use Rattle.std.specs.Char.{is_ascii_whitespace}
use Rattle.std.specs.List.{list_any}
use Rattle.ng_base.specs.Trimming.{trimmed}
use Rattle.ng_base.specs.declared.value.Value.{Value}
use Rattle.ng_base.specs.declared.value.Value.TheVariants as value
use Rattle.ng_language.specs.Operators.{number_in}
use Rattle.ng_control.specs.declared.kind.ControlKind.{ControlKind}
use Rattle.ng_control.specs.declared.kind.ControlKind.TheVariants.{Text, Number, Checkbox}

abbrev pub if_trimmed : Bool → List ℕ → List ℕ
if_trimmed trim t = if trim then trimmed is_ascii_whitespace t else t

abbrev pub number_or_undefined : Option ℤ → Value
number_or_undefined None = value.Undefined
number_or_undefined (Some n) = value.Int n

-- a number is what the language reads, where no white space stands in it
abbrev pub number_typed : List ℕ → Value
number_typed t = if list_any is_ascii_whitespace t then value.Undefined else number_or_undefined (number_in t)

-- the empty text is no number, and no wrong one
abbrev pub number_of : List ℕ → Value
number_of [] = value.Null
number_of (c ∷ cs) = number_typed (c ∷ cs)

-- what a typed text is read as
abbrev pub parsed : ControlKind → List ℕ → Value
parsed (Text trim) t = value.Text (if_trimmed trim t)
parsed Number t = number_of t
parsed Checkbox t = value.Undefined

-- a text is typed into texts and numbers
abbrev pub TakesText : ControlKind → Type 0
TakesText (Text trim) = Unit {0}
TakesText Number = Unit {0}
TakesText Checkbox = ⊥

abbrev pub IsCheckbox : ControlKind → Type 0
IsCheckbox (Text trim) = ⊥
IsCheckbox Number = ⊥
IsCheckbox Checkbox = Unit {0}

-- The elements on which `ng-model` stands (API: input; API: textarea).
use Rattle.std.specs.Prelude.{ℕ, Bool, true, ◌&&◌, ◌||◌, List, map, Option, None, Some, codes}
use Rattle.std.specs.Char.{to_ascii_lowercase}
use Rattle.std.specs.Map.{lookup}
use Rattle.std.specs.Str.{bytes_eq}
use Rattle.ng_markup.specs.Forest.{Attributes}

-- the value of the attribute `type`
abbrev pub type_of : Attributes → Option (List ℕ)
type_of attributes = lookup (λ n. bytes_eq n (codes "type")) attributes

-- the types of an input that is a control
unfoldable pub is_input_type : List ℕ → Bool
is_input_type t =
    bytes_eq t (codes "text")
    || bytes_eq t (codes "search")
    || bytes_eq t (codes "tel")
    || bytes_eq t (codes "password")
    || bytes_eq t (codes "number")
    || bytes_eq t (codes "checkbox")

-- a type is compared without its case; an input without one is a text
abbrev pub is_typed : Option (List ℕ) → Bool
is_typed None = true
is_typed (Some t) = is_input_type (map to_ascii_lowercase t)

abbrev pub is_control : List ℕ → Attributes → Bool
is_control name attributes = bytes_eq name (codes "textarea") || (bytes_eq name (codes "input") && is_typed (type_of attributes))

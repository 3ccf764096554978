-- What kind of control an element is (API: input; API: textarea).
use Rattle.std.specs.Prelude.{ℕ, Bool, true, false, not, ◌&&◌, List, map, codes, Option, None, Some, if◌then◌else◌}
use Rattle.std.specs.Char.{to_ascii_lowercase}
use Rattle.std.specs.List.{list_any}
use Rattle.std.specs.Str.{bytes_eq}
use Rattle.ng_collect.specs.Controls.{type_of}
use Rattle.ng_collect.specs.Sorted.{of_core}
use Rattle.ng_collect.specs.declared.pick.Pick.{Pick}
use Rattle.ng_collect.specs.declared.table.CoreDirective.{CoreDirective}
use Rattle.ng_collect.specs.declared.table.CoreDirective.TheVariants as dirs
use Rattle.ng_control.specs.declared.kind.ControlKind.{ControlKind}
use Rattle.ng_control.specs.declared.kind.ControlKind.TheVariants.{Text, Number, Checkbox}
use Rattle.ng_markup.specs.Forest.{Attributes}
use Rattle.ng_directives.specs.Directives.{text_on}

-- `ng-trim="false"`
abbrev pub is_trim : CoreDirective → Bool
is_trim dirs.Trim = true
is_trim _ = false

abbrev pub is_trim_off : Pick → Bool
is_trim_off p = of_core is_trim p.directive && bytes_eq (text_on p.attribute) (codes "false")

abbrev pub trims : List Pick → Bool
trims ps = not (list_any is_trim_off ps)

-- an input by its type in lower case; a password is never trimmed
abbrev pub kind_named : Bool → List ℕ → ControlKind
kind_named b t =
    if bytes_eq t (codes "number") then Number
    else if bytes_eq t (codes "checkbox") then Checkbox
    else if bytes_eq t (codes "password") then Text false
    else Text b

abbrev pub input_kind : Bool → Option (List ℕ) → ControlKind
input_kind b None = Text b
input_kind b (Some t) = kind_named b (map to_ascii_lowercase t)

-- an element that is a control, with these directives
abbrev pub control_kind : List ℕ → Attributes → List Pick → ControlKind
control_kind name attributes ps = if bytes_eq name (codes "textarea") then Text (trims ps) else input_kind (trims ps) (type_of attributes)

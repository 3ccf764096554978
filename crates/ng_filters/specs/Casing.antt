-- The filters `uppercase` and `lowercase` (API: `uppercase`, `lowercase`).
use Rattle.std.specs.Prelude.{ℕ, List, map}
use Rattle.std.specs.Char.{to_ascii_uppercase, to_ascii_lowercase}
use Rattle.ng_base.specs.Views.{ViewTree, prim}
use Rattle.ng_base.specs.declared.value.Value.TheVariants as value

abbrev pub upper : List ℕ → List ℕ
upper = map to_ascii_uppercase

abbrev pub lower : List ℕ → List ℕ
lower = map to_ascii_lowercase

-- a text with its ASCII letters changed, and all else itself
abbrev pub uppercase : ViewTree → ViewTree
uppercase (prim (value.Text t)) = prim (value.Text (upper t))
uppercase t = t

abbrev pub lowercase : ViewTree → ViewTree
lowercase (prim (value.Text t)) = prim (value.Text (lower t))
lowercase t = t

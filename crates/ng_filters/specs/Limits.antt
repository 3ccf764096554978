-- The filter `limitTo` (API: `limitTo`).
use Rattle.std.specs.Prelude.{ℕ, suc, zero, ℤ, pos, negsuc, ◌+◌, ◌-◌, Bool, true, false, List, [], length, take, drop, Option, Some, None, if◌then◌else◌}
use Rattle.std.specs.Char.{is_ascii_whitespace}
use Rattle.std.specs.List.{list_all}
use Rattle.ng_base.specs.Objects.{Object}
use Rattle.ng_base.specs.Views.{ViewTree, prim, list, views_from}
use Rattle.ng_base.specs.declared.value.Value.{Value}
use Rattle.ng_base.specs.declared.value.Value.TheVariants as value
use Rattle.ng_language.specs.Operators.{number_in}
use Rattle.ng_language.specs.Texts.{value_text}
use Rattle.ng_filters.specs.declared.view_ref.Shape.{Shape}
use Rattle.ng_filters.specs.declared.view_ref.Shape.TheVariants as shapes
use Rattle.ng_filters.specs.Parts.{shape_of, items}

-- a limit or a begin as a whole number: a number, or a text of a sign and digits between white space
abbrev pub whole : ViewTree → Option ℤ
whole (prim (value.Int n)) = Some n
whole (prim (value.Text t)) = if list_all is_ascii_whitespace t then None else number_in t
whole t = None

-- where the entries begin: below 0 from the end, and not before the first
abbrev pub begin_at : Option ℤ → ℕ → ℕ
begin_at None count = 0
begin_at (Some (pos b)) count = b
begin_at (Some (negsuc b)) count = count - suc b

-- the first place and the end of what stays, for a limit, a begin and a number of entries: from the begin on, or for
-- a limit below 0 up to it, where a begin of 0 stands for the end
abbrev pub window : ℤ → ℕ → ℕ → ℕ × ℕ
window (pos n) b count = (b, b + n)
window (negsuc n) zero count = (count - suc n, count)
window (negsuc n) (suc b) count = (suc b - suc n, suc b)

-- the entries between two places
abbrev pub between : {A : Type 0} → ℕ × ℕ → List A → List A
between w xs = take (w.1 - w.0) (drop w.0 xs)

abbrev pub part : {A : Type 0} → ℤ → ViewTree → List A → List A
part n begin xs = between (window n (begin_at (whole begin) (length xs)) (length xs)) xs

-- a part of a text, or of a number as a text, and all else itself
abbrev pub part_of_primitive : ℤ → ViewTree → ViewTree → ViewTree
part_of_primitive n begin (prim (value.Text t)) = prim (value.Text (part n begin t))
part_of_primitive n begin (prim (value.Int m)) = prim (value.Text (part n begin (value_text (value.Int m))))
part_of_primitive n begin (prim value.Nan) = prim (value.Text (part n begin (value_text value.Nan)))
part_of_primitive n begin t = t

abbrev pub part_by : Shape → List Object → ℤ → ViewTree → ViewTree → ViewTree
part_by shapes.Items objects n begin t = list (views_from (part n begin (items objects t)))
part_by s objects n begin t = part_of_primitive n begin t

-- where the limit is not whole the input itself
abbrev pub limited_by : Option ℤ → List Object → ViewTree → ViewTree → ViewTree
limited_by None objects t begin = t
limited_by (Some n) objects t begin = part_by (shape_of objects t) objects n begin t

-- a part of an array, a text or a number
abbrev pub limited : List Object → ViewTree → ViewTree → ViewTree → ViewTree
limited objects t limit begin = limited_by (whole limit) objects t begin

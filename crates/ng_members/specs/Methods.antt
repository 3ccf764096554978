-- The methods of arrays, fresh lists and texts that change nothing.
use Rattle.std.specs.Prelude.{ℕ, ℤ, suc, pos, negsuc, ◌-◌, min, Bool, true, false, List, [], ◌∷◌, ◌++◌, length, map, take, drop, Option, Some, None, Result, Ok, Err, slice_get, nat_eq, if◌then◌else◌}
use Rattle.std.specs.Char.{is_ascii_whitespace, to_ascii_uppercase, to_ascii_lowercase}
use Rattle.ng_base.specs.Codes.{comma}
use Rattle.ng_base.specs.Meets.{◌>>=◌}
use Rattle.ng_base.specs.Objects.{Object, object_at, is_array}
use Rattle.ng_base.specs.Trimming.{trimmed}
use Rattle.ng_base.specs.Views.{ViewTree, prim, list, rec, views_from, views_list}
use Rattle.ng_base.specs.declared.value.Value.TheVariants as value
use Rattle.ng_base.specs.declared.fault.Fault.{Fault}
use Rattle.ng_language.specs.Objects.{items_at}
use Rattle.ng_language.specs.Operators.{strict_eq, view_num}
use Rattle.ng_language.specs.Texts.{to_text}
use Rattle.ng_language.specs.Unfolding.{prims}
use Rattle.ng_members.specs.Members.{view_or_undefined}
use Rattle.ng_members.specs.declared.methods.Method.{Method}
use Rattle.ng_members.specs.declared.methods.Method.TheVariants as methods

-- an array or a fresh list
abbrev pub is_list : List Object → ViewTree → Bool
is_list objects (prim (value.Obj o)) = is_array (object_at objects o.0).kind
is_list objects (prim v) = false
is_list objects (list ts) = true
is_list objects (rec fs) = false

-- the items of an array or a fresh list
abbrev pub items_of : List Object → ViewTree → List ViewTree
items_of objects (prim (value.Obj o)) = prims (items_at objects o.0)
items_of objects (prim v) = []
items_of objects (list ts) = views_list ts
items_of objects (rec fs) = []

-- the characters of a text
abbrev pub text_in : ViewTree → List ℕ
text_in (prim (value.Text t)) = t
text_in t = []

-- a place in a list or a text, or -1
abbrev pub place_or_none : Option ℕ → ViewTree
place_or_none None = prim (value.Int (negsuc 0))
place_or_none (Some n) = prim (value.Int (pos n))

-- the first item from a place on that is the same by `===`
abbrev pub place_of : ViewTree → ℕ → List ViewTree → Option ℕ
place_of x n [] = None
place_of x n (t ∷ ts) = if strict_eq t x then Some n else place_of x (suc n) ts

-- an argument; one that is missing is undefined
abbrev pub argument : List ViewTree → ℕ → ViewTree
argument args i = view_or_undefined (slice_get args i)

-- a number below 0 counts from the end, NaN is 0
abbrev pub from_end : ℕ → Option ℤ → ℕ
from_end n None = 0
from_end n (Some (pos k)) = min k n
from_end n (Some (negsuc k)) = n - suc k

-- an index among so many items; one that is missing or undefined stands for another
abbrev pub place_at : ℕ → ℕ → ViewTree → ℕ
place_at missing n (prim value.Undefined) = missing
place_at missing n t = from_end n (view_num t)

-- the items from the first place to the second
abbrev pub sliced : List ViewTree → List ViewTree → List ViewTree
sliced args items =
    take (place_at (length items) (length items) (argument args 1) - place_at 0 (length items) (argument args 0))
    (drop (place_at 0 (length items) (argument args 0)) items)

-- the parts of an argument of `concat`
abbrev pub parts_of : List Object → ViewTree → List ViewTree
parts_of objects t = if is_list objects t then items_of objects t else t ∷ []

-- items with those of the arguments behind them
abbrev pub concatenated : List Object → List ViewTree → List ViewTree → List ViewTree
concatenated objects items [] = items
concatenated objects items (t ∷ ts) = concatenated objects (items ++ parts_of objects t) ts

-- what stands between two items: a comma where the argument is missing or undefined
abbrev pub separator : List Object → ViewTree → Result (List ℕ) Fault
separator objects (prim value.Undefined) = Ok (comma ∷ [])
separator objects t = to_text objects t

-- an item's text: null and undefined are empty
abbrev pub part_text : List Object → ViewTree → Result (List ℕ) Fault
part_text objects (prim value.Undefined) = Ok []
part_text objects (prim value.Null) = Ok []
part_text objects t = to_text objects t

-- the items' texts behind a text, each behind a separator
abbrev pub joined_behind : List Object → List ℕ → List ℕ → List ViewTree → Result (List ℕ) Fault
joined_behind objects between done [] = Ok done
joined_behind objects between done (t ∷ ts) = part_text objects t >>= λ s. joined_behind objects between ((done ++ between) ++ s) ts

abbrev pub joined_items : List Object → List ℕ → List ViewTree → Result (List ℕ) Fault
joined_items objects between [] = Ok []
joined_items objects between (t ∷ ts) = part_text objects t >>= λ s. joined_behind objects between s ts

-- `join`
abbrev pub joined : List Object → ViewTree → List ViewTree → Result (List ℕ) Fault
joined objects between items = separator objects between >>= λ s. joined_items objects s items

-- whether a text begins with another
abbrev pub begins_with : List ℕ → List ℕ → Bool
begins_with [] t = true
begins_with (d ∷ ds) [] = false
begins_with (d ∷ ds) (c ∷ cs) = if nat_eq c d then begins_with ds cs else false

-- the first place from one on where a text stands in another
abbrev pub found_from : List ℕ → ℕ → List ℕ → Option ℕ
found_from s n [] = if begins_with s [] then Some n else None
found_from s n (c ∷ cs) = if begins_with s (c ∷ cs) then Some n else found_from s (suc n) cs

abbrev pub as_text : Result (List ℕ) Fault → Result ViewTree Fault
as_text (Ok t) = Ok (prim (value.Text t))
as_text (Err e) = Err e

-- what a method gives
unfoldable pub method_value : List Object → Method → ViewTree → List ViewTree → Result ViewTree Fault
method_value objects methods.IndexOf t args = Ok (place_or_none (place_of (argument args 0) 0 (items_of objects t)))
method_value objects methods.Slice t args = Ok (list (views_from (sliced args (items_of objects t))))
method_value objects methods.Concat t args = Ok (list (views_from (concatenated objects (items_of objects t) args)))
method_value objects methods.Join t args = as_text (joined objects (argument args 0) (items_of objects t))
method_value objects methods.Find t args = to_text objects (argument args 0) >>= λ s. Ok (place_or_none (found_from s 0 (text_in t)))
method_value objects methods.Trim t args = Ok (prim (value.Text (trimmed is_ascii_whitespace (text_in t))))
method_value objects methods.Upper t args = Ok (prim (value.Text (map to_ascii_uppercase (text_in t))))
method_value objects methods.Lower t args = Ok (prim (value.Text (map to_ascii_lowercase (text_in t))))

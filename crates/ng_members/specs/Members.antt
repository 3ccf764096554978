-- What stands under a name of a value (guide: Expressions, "Property Accessors").
use Rattle.std.specs.Prelude.{ℕ, pos, Bool, true, false, List, [], ◌∷◌, length, Option, Some, None, option_and_then, Result, Ok, slice_get, codes, ◌&&◌, if◌then◌else◌}
use Rattle.std.specs.Str.{bytes_eq}
use Rattle.std.specs.Map.{lookup}
use Rattle.ng_base.specs.Meets.{◌>>=◌}
use Rattle.ng_base.specs.Objects.{Object, object_at, is_array, index_of}
use Rattle.ng_base.specs.Views.{ViewTree, prim, list, rec, views_list, fields_list}
use Rattle.ng_base.specs.declared.value.Value.{Value}
use Rattle.ng_base.specs.declared.value.Value.TheVariants as value
use Rattle.ng_base.specs.declared.fault.Fault.{Fault}
use Rattle.ng_language.specs.Objects.{look, items_at}
use Rattle.ng_language.specs.Texts.{to_text}

abbrev pub undefined : ViewTree
undefined = prim value.Undefined

-- a name that isn't there reads as undefined
abbrev pub or_undefined : Option Value → ViewTree
or_undefined None = prim value.Undefined
or_undefined (Some v) = prim v

abbrev pub view_or_undefined : Option ViewTree → ViewTree
view_or_undefined None = prim value.Undefined
view_or_undefined (Some t) = t

abbrev pub is_length : List ℕ → Bool
is_length name = bytes_eq name (codes "length")

-- a number of items or characters
abbrev pub count : ℕ → ViewTree
count n = prim (value.Int (pos n))

-- the length of an array, and else what the object or its prototypes have
abbrev pub object_member : List Object → ℕ → List ℕ → ViewTree
object_member objects o name =
    if is_array (object_at objects o).kind && is_length name then count (length (items_at objects o))
    else or_undefined (look objects o name)

-- a character as a text
abbrev pub char_or_undefined : Option ℕ → ViewTree
char_or_undefined None = prim value.Undefined
char_or_undefined (Some c) = prim (value.Text (c ∷ []))

-- the item of a list under an index
abbrev pub indexed : {A : Type 0} → List A → List ℕ → Option A
indexed items name = option_and_then (λ i. slice_get items i) (index_of name)

-- texts count characters
abbrev pub text_member : List ℕ → List ℕ → ViewTree
text_member t name = if is_length name then count (length t) else char_or_undefined (indexed t name)

abbrev pub list_member : List ViewTree → List ℕ → ViewTree
list_member ts name = if is_length name then count (length ts) else view_or_undefined (indexed ts name)

abbrev pub record_member : List (List ℕ × ViewTree) → List ℕ → ViewTree
record_member fs name = view_or_undefined (lookup (bytes_eq name) fs)

-- undefined, null, numbers, truth values and functions have no members
unfoldable pub member : List Object → ViewTree → List ℕ → ViewTree
member objects (prim (value.Obj o)) name = object_member objects o.0 name
member objects (prim (value.Text t)) name = text_member t name
member objects (prim v) name = prim value.Undefined
member objects (list ts) name = list_member (views_list ts) name
member objects (rec fs) name = record_member (fields_list fs) name

abbrev pub has_members : ViewTree → Bool
has_members (prim (value.Obj o)) = true
has_members (prim (value.Text t)) = true
has_members (prim v) = false
has_members (list ts) = true
has_members (rec fs) = true

-- a member by index: the name is the text of the index
unfoldable pub item : List Object → ViewTree → ViewTree → Result ViewTree Fault
item objects t i = if has_members t then (to_text objects i >>= λ name. Ok (member objects t name)) else Ok (prim value.Undefined)

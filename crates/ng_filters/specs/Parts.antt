-- What filters read of a value: its items, its properties, its members.
use Rattle.std.specs.Prelude.{ℕ, ◌+◌, ℤ, pos, Bool, true, false, List, [], ◌∷◌, length, Option, Some, None, option_map, codes, decimal, ◌==◌, ◌&&◌, if◌then◌else◌}
use Rattle.std.specs.Map.{lookup}
use Rattle.std.specs.Str.{bytes_eq}
use Rattle.ng_base.specs.Objects.{Object, object_at, is_array}
use Rattle.ng_base.specs.Views.{ViewTree, ViewTrees, prim, list, rec, views_list, fields_list}
use Rattle.ng_base.specs.declared.heap.ObjKind.{ObjKind}
use Rattle.ng_base.specs.declared.value.Value.{Value}
use Rattle.ng_base.specs.declared.value.Value.TheVariants as value
use Rattle.ng_language.specs.Objects.{look}
use Rattle.ng_language.specs.Unfolding.{Field, prims, own_entries, in_key_order}
use Rattle.ng_filters.specs.declared.view_ref.Shape.{Shape}
use Rattle.ng_filters.specs.declared.view_ref.Shape.TheVariants as shapes

-- an array has items, every other object has names, functions stand apart, and the rest are primitives
abbrev pub shape_of_object : ObjKind → Shape
shape_of_object k = if is_array k then shapes.Items else shapes.Names

abbrev pub shape_of_value : List Object → Value → Shape
shape_of_value objects (value.Obj o) = shape_of_object (object_at objects o.0).kind
shape_of_value objects (value.Fun f) = shapes.Function
shape_of_value objects v = shapes.Primitive

abbrev pub shape_of : List Object → ViewTree → Shape
shape_of objects (prim v) = shape_of_value objects v
shape_of objects (list ts) = shapes.Items
shape_of objects (rec fs) = shapes.Names

-- the items of an array
abbrev pub items_of_value : List Object → Value → List ViewTree
items_of_value objects (value.Obj o) = prims (object_at objects o.0).items
items_of_value objects v = []

abbrev pub items : List Object → ViewTree → List ViewTree
items objects (prim v) = items_of_value objects v
items objects (list ts) = views_list ts
items objects (rec fs) = []

-- the items of a fresh list under their indices
abbrev pub indexed : ℕ → List ViewTree → List Field
indexed i [] = []
indexed i (t ∷ ts) = (decimal i, t) ∷ indexed (i + 1) ts

-- an object's own properties in the order of keys; those of an array are its items
abbrev pub properties_of_value : List Object → Value → List Field
properties_of_value objects (value.Obj o) = own_entries (object_at objects o.0)
properties_of_value objects v = []

abbrev pub properties : List Object → ViewTree → List Field
properties objects (prim v) = properties_of_value objects v
properties objects (list ts) = indexed 0 (views_list ts)
properties objects (rec fs) = in_key_order (fields_list fs)

abbrev pub undefined : ViewTree
undefined = prim value.Undefined

abbrev pub or_undefined : Option ViewTree → ViewTree
or_undefined None = undefined
or_undefined (Some t) = t

abbrev pub whole_number : ℕ → ViewTree
whole_number n = prim (value.Int (pos n))

-- the value under a name of an object, or of its prototypes
abbrev pub property_of_value : List Object → Value → List ℕ → Option ViewTree
property_of_value objects (value.Obj o) name = option_map prim (look objects o.0 name)
property_of_value objects v name = None

abbrev pub property : List Object → ViewTree → List ℕ → Option ViewTree
property objects (prim v) name = property_of_value objects v name
property objects (list ts) name = None
property objects (rec fs) name = lookup (bytes_eq name) (fields_list fs)

-- how many items an array has, or how many characters a text
abbrev pub length_of_value : List Object → Value → Option ℕ
length_of_value objects (value.Text t) = Some (length t)
length_of_value objects (value.Obj o) = if is_array (object_at objects o.0).kind then Some (length (object_at objects o.0).items) else None
length_of_value objects v = None

abbrev pub length_of : List Object → ViewTree → Option ℕ
length_of objects (prim v) = length_of_value objects v
length_of objects (list ts) = Some (length (views_list ts))
length_of objects (rec fs) = None

abbrev pub length_or : Option ℕ → ViewTree → ViewTree
length_or None t = t
length_or (Some n) t = whole_number n

-- a member by its name: arrays and texts have a `length`, and what is missing is undefined
abbrev pub member : List Object → ViewTree → List ℕ → ViewTree
member objects t name =
    if bytes_eq name (codes "length") then length_or (length_of objects t) (or_undefined (property objects t name))
    else or_undefined (property objects t name)

-- the member at the end of a dotted path; an empty path is the value itself
abbrev pub member_at : List Object → ViewTree → List (List ℕ) → ViewTree
member_at objects t [] = t
member_at objects t (name ∷ path) = member_at objects (member objects t name) path

-- What reads and changes the objects of a page.
use Rattle.std.specs.Prelude.{◌≡◌, ◌<◌, ◌^◌, ℕ, zero, suc, List, [], ◌∷◌, ◌++◌, ◌-◌, length, slice_index_or, Option, None, Some, bytes_eq}
use Rattle.std.specs.List.{AllByRecursion, IsDistinct}
use Rattle.std.specs.Map.{keys_of}
use Rattle.std.specs.Option.{IfSome}
use Rattle.indexmap.specs.IndexMap.{insert_entry}
use Rattle.ng_base.specs.Objects.{Object, object_at, own, StandsAmong}
use Rattle.ng_base.specs.declared.heap.ObjKind.{ObjKind}
use Rattle.ng_base.specs.declared.value.Value.{Value}
use Rattle.ng_base.specs.declared.value.Value.TheVariants as value

abbrev pub proto_of : List Object → ℕ → Option ℕ
proto_of objects o = (object_at objects o).proto

-- the first, or what the prototype gives
abbrev pub or_else_at : Option Value → Option ℕ → (ℕ → Option Value) → Option Value
or_else_at (Some v) p go = Some v
or_else_at None None go = None
or_else_at None (Some p) go = go p

-- the own value, else that of the prototype, through at most so many objects
abbrev pub look_within : ℕ → List Object → ℕ → List ℕ → Option Value
look_within zero objects o name = None
look_within (suc k) objects o name = or_else_at (own objects o name) (proto_of objects o) (λ p. look_within k objects p name)

-- the value under a name, of the object or of its prototypes: a prototype stands earlier, so there are at most o + 1
abbrev pub look : List Object → ℕ → List ℕ → Option Value
look objects o name = look_within (suc o) objects o name

-- one object is changed, and every other is as before
abbrev pub update_at : List Object → ℕ → (Object → Object) → List Object
update_at [] o f = []
update_at (x ∷ xs) zero f = f x ∷ xs
update_at (x ∷ xs) (suc o) f = x ∷ update_at xs o f

-- an object after a name is set: in its place, or at the end
abbrev pub with_property : List ℕ → Value → Object → Object
with_property name v x = record { kind = x.kind; proto = x.proto; items = x.items; properties = insert_entry bytes_eq x.properties name v }

-- a name of an object is set
abbrev pub set_name : List Object → ℕ → List ℕ → Value → List Object
set_name objects o name v = update_at objects o (with_property name v)

abbrev pub with_items : List Value → Object → Object
with_items items x = record { kind = x.kind; proto = x.proto; items = items; properties = x.properties }

abbrev pub items_at : List Object → ℕ → List Value
items_at objects o = (object_at objects o).items

abbrev pub first_item : List Value → Value
first_item items = slice_index_or items 0 value.Undefined

abbrev pub last_item : List Value → Value
last_item items = slice_index_or items (length items - 1) value.Undefined

-- an array has other items
abbrev pub set_items : List Object → ℕ → List Value → List Object
set_items objects o items = update_at objects o (with_items items)

-- a new object, behind the others
abbrev pub new_object : ObjKind → Option ℕ → Object
new_object kind proto = record { kind = kind; proto = proto; items = []; properties = [] }

-- the object at a place: its prototype stands earlier, its values name objects that stand, its names differ
pub record IsObjectAt (count : ℕ) (o : ℕ) (x : Object) : Type 0 where
  pub earlier : IfSome x.proto (λ p. p < o)
  pub few : length x.items < 2 ^ 32
  pub items : AllByRecursion (StandsAmong count) x.items
  pub properties : AllByRecursion (λ (p : List ℕ × Value). StandsAmong count p.1) x.properties
  pub distinct : IsDistinct bytes_eq (keys_of x.properties)

abbrev pub AreObjectsFrom : ℕ → ℕ → List Object → Type 0
AreObjectsFrom count o [] = Unit {0}
AreObjectsFrom count o (x ∷ xs) = IsObjectAt count o x × AreObjectsFrom count (suc o) xs

-- what holds of the objects of every store
abbrev pub AreObjects : List Object → Type 0
AreObjects objects = AreObjectsFrom (length objects) 0 objects

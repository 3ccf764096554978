-- What JSON is in a store.
use Rattle.std.specs.Prelude.{ℕ, suc, ℤ, ◌+◌, ◌++◌, Bool, true, false, List, [], ◌∷◌, length, Option, None, Some, is_some, option_and_then, Result, Ok, Err, nat_lt, bytes_eq, if◌then◌else◌}
use Rattle.std.specs.Str.{chars}
use Rattle.serde_json.specs.Data.{Num, Data, null, boolean, number, string, array, object, Items, no_items, item, Members, no_members, member}
use Rattle.serde_json.specs.Find.{as_i64}
use Rattle.serde_json.specs.Events.{items_len}
use Rattle.indexmap.specs.IndexMap.{insert_entry}
use Rattle.ng_base.specs.Objects.{Object}
use Rattle.ng_base.specs.declared.heap.ObjKind.TheVariants as kinds
use Rattle.ng_base.specs.declared.fault.Memory.TheVariants.{Worn}
use Rattle.ng_base.specs.declared.value.Value.{Value}
use Rattle.ng_base.specs.declared.value.Value.TheVariants as value
use Rattle.ng_language.specs.Numbers.{is_in_range}
use Rattle.ng_store.specs.Answers.{is_refused}
use Rattle.ng_store.specs.declared.json.JsonFault.{JsonFault}
use Rattle.ng_store.specs.declared.json.JsonFault.TheVariants.{Number, Full, Memory as OfMemory}

abbrev pub within_range : ℤ → Option ℤ
within_range n = if is_in_range n then Some n else None

-- a number as a whole number in range
abbrev pub whole : Num → Option ℤ
whole n = option_and_then within_range (as_i64 n)

-- each number is whole and in range
abbrev mutual
  pub is_whole : Data → Bool
  is_whole null = true
  is_whole (boolean b) = true
  is_whole (number n) = is_some (whole n)
  is_whole (string s) = true
  is_whole (array ds) = are_items_whole ds
  is_whole (object ms) = are_members_whole ms

  pub are_items_whole : Items → Bool
  are_items_whole no_items = true
  are_items_whole (item d ds) = if is_whole d then are_items_whole ds else false

  pub are_members_whole : Members → Bool
  are_members_whole no_members = true
  are_members_whole (member k d ms) = if is_whole d then are_members_whole ms else false

-- how many arrays and objects stand in it, itself counted
abbrev mutual
  pub objects_in : Data → ℕ
  objects_in null = 0
  objects_in (boolean b) = 0
  objects_in (number n) = 0
  objects_in (string s) = 0
  objects_in (array ds) = suc (objects_in_items ds)
  objects_in (object ms) = suc (objects_in_members ms)

  pub objects_in_items : Items → ℕ
  objects_in_items no_items = 0
  objects_in_items (item d ds) = objects_in d + objects_in_items ds

  pub objects_in_members : Members → ℕ
  objects_in_members no_members = 0
  objects_in_members (member k d ms) = objects_in d + objects_in_members ms

-- an array in it has 2^32 items or more
abbrev mutual
  pub is_long : Data → Bool
  is_long null = false
  is_long (boolean b) = false
  is_long (number n) = false
  is_long (string s) = false
  is_long (array ds) = if nat_lt (items_len ds) 4294967296 then are_items_long ds else true
  is_long (object ms) = are_members_long ms

  pub are_items_long : Items → Bool
  are_items_long no_items = false
  are_items_long (item d ds) = if is_long d then true else are_items_long ds

  pub are_members_long : Members → Bool
  are_members_long no_members = false
  are_members_long (member k d ms) = if is_long d then true else are_members_long ms

-- a value, with the objects that were made for it and before it
abbrev pub Placed : Type 0 → Type 0
Placed A = A × List Object

abbrev pub int_of : Option ℤ → Value
int_of (Some n) = value.Int n
int_of None = value.Undefined

abbrev pub array_of : List Value → Object
array_of items = record { kind = kinds.Array; proto = None; items = items; properties = [] }

abbrev pub plain_of : List (List ℕ × Value) → Object
plain_of properties = record { kind = kinds.Plain; proto = None; items = []; properties = properties }

-- the object that stands last among those made, behind so many others
abbrev pub last_made : ℕ → List Object → Object → Placed Value
last_made base made x = (value.Obj (record { 0 = base + length made }), made ++ x ∷ [])

abbrev pub placed_array : ℕ → Placed (List Value) → Placed Value
placed_array base r = last_made base r.1 (array_of r.0)

abbrev pub placed_object : ℕ → Placed (List (List ℕ × Value)) → Placed Value
placed_object base r = last_made base r.1 (plain_of r.0)

abbrev pub with_item : Placed Value → List Value → (List Object → List Value → Placed (List Value)) → Placed (List Value)
with_item r done go = go r.1 (done ++ r.0 ∷ [])

abbrev pub with_member : Placed Value → List ℕ → List (List ℕ × Value) → (List Object → List (List ℕ × Value) → Placed (List (List ℕ × Value))) → Placed (List (List ℕ × Value))
with_member r name done go = go r.1 (insert_entry bytes_eq done name r.0)

-- JSON as a value, where so many objects stand already: what is inside is made first, in order
abbrev mutual
  pub placed : ℕ → Data → List Object → Placed Value
  placed base null made = (value.Null, made)
  placed base (boolean b) made = (value.Bool b, made)
  placed base (number n) made = (int_of (whole n), made)
  placed base (string s) made = (value.Text (chars s), made)
  placed base (array ds) made = placed_array base (placed_items base ds made [])
  placed base (object ms) made = placed_object base (placed_members base ms made [])

  pub placed_items : ℕ → Items → List Object → List Value → Placed (List Value)
  placed_items base no_items made done = (done, made)
  placed_items base (item d ds) made done = with_item (placed base d made) done (placed_items base ds)

  pub placed_members : ℕ → Members → List Object → List (List ℕ × Value) → Placed (List (List ℕ × Value))
  placed_members base no_members made done = (done, made)
  placed_members base (member k d ms) made done = with_member (placed base d made) (chars k) done (placed_members base ms)

abbrev pub placed_where_it_fits : Bool → Bool → List Object → Data → Result Value JsonFault
placed_where_it_fits full long objects d = if full then Err Full else (if long then Err (OfMemory Worn) else Ok (placed (length objects) d []).0)

-- the value of JSON, or its refusal: a number first, then the objects that stand, then the length of an array
abbrev pub json_value : List Object → Data → Result Value JsonFault
json_value objects d =
    if is_whole d then placed_where_it_fits (nat_lt 1000000 (length objects + objects_in d)) (is_long d) objects d else Err Number

-- the objects after JSON was read
abbrev pub with_json : List Object → Data → List Object
with_json objects d = objects ++ (placed (length objects) d []).1

abbrev pub is_json_want : JsonFault → Bool
is_json_want (OfMemory m) = is_refused m
is_json_want _ = false

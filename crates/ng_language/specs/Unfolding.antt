-- What a snapshot or a text unfolds of a value, level by level, within a count of levels and of nodes.
use Rattle.std.specs.Prelude.{ℕ, zero, suc, ◌≡◌, Bool, true, false, List, [], ◌∷◌, ◌++◌, map, Option, Some, None, Result, Ok, Err, nat_eq, ◌==◌, ◌||◌, if◌then◌else◌}
use Rattle.std.specs.BTreeMap.{insert_entry}
use Rattle.std.specs.Ordering.{nat_cmp}
use Rattle.std.specs.Map.{values_of}
use Rattle.ng_base.specs.Codes.{dollar_sign}
use Rattle.ng_base.specs.Meets.{◌>>=◌}
use Rattle.ng_base.specs.Objects.{Object, object_at, own_of, names_of, index_of}
use Rattle.ng_base.specs.Order.{txt_cmp}
use Rattle.ng_base.specs.Views.{ViewTree, ViewTrees, ViewFields, prim, list, rec, no_views, no_fields, views_from, fields_from, views_list, fields_list}
use Rattle.ng_base.specs.declared.heap.ObjKind.{ObjKind}
use Rattle.ng_base.specs.declared.heap.ObjKind.TheVariants as kinds
use Rattle.ng_base.specs.declared.value.Value.{Value}
use Rattle.ng_base.specs.declared.value.Value.TheVariants as value
use Rattle.ng_base.specs.declared.fault.Fault.{Fault}
use Rattle.ng_base.specs.declared.fault.Fault.TheVariants.{TooBig}
use Rattle.ng_language.specs.declared.unfolding.Mode.{Mode}
use Rattle.ng_language.specs.declared.unfolding.Mode.TheVariants as modes
use Rattle.ng_language.specs.declared.unfolding.Below.{Below}
use Rattle.ng_language.specs.declared.unfolding.Below.TheVariants as below

-- what of a stored object is unfolded
abbrev pub below_object : Mode → ObjKind → Below
below_object modes.Reference k = below.Nothing
below_object modes.Flat k = below.Nothing
below_object modes.Text kinds.Array = below.Items
below_object modes.Text k = below.Nothing
below_object m kinds.Array = below.Items
below_object modes.Deep kinds.Scope = below.Nothing
below_object modes.Json kinds.Scope = below.Nothing
below_object m k = below.Names

-- whether fresh lists, and whether fresh records are unfolded
abbrev pub unfolds_lists : Mode → Bool
unfolds_lists modes.Flat = false
unfolds_lists m = true

abbrev pub unfolds_records : Mode → Bool
unfolds_records modes.Flat = false
unfolds_records modes.Text = false
unfolds_records m = true

-- what is asked of the items, and of the named values, one level below
abbrev pub item_mode : Mode → Mode
item_mode modes.Collection = modes.Reference
item_mode m = m

abbrev pub name_mode : Mode → Mode
name_mode modes.Collection = modes.Reference
name_mode modes.Words = modes.Flat
name_mode m = m

abbrev pub is_nothing : ViewTree → Bool
is_nothing (prim value.Undefined) = true
is_nothing (prim (value.Fun f)) = true
is_nothing t = false

-- a name that begins with `$`, or with `$$`
abbrev pub is_dollar : List ℕ → Bool
is_dollar [] = false
is_dollar (c ∷ cs) = c == dollar_sign

abbrev pub is_dollars : List ℕ → Bool
is_dollars [] = false
is_dollars (c ∷ cs) = if c == dollar_sign then is_dollar cs else false

-- a named value that is left out
abbrev pub is_left_out : Mode → List ℕ → ViewTree → Bool
is_left_out modes.Deep name t = if is_dollar name then true else is_nothing t
is_left_out modes.Json name t = if is_dollars name then true else is_nothing t
is_left_out m name t = false

abbrev pub Field : Type 0
Field = List ℕ × ViewTree

-- the named values of an object in the order of keys
abbrev pub with_entry : List ℕ → Option Value → List Field → List Field
with_entry name None fs = fs
with_entry name (Some v) fs = (name, prim v) ∷ fs

abbrev pub entries_of : Object → List (List ℕ) → List Field
entries_of x [] = []
entries_of x (name ∷ names) = with_entry name (own_of x name) (entries_of x names)

abbrev pub own_entries : Object → List Field
own_entries x = entries_of x (names_of x)

-- fields in the order of keys: those with an index ascending, then the others
abbrev pub with_indexed : List (ℕ × Field) → Option ℕ → Field → List (ℕ × Field)
with_indexed done None f = done
with_indexed done (Some i) f = insert_entry nat_cmp done i f

abbrev pub indexed_from : List (ℕ × Field) → List Field → List (ℕ × Field)
indexed_from done [] = done
indexed_from done (f ∷ fs) = indexed_from (with_indexed done (index_of f.0) f) fs

abbrev pub with_other : Option ℕ → Field → List Field → List Field
with_other None f fs = f ∷ fs
with_other (Some i) f fs = fs

abbrev pub others_of : List Field → List Field
others_of [] = []
others_of (f ∷ fs) = with_other (index_of f.0) f (others_of fs)

abbrev pub in_key_order : List Field → List Field
in_key_order fs = values_of (indexed_from [] fs) ++ others_of fs

-- fields in the order of their names' bytes
abbrev pub sorted_from : List Field → List Field → List Field
sorted_from done [] = done
sorted_from done (f ∷ fs) = sorted_from (insert_entry txt_cmp done f.0 f.1) fs

-- the order of the fields of a fresh record, and of an object, whose names stand in the order of keys already
abbrev pub record_order : Mode → List Field → List Field
record_order modes.Deep fs = sorted_from [] fs
record_order m fs = in_key_order fs

abbrev pub object_order : Mode → List Field → List Field
object_order modes.Deep fs = sorted_from [] fs
object_order m fs = fs

-- what was made, and how many nodes may still come
abbrev pub Spent : Type 0 → Type 0
Spent A = Result (A × ℕ) Fault

abbrev pub and_then : {A B : Type 0} → Spent A → (A → ℕ → Spent B) → Spent B
and_then (Ok r) go = go r.0 r.1
and_then (Err e) go = Err e

-- the items in order, behind those that were made
abbrev pub unfold_items : (ViewTree → ℕ → Spent ViewTree) → List ViewTree → List ViewTree → ℕ → Spent (List ViewTree)
unfold_items go [] done left = Ok (done, left)
unfold_items go (t ∷ ts) done left = and_then (go t left) (λ u rest. unfold_items go ts (done ++ u ∷ []) rest)

-- the named values in order, behind those that were made, without what is left out
abbrev pub unfold_fields : Mode → (ViewTree → ℕ → Spent ViewTree) → List Field → List Field → ℕ → Spent (List Field)
unfold_fields m go [] done left = Ok (done, left)
unfold_fields m go (f ∷ fs) done left =
    if is_left_out m f.0 f.1 then unfold_fields m go fs done left
    else and_then (go f.1 left) (λ u rest. unfold_fields m go fs (done ++ (f.0, u) ∷ []) rest)

abbrev pub as_list : Spent (List ViewTree) → Spent ViewTree
as_list r = and_then r (λ ts left. Ok (list (views_from ts), left))

abbrev pub as_record : (List Field → List Field) → Spent (List Field) → Spent ViewTree
as_record order r = and_then r (λ fs left. Ok (rec (fields_from (order fs)), left))

abbrev pub prims : List Value → List ViewTree
prims [] = []
prims (v ∷ vs) = prim v ∷ prims vs

abbrev pub unfold_object : Mode → (Mode → ViewTree → ℕ → Spent ViewTree) → Below → Value → Object → ℕ → Spent ViewTree
unfold_object m go below.Nothing v x left = Ok (prim v, left)
unfold_object m go below.Items v x left = as_list (unfold_items (go (item_mode m)) (prims x.items) [] left)
unfold_object m go below.Names v x left = as_record (object_order m) (unfold_fields m (go (name_mode m)) (own_entries x) [] left)

abbrev pub unfold_value : Mode → (Mode → ViewTree → ℕ → Spent ViewTree) → List Object → Value → ℕ → Spent ViewTree
unfold_value m go objects (value.Obj o) left = unfold_object m go (below_object m (object_at objects o.0).kind) (value.Obj o) (object_at objects o.0) left
unfold_value m go objects v left = Ok (prim v, left)

abbrev pub unfold_list : Mode → (Mode → ViewTree → ℕ → Spent ViewTree) → ViewTrees → ℕ → Spent ViewTree
unfold_list m go ts left = if unfolds_lists m then as_list (unfold_items (go (item_mode m)) (views_list ts) [] left) else Ok (list no_views, left)

abbrev pub unfold_record : Mode → (Mode → ViewTree → ℕ → Spent ViewTree) → ViewFields → ℕ → Spent ViewTree
unfold_record m go fs left = if unfolds_records m then as_record (record_order m) (unfold_fields m (go (name_mode m)) (fields_list fs) [] left) else Ok (rec no_fields, left)

abbrev pub unfold_view : Mode → (Mode → ViewTree → ℕ → Spent ViewTree) → List Object → ViewTree → ℕ → Spent ViewTree
unfold_view m go objects (prim v) left = unfold_value m go objects v left
unfold_view m go objects (list ts) left = unfold_list m go ts left
unfold_view m go objects (rec fs) left = unfold_record m go fs left

-- a value unfolded through so many levels, itself counted, and so many nodes: TooBig where one more is wanted
abbrev pub unfold_within : ℕ → List Object → Mode → ViewTree → ℕ → Spent ViewTree
unfold_within zero objects m t left = Err TooBig
unfold_within (suc k) objects m t zero = Err TooBig
unfold_within (suc k) objects m t (suc left) = unfold_view m (unfold_within k objects) objects t left

-- 100 levels below the value, and 100,000 nodes, the value counted
unfoldable pub level_limit : ℕ
level_limit = 101

unfoldable pub node_limit : ℕ
node_limit = 100000

abbrev pub made : {A : Type 0} → Spent A → Result A Fault
made (Ok r) = Ok r.0
made (Err e) = Err e

-- a value as a snapshot or a text has it, or TooBig
abbrev pub unfolded : Mode → List Object → ViewTree → Result ViewTree Fault
unfolded m objects t = made (unfold_within level_limit objects m t node_limit)

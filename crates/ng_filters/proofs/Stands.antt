-- What filters read and give names objects that stand.
use Rattle.std.proofs.Common.{◌≡◌, ◌∙◌, ◌+◌, ◌-◌, ◌<◌, ℕ, zero, suc, ℤ, pos, negsuc, Bool, true, false, List, [], ◌∷◌, ◌++◌, map, length, take, drop, Option, Some, None, refl, sym, ap, subst, if◌then◌else◌, Ordering, Less, Equal, Greater, decimal, cond, bytes_eq}
use Rattle.std.specs.Prelude.{Result, Ok, Err}
use Rattle.std.specs.BTreeMap.{insert_entry}
use Rattle.std.specs.List.{AllByRecursion}
use Rattle.std.specs.Map.{lookup, values_of}
use Rattle.std.specs.Ordering.{match_ordering, nat_cmp}
use Rattle.ng_base.specs.Meets.{◌>>=◌}
use Rattle.ng_base.specs.Objects.{Object, object_at, own_of, names_of, index_of, StandsAmong}
use Rattle.ng_base.specs.Views.{ViewTree, ViewTrees, ViewFields, prim, list, rec, no_views, view_then, views_from, views_list, fields_list}
use Rattle.ng_base.specs.declared.fault.Fault.{Fault}
use Rattle.ng_base.specs.declared.value.Value.{Value}
use Rattle.ng_base.specs.declared.value.Value.TheVariants as value
use Rattle.ng_language.specs.Objects.{AreObjects, IsObjectAt}
use Rattle.ng_language.specs.Unfolding.{Field, prims, with_entry, entries_of, own_entries, with_indexed, indexed_from, with_other, others_of, in_key_order, is_nothing}
use Rattle.ng_language.specs.Operators.{truthy}
use Rattle.ng_language.specs.Texts.{json_text}
use Rattle.ng_language.specs.Views.{ViewStands, ViewsStand, FieldsStand}
use Rattle.ng_store.proofs.ObjectReads.{object_is}
use Rattle.ng_store.proofs.Looks.{own_stands}
use Rattle.ng_value.proofs.ViewParts.{views_stand, fields_stand}
use Rattle.ng_filters.specs.declared.table.Filter.{Filter}
use Rattle.ng_filters.specs.declared.table.Filter.TheVariants as filters
use Rattle.ng_filters.specs.declared.view_ref.Shape.{Shape}
use Rattle.ng_filters.specs.declared.view_ref.Shape.TheVariants as shapes
use Rattle.ng_filters.specs.Known.{named}
use Rattle.ng_filters.specs.Parts.{shape_of, items, indexed, properties, undefined}
use Rattle.ng_filters.specs.Casing.{uppercase, lowercase}
use Rattle.ng_filters.specs.Numbers.{number, json, formatted, indent}
use Rattle.ng_filters.specs.Limits.{whole, part, between, window, begin_at, part_of_primitive, part_by, limited_by, limited}
use Rattle.ng_filters.specs.Matching.{item_matches, kept_with, matching_from, matching, filtered_by, filtered}
use Rattle.ng_filters.specs.Ordering.{predicates, in_order, is_before, ordered_by, ordered}
use Rattle.ng_filters.specs.declared.predicates.Predicate.{Predicate}
use Rattle.ng_filters.specs.Applied.{first_of, second_of, applied_by, applied_if, applied}
use Rattle.ng_filters.proofs.Sorts.{all_in_order}

abbrev pub FieldStands : ℕ → Field → Type 0
FieldStands n f = ViewStands n f.1

prims_stand : (n : ℕ) (vs : List Value) → AllByRecursion (StandsAmong n) vs → AllByRecursion (ViewStands n) (prims vs)
prims_stand n [] a = tt
prims_stand n (v ∷ vs) a = (a.0, prims_stand n vs a.1)

pub items_stand : (objects : List Object) (t : ViewTree) → AreObjects objects → ViewStands (length objects) t → AllByRecursion (ViewStands (length objects)) (items objects t)
items_stand objects (prim value.Undefined) a s = tt
items_stand objects (prim value.Null) a s = tt
items_stand objects (prim (value.Bool b)) a s = tt
items_stand objects (prim (value.Int n)) a s = tt
items_stand objects (prim value.Nan) a s = tt
items_stand objects (prim (value.Text t)) a s = tt
items_stand objects (prim (value.Obj o)) a s = prims_stand (length objects) (object_at objects o.0).items (object_is objects o.0 s a).items
items_stand objects (prim (value.Fun f)) a s = tt
items_stand objects (list ts) a s = views_stand (length objects) ts s
items_stand objects (rec fs) a s = tt

entries_stand : (n o : ℕ) (x : Object) → IsObjectAt n o x → (names : List (List ℕ)) → AllByRecursion (FieldStands n) (entries_of x names)
entries_stand n o x a [] = tt
entries_stand n o x a (name ∷ names) = by (own_of x name) refl (entries_stand n o x a names)
  where
    by : (u : Option Value) → own_of x name ≡ u → AllByRecursion (FieldStands n) (entries_of x names) → AllByRecursion (FieldStands n) (with_entry name u (entries_of x names))
    by None e more = more
    by (Some v) e more = (own_stands n o x name v a e, more)

indexed_stand : (n i : ℕ) (ts : List ViewTree) → AllByRecursion (ViewStands n) ts → AllByRecursion (FieldStands n) (indexed i ts)
indexed_stand n i [] a = tt
indexed_stand n i (t ∷ ts) a = (a.0, indexed_stand n (i + 1) ts a.1)

abbrev EntryStands : ℕ → ℕ × Field → Type 0
EntryStands n e = FieldStands n e.1

inserted_stand : (n : ℕ) (es : List (ℕ × Field)) (i : ℕ) (f : Field) → AllByRecursion (EntryStands n) es → FieldStands n f → AllByRecursion (EntryStands n) (insert_entry nat_cmp es i f)
inserted_stand n [] i f a s = (s, tt)
inserted_stand n (e ∷ es) i f a s = by (nat_cmp i e.0) (inserted_stand n es i f a.1 s)
  where
    by : (o : Ordering) → AllByRecursion (EntryStands n) (insert_entry nat_cmp es i f) → AllByRecursion (EntryStands n) (match_ordering o ((i, f) ∷ e ∷ es) ((e.0, f) ∷ es) (e ∷ insert_entry nat_cmp es i f))
    by Less more = (s, a)
    by Equal more = (s, a.1)
    by Greater more = (a.0, more)

indexed_from_stand : (n : ℕ) (done : List (ℕ × Field)) (fs : List Field) → AllByRecursion (EntryStands n) done → AllByRecursion (FieldStands n) fs → AllByRecursion (EntryStands n) (indexed_from done fs)
indexed_from_stand n done [] d a = d
indexed_from_stand n done (f ∷ fs) d a = indexed_from_stand n (with_indexed done (index_of f.0) f) fs (by (index_of f.0)) a.1
  where
    by : (i : Option ℕ) → AllByRecursion (EntryStands n) (with_indexed done i f)
    by None = d
    by (Some i) = inserted_stand n done i f d a.0

values_stand : (n : ℕ) (es : List (ℕ × Field)) → AllByRecursion (EntryStands n) es → AllByRecursion (FieldStands n) (values_of es)
values_stand n [] a = tt
values_stand n (e ∷ es) a = (a.0, values_stand n es a.1)

others_stand : (n : ℕ) (fs : List Field) → AllByRecursion (FieldStands n) fs → AllByRecursion (FieldStands n) (others_of fs)
others_stand n [] a = tt
others_stand n (f ∷ fs) a = by (index_of f.0) (others_stand n fs a.1)
  where
    by : (i : Option ℕ) → AllByRecursion (FieldStands n) (others_of fs) → AllByRecursion (FieldStands n) (with_other i f (others_of fs))
    by None more = (a.0, more)
    by (Some i) more = more

all_append : {X : Type 0} (P : X → Type 0) (xs ys : List X) → AllByRecursion P xs → AllByRecursion P ys → AllByRecursion P (xs ++ ys)
all_append P [] ys a b = b
all_append P (x ∷ xs) ys a b = (a.0, all_append P xs ys a.1 b)

pub properties_stand : (objects : List Object) (t : ViewTree) → AreObjects objects → ViewStands (length objects) t → AllByRecursion (FieldStands (length objects)) (properties objects t)
properties_stand objects (prim value.Undefined) a s = tt
properties_stand objects (prim value.Null) a s = tt
properties_stand objects (prim (value.Bool b)) a s = tt
properties_stand objects (prim (value.Int n)) a s = tt
properties_stand objects (prim value.Nan) a s = tt
properties_stand objects (prim (value.Text t)) a s = tt
properties_stand objects (prim (value.Obj o)) a s = entries_stand (length objects) o.0 (object_at objects o.0) (object_is objects o.0 s a) (names_of (object_at objects o.0))
properties_stand objects (prim (value.Fun f)) a s = tt
properties_stand objects (list ts) a s = indexed_stand (length objects) 0 (views_list ts) (views_stand (length objects) ts s)
properties_stand objects (rec fs) a s =
    let all = fields_stand (length objects) fs s in
    all_append (FieldStands (length objects)) (values_of (indexed_from [] (fields_list fs))) (others_of (fields_list fs))
    (values_stand (length objects) (indexed_from [] (fields_list fs)) (indexed_from_stand (length objects) [] (fields_list fs) tt all))
    (others_stand (length objects) (fields_list fs) all)

-- results
from_stands : (n : ℕ) (ts : List ViewTree) → AllByRecursion (ViewStands n) ts → ViewsStand n (views_from ts)
from_stands n [] a = tt
from_stands n (t ∷ ts) a = (a.0, from_stands n ts a.1)

all_drop : {X : Type 0} (P : X → Type 0) (i : ℕ) (xs : List X) → AllByRecursion P xs → AllByRecursion P (drop i xs)
all_drop P zero xs a = a
all_drop P (suc i) [] a = tt
all_drop P (suc i) (x ∷ xs) a = all_drop P i xs a.1

all_take : {X : Type 0} (P : X → Type 0) (i : ℕ) (xs : List X) → AllByRecursion P xs → AllByRecursion P (take i xs)
all_take P zero xs a = tt
all_take P (suc i) [] a = tt
all_take P (suc i) (x ∷ xs) a = (a.0, all_take P i xs a.1)

uppercase_stands : (n : ℕ) (t : ViewTree) → ViewStands n t → ViewStands n (uppercase t)
uppercase_stands n (prim value.Undefined) s = s
uppercase_stands n (prim value.Null) s = s
uppercase_stands n (prim (value.Bool b)) s = s
uppercase_stands n (prim (value.Int m)) s = s
uppercase_stands n (prim value.Nan) s = s
uppercase_stands n (prim (value.Text t)) s = tt
uppercase_stands n (prim (value.Obj o)) s = s
uppercase_stands n (prim (value.Fun f)) s = s
uppercase_stands n (list ts) s = s
uppercase_stands n (rec fs) s = s

lowercase_stands : (n : ℕ) (t : ViewTree) → ViewStands n t → ViewStands n (lowercase t)
lowercase_stands n (prim value.Undefined) s = s
lowercase_stands n (prim value.Null) s = s
lowercase_stands n (prim (value.Bool b)) s = s
lowercase_stands n (prim (value.Int m)) s = s
lowercase_stands n (prim value.Nan) s = s
lowercase_stands n (prim (value.Text t)) s = tt
lowercase_stands n (prim (value.Obj o)) s = s
lowercase_stands n (prim (value.Fun f)) s = s
lowercase_stands n (list ts) s = s
lowercase_stands n (rec fs) s = s

number_stands : (n : ℕ) (t size : ViewTree) → ViewStands n (number t size)
number_stands n (prim value.Undefined) size = tt
number_stands n (prim value.Null) size = tt
number_stands n (prim (value.Bool b)) size = tt
number_stands n (prim (value.Int m)) size = tt
number_stands n (prim value.Nan) size = tt
number_stands n (prim (value.Text t)) size = tt
number_stands n (prim (value.Obj o)) size = tt
number_stands n (prim (value.Fun f)) size = tt
number_stands n (list ts) size = tt
number_stands n (rec fs) size = tt

-- a result, where there is one, names objects that stand
abbrev ResultStands : ℕ → Result ViewTree Fault → Type 0
ResultStands n (Ok t) = ViewStands n t
ResultStands n (Err e) = Unit {0}

text_stands : (n : ℕ) (r : Result (List ℕ) Fault) → ResultStands n (r >>= λ s. Ok (prim (value.Text s)))
text_stands n (Ok s) = tt
text_stands n (Err e) = tt

json_stands : (n : ℕ) (objects : List Object) (t spacing : ViewTree) → ResultStands n (json objects t spacing)
json_stands n objects (prim value.Undefined) spacing = tt
json_stands n objects (prim value.Null) spacing = text_stands n _
json_stands n objects (prim (value.Bool b)) spacing = text_stands n _
json_stands n objects (prim (value.Int m)) spacing = text_stands n _
json_stands n objects (prim value.Nan) spacing = text_stands n _
json_stands n objects (prim (value.Text t)) spacing = text_stands n _
json_stands n objects (prim (value.Obj o)) spacing = text_stands n _
json_stands n objects (prim (value.Fun f)) spacing = text_stands n _
json_stands n objects (list ts) spacing = text_stands n _
json_stands n objects (rec fs) spacing = text_stands n _

primitive_part_stands : (k : ℕ) (n : ℤ) (begin t : ViewTree) → ViewStands k t → ViewStands k (part_of_primitive n begin t)
primitive_part_stands k n begin (prim value.Undefined) s = s
primitive_part_stands k n begin (prim value.Null) s = s
primitive_part_stands k n begin (prim (value.Bool b)) s = s
primitive_part_stands k n begin (prim (value.Int m)) s = tt
primitive_part_stands k n begin (prim value.Nan) s = tt
primitive_part_stands k n begin (prim (value.Text t)) s = tt
primitive_part_stands k n begin (prim (value.Obj o)) s = s
primitive_part_stands k n begin (prim (value.Fun f)) s = s
primitive_part_stands k n begin (list ts) s = s
primitive_part_stands k n begin (rec fs) s = s

part_stands : (k : ℕ) (n : ℤ) (begin : ViewTree) (ts : List ViewTree) → AllByRecursion (ViewStands k) ts → AllByRecursion (ViewStands k) (part n begin ts)
part_stands k n begin ts a =
    let w = window n (begin_at (whole begin) (length ts)) (length ts) in
    all_take (ViewStands k) (w.1 - w.0) (drop w.0 ts) (all_drop (ViewStands k) w.0 ts a)

limited_stands : (objects : List Object) (t limit begin : ViewTree) → AreObjects objects → ViewStands (length objects) t → ViewStands (length objects) (limited objects t limit begin)
limited_stands objects t limit begin a s = by (whole limit)
  where
    shaped : (h : Shape) (n : ℤ) → ViewStands (length objects) (part_by h objects n begin t)
    shaped shapes.Items n = from_stands (length objects) (part n begin (items objects t)) (part_stands (length objects) n begin (items objects t) (items_stand objects t a s))
    shaped shapes.Names n = primitive_part_stands (length objects) n begin t s
    shaped shapes.Function n = primitive_part_stands (length objects) n begin t s
    shaped shapes.Primitive n = primitive_part_stands (length objects) n begin t s

    by : (w : Option ℤ) → ViewStands (length objects) (limited_by w objects t begin)
    by None = s
    by (Some n) = shaped (shape_of objects t) n

abbrev ListStands : ℕ → Result (List ViewTree) Fault → Type 0
ListStands n (Ok ts) = AllByRecursion (ViewStands n) ts
ListStands n (Err e) = Unit {0}

kept_stands : (n : ℕ) (t : ViewTree) (done : List ViewTree) (b : Bool) → AllByRecursion (ViewStands n) done → ViewStands n t → AllByRecursion (ViewStands n) (kept_with b t done)
kept_stands n t done true d s = all_append (ViewStands n) done (t ∷ []) d (s, tt)
kept_stands n t done false d s = d

matching_stands : (n : ℕ) (objects : List Object) (p : ViewTree) (done ts : List ViewTree) → AllByRecursion (ViewStands n) done → AllByRecursion (ViewStands n) ts → ListStands n (matching_from objects p done ts)
matching_stands n objects p done [] d a = d
matching_stands n objects p done (t ∷ ts) d a = by (item_matches objects p t) (λ found. matching_stands n objects p (kept_with found t done) ts (kept_stands n t done found d a.0) a.1)
  where
    by : (r : Result Bool Fault) → ((found : Bool) → ListStands n (matching_from objects p (kept_with found t done) ts)) → ListStands n (r >>= λ found. matching_from objects p (kept_with found t done) ts)
    by (Ok found) more = more found
    by (Err e) more = tt

as_list_stands : (n : ℕ) (r : Result (List ViewTree) Fault) → ListStands n r → ResultStands n (r >>= λ ts. Ok (list (views_from ts)))
as_list_stands n (Ok ts) a = from_stands n ts a
as_list_stands n (Err e) a = tt

filtered_stands : (objects : List Object) (t p : ViewTree) → AreObjects objects → ViewStands (length objects) t → ResultStands (length objects) (filtered objects t p)
filtered_stands objects t p a s = by (shape_of objects t)
  where
    all : AllByRecursion (ViewStands (length objects)) (items objects t)
    all = items_stand objects t a s

    some : (b : Bool) → ListStands (length objects) (if b then Ok (items objects t) else matching_from objects p [] (items objects t))
    some true = all
    some false = matching_stands (length objects) objects p [] (items objects t) tt all

    by : (h : Shape) → ResultStands (length objects) (filtered_by h objects t p)
    by shapes.Items = as_list_stands (length objects) (matching objects p (items objects t)) (some (is_nothing p))
    by shapes.Names = s
    by shapes.Function = s
    by shapes.Primitive = s

ordered_stands : (objects : List Object) (t p reversed : ViewTree) → AreObjects objects → ViewStands (length objects) t → ResultStands (length objects) (ordered objects t p reversed)
ordered_stands objects t p reversed a s = by (shape_of objects t)
  where
    sorted : (r : Result (List Predicate) Fault) → ResultStands (length objects) (r >>= λ ps. Ok (list (views_from (in_order (is_before objects (truthy reversed) ps) (items objects t)))))
    sorted (Ok ps) = from_stands (length objects) _ (all_in_order (ViewStands (length objects)) (is_before objects (truthy reversed) ps) (items objects t) (items_stand objects t a s))
    sorted (Err e) = tt

    by : (h : Shape) → ResultStands (length objects) (ordered_by h objects t p reversed)
    by shapes.Items = sorted (predicates objects p)
    by shapes.Names = s
    by shapes.Function = s
    by shapes.Primitive = s

filter_stands : (f : Filter) (objects : List Object) (input : ViewTree) (args : ViewTrees) → AreObjects objects → ViewStands (length objects) input → ResultStands (length objects) (applied_by f objects input args)
filter_stands filters.Uppercase objects input args a s = uppercase_stands (length objects) input s
filter_stands filters.Lowercase objects input args a s = lowercase_stands (length objects) input s
filter_stands filters.Number objects input args a s = number_stands (length objects) input (first_of args)
filter_stands filters.Json objects input args a s = json_stands (length objects) objects input (first_of args)
filter_stands filters.LimitTo objects input args a s = limited_stands objects input (first_of args) (second_of args) a s
filter_stands filters.Matching objects input args a s = filtered_stands objects input (first_of args) a s
filter_stands filters.OrderBy objects input args a s = ordered_stands objects input (first_of args) (second_of args) a s

pub applied_stands : (objects : List Object) (name : List ℕ) (input : ViewTree) (args : ViewTrees) (v : ViewTree) → AreObjects objects → ViewStands (length objects) input → applied objects name input args ≡ Ok v → ViewStands (length objects) v
applied_stands objects name input args v a s h = subst (ResultStands (length objects)) h (by (named name))
  where
    by : (f : Option Filter) → ResultStands (length objects) (applied_if f objects input args)
    by None = s
    by (Some f) = filter_stands f objects input args a s

-- what is read of an array and of a record
first_of_rest : (n i : ℕ) (ts us : List ViewTree) (t : ViewTree) → AllByRecursion (ViewStands n) ts → drop i ts ≡ t ∷ us → ViewStands n t
first_of_rest n i ts us t a h = let b : AllByRecursion (ViewStands n) (t ∷ us) = subst (AllByRecursion (ViewStands n)) h (all_drop (ViewStands n) i ts a) in b.0

pub list_item_stands : (n i : ℕ) (ts : ViewTrees) (us : List ViewTree) (t : ViewTree) → ViewsStand n ts → drop i (views_list ts) ≡ t ∷ us → ViewStands n t
list_item_stands n i ts us t s h = first_of_rest n i (views_list ts) us t (views_stand n ts s) h

found_stands : (n : ℕ) (name : List ℕ) (fs : List Field) (t : ViewTree) → AllByRecursion (FieldStands n) fs → lookup (bytes_eq name) fs ≡ Some t → ViewStands n t
found_stands n name [] t a h = absurd (cc)
found_stands n name (f ∷ fs) t a h = by (bytes_eq name f.0) (λ k. found_stands n name fs t a.1 k) h
  where
    by : (b : Bool) → (lookup (bytes_eq name) fs ≡ Some t → ViewStands n t) → cond b (Some f.1) (lookup (bytes_eq name) fs) ≡ Some t → ViewStands n t
    by true more k = let e : f.1 ≡ t = cc in subst (ViewStands n) e a.0
    by false more k = more k

pub field_stands : (n : ℕ) (name : List ℕ) (fs : ViewFields) (t : ViewTree) → FieldsStand n fs → lookup (bytes_eq name) (fields_list fs) ≡ Some t → ViewStands n t
field_stands n name fs t s h = found_stands n name (fields_list fs) t (fields_stand n fs s) h

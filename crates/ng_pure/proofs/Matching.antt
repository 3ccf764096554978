-- The filter `filter` over values, and over the views that these show, where the lists of its pattern are short.
use Rattle.std.proofs.Common.{◌≡◌, ◌∙◌, ◌<◌, ◌+◌, ◌^◌, ℕ, zero, suc, Bool, true, false, not, List, [], ◌∷◌, ◌++◌, length, refl, sym, ap, subst, Option, Some, None, bytes_eq, if◌then◌else◌, codes, Ordering, Less, Equal, Greater, nat_cmp}
use Rattle.std.specs.Prelude.{Result, Ok, Err, option_map}
use Rattle.std.specs.BTreeMap.{insert_entry}
use Rattle.std.specs.List.{AllByRecursion}
use Rattle.std.specs.Map.{lookup, values_of}
use Rattle.std.specs.Ordering.{match_ordering}
use Rattle.ng_base.specs.Meets.{◌>>=◌}
use Rattle.ng_base.specs.Objects.{Object, object_at, own_of, index_of, StandsAmong}
use Rattle.ng_base.specs.Views.{ViewTree, ViewTrees, ViewFields, prim, list, rec, no_views, view_then, no_fields, field_then, views_from, views_list, fields_list}
use Rattle.ng_base.specs.declared.name.Oid.{Oid}
use Rattle.ng_base.specs.declared.value.Value.{Value}
use Rattle.ng_base.specs.declared.value.Value.TheVariants as value
use Rattle.ng_base.specs.declared.fault.Fault.{Fault}
use Rattle.ng_language.specs.Objects.{look, IsObjectAt}
use Rattle.ng_language.specs.Unfolding.{Field, Spent, and_then, made, is_dollar, is_nothing, with_entry, entries_of, own_entries, with_indexed, indexed_from, with_other, others_of, in_key_order}
use Rattle.ng_filters.specs.Matching.{alone_matches, Asked, some_item, some_property, is_any, held_matches, property_matches, every_property, is_object, object_matches, shape_matches, negated, opposite, match_by, match_within, level_limit, match_limit, is_primitive, or_else, pattern_for, item_matches, kept_with, matching_from, matching, filtered_by, filtered}
use Rattle.ng_filters.specs.Parts.{shape_of, shape_of_object, items, indexed, properties, property, member}
use Rattle.ng_store.proofs.Looks.{own_stands}
use Rattle.ng_store.proofs.ObjectReads.{object_is}
use Rattle.ng_pure.specs.Patterns.{HasShortLists, AllHaveShortLists, FieldsHaveShortLists}
use Rattle.ng_pure.proofs.Shown.{Grown, Seen, AllBy, AllSeen, FieldsSeen, OptionBy, ResultBy, one_more}
use Rattle.ng_pure.proofs.Alike.{seen_same}
use Rattle.ng_pure.proofs.Texts.{SpentBy, spent_then}
use Rattle.ng_pure.proofs.Methods.{Given, GivenResult, given_list, given_seen}
use Rattle.ng_pure.proofs.Filters.{shape_same, items_shown, of_kind}
use Rattle.ng_pure.proofs.Orders.{Fits, property_seen, part_member_seen}
use Rattle.ng_pure.proofs.KeyOrder.{plain_entries}
use Rattle.ng_pure.proofs.ListOrder.{array_entries}

-- a list has fewer items than 2^32, whatever stands in them
abbrev IsShort : ViewTree → Type 0
IsShort (prim v) = Unit {0}
IsShort (list ts) = length (views_list ts) < 2 ^ 32
IsShort (rec fs) = Unit {0}

short_first : (t : ViewTree) → HasShortLists t → IsShort t
short_first (prim v) h = tt
short_first (list ts) h = h.0
short_first (rec fs) h = tt

-- what is no list itself
abbrev NotList : ViewTree → Type 0
NotList (prim v) = Unit {0}
NotList (list ts) = ⊥
NotList (rec fs) = Unit {0}

short_else : (t : ViewTree) → NotList t → IsShort t
short_else (prim v) h = tt
short_else (list ts) h = absurd h
short_else (rec fs) h = tt

fits : (name : List ℕ) (t : ViewTree) → NotList t → Fits name t
fits name (prim v) h = tt
fits name (list ts) h = absurd h
fits name (rec fs) h = tt

-- a list has nothing under `$`
fits_dollar : (t : ViewTree) → Fits (codes "$") t
fits_dollar (prim v) = tt
fits_dollar (list ts) = refl
fits_dollar (rec fs) = tt

-- the own values of an object of before
old_entry : (n from : ℕ) (now : List Object) (name : List ℕ) (u : Option Value) (rest : List Field) → ((v : Value) → u ≡ Some v → StandsAmong n v) → FieldsSeen n from now rest rest → FieldsSeen n from now (with_entry name u rest) (with_entry name u rest)
old_entry n from now name None rest h s = s
old_entry n from now name (Some v) rest h s = ((refl, (refl, h v refl)), s)

pub old_entries : (n from o : ℕ) (now : List Object) (x : Object) → IsObjectAt n o x → (names : List (List ℕ)) → FieldsSeen n from now (entries_of x names) (entries_of x names)
old_entries n from o now x a [] = tt
old_entries n from o now x a (name ∷ names) = old_entry n from now name (own_of x name) (entries_of x names) (λ v e. own_stands n o x name v a e) (old_entries n from o now x a names)

properties_seen : (from : ℕ) (before now : List Object) → Grown before now → (u t : ViewTree) → IsShort t → Seen (length before) from now u t → FieldsSeen (length before) from now (properties now u) (properties before t)
properties_seen from before now g (prim v) (prim w) h s = subst (λ x. FieldsSeen (length before) from now (properties now (prim x)) (properties before (prim w))) (sym s.0) (by w s.1)
  where
    by : (w : Value) → StandsAmong (length before) w → FieldsSeen (length before) from now (properties now (prim w)) (properties before (prim w))
    by (value.Obj o) k =
        subst (λ (x : Object). FieldsSeen (length before) from now (own_entries x) (own_entries (object_at before o.0))) (sym (g.unchanged o.0 k))
        (old_entries (length before) from o.0 now (object_at before o.0) (object_is before o.0 k g.sound) _)
    by w k = tt
properties_seen from before now g (prim v) (list ts) h s =
    subst (λ x. FieldsSeen (length before) from now (properties now (prim x)) (indexed 0 (views_list ts))) (sym s.2)
    (subst (λ (x : Object). FieldsSeen (length before) from now (own_entries x) (indexed 0 (views_list ts))) (sym s.5) (array_entries (length before) from now s.1 ts h s.6))
properties_seen from before now g (prim v) (rec fs) h s =
    subst (λ x. FieldsSeen (length before) from now (properties now (prim x)) (in_key_order (fields_list fs))) (sym s.2)
    (subst (λ (x : Object). FieldsSeen (length before) from now (own_entries x) (in_key_order (fields_list fs))) (sym s.5) (plain_entries (length before) from now s.1 fs s.6 s.7))
properties_seen from before now g (list us) t h s = absurd s
properties_seen from before now g (rec fs) t h s = absurd s

-- what holds of each field holds of each in the order of keys
abbrev Of : (Field → Type 0) → ℕ × Field → Type 0
Of P e = P e.1

all_appended : {X : Type 0} (P : X → Type 0) (xs ys : List X) → AllByRecursion P xs → AllByRecursion P ys → AllByRecursion P (xs ++ ys)
all_appended P [] ys a b = b
all_appended P (x ∷ xs) ys a b = (a.0, all_appended P xs ys a.1 b)

all_inserted : (P : Field → Type 0) (i : ℕ) (f : Field) → P f → (es : List (ℕ × Field)) → AllByRecursion (Of P) es → AllByRecursion (Of P) (insert_entry nat_cmp es i f)
all_inserted P i f h [] a = (h, tt)
all_inserted P i f h (e ∷ es) a = by (nat_cmp i e.0) (all_inserted P i f h es a.1)
  where
    by : (o : Ordering) → AllByRecursion (Of P) (insert_entry nat_cmp es i f) → AllByRecursion (Of P) (match_ordering o ((i, f) ∷ e ∷ es) ((e.0, f) ∷ es) (e ∷ insert_entry nat_cmp es i f))
    by Less rest = (h, a)
    by Equal rest = (h, a.1)
    by Greater rest = (a.0, rest)

all_indexed : (P : Field → Type 0) (fs : List Field) (es : List (ℕ × Field)) → AllByRecursion P fs → AllByRecursion (Of P) es → AllByRecursion (Of P) (indexed_from es fs)
all_indexed P [] es a b = b
all_indexed P (f ∷ fs) es a b = all_indexed P fs (with_indexed es (index_of f.0) f) a.1 (by (index_of f.0))
  where
    by : (o : Option ℕ) → AllByRecursion (Of P) (with_indexed es o f)
    by None = b
    by (Some i) = all_inserted P i f a.0 es b

all_values : (P : Field → Type 0) (es : List (ℕ × Field)) → AllByRecursion (Of P) es → AllByRecursion P (values_of es)
all_values P [] a = tt
all_values P (e ∷ es) a = (a.0, all_values P es a.1)

all_others : (P : Field → Type 0) (fs : List Field) → AllByRecursion P fs → AllByRecursion P (others_of fs)
all_others P [] a = tt
all_others P (f ∷ fs) a = by (index_of f.0) (all_others P fs a.1)
  where
    by : (o : Option ℕ) → AllByRecursion P (others_of fs) → AllByRecursion P (with_other o f (others_of fs))
    by None rest = (a.0, rest)
    by (Some i) rest = rest

abbrev FieldHasShortLists : Field → Type 0
FieldHasShortLists f = HasShortLists f.1

fields_short : (fs : ViewFields) → FieldsHaveShortLists fs → AllByRecursion FieldHasShortLists (fields_list fs)
fields_short no_fields h = tt
fields_short (field_then name t fs) h = (h.0, fields_short fs h.1)

entry_short : (name : List ℕ) (u : Option Value) (rest : List Field) → AllByRecursion FieldHasShortLists rest → AllByRecursion FieldHasShortLists (with_entry name u rest)
entry_short name None rest a = a
entry_short name (Some v) rest a = (tt, a)

entries_short : (x : Object) (names : List (List ℕ)) → AllByRecursion FieldHasShortLists (entries_of x names)
entries_short x [] = tt
entries_short x (name ∷ names) = entry_short name (own_of x name) (entries_of x names) (entries_short x names)

items_short : (i : ℕ) (ts : ViewTrees) → AllHaveShortLists ts → AllByRecursion FieldHasShortLists (indexed i (views_list ts))
items_short i no_views h = tt
items_short i (view_then t ts) h = (h.0, items_short (i + 1) ts h.1)

properties_short : (before : List Object) (t : ViewTree) → HasShortLists t → AllByRecursion FieldHasShortLists (properties before t)
properties_short before (prim (value.Obj o)) h = entries_short (object_at before o.0) _
properties_short before (prim w) h = tt
properties_short before (list ts) h = items_short 0 ts h.1
properties_short before (rec fs) h =
    let a = fields_short fs h in
    all_appended FieldHasShortLists (values_of (indexed_from [] (fields_list fs))) (others_of (fields_list fs))
    (all_values FieldHasShortLists (indexed_from [] (fields_list fs)) (all_indexed FieldHasShortLists (fields_list fs) [] a tt)) (all_others FieldHasShortLists (fields_list fs) a)

-- the same answer with as much spent
abbrev Same : Bool → Bool → Type 0
Same a b = a ≡ b

abbrev SpentSame : Spent Bool → Spent Bool → Type 0
SpentSame x y = SpentBy Same x y

same_choice : (b c : Bool) (x y u v : Spent Bool) → b ≡ c → SpentSame x y → SpentSame u v → SpentSame (if b then x else u) (if c then y else v)
same_choice true true x y u v e s r = s
same_choice true false x y u v e s r = absurd (cc)
same_choice false true x y u v e s r = absurd (cc)
same_choice false false x y u v e s r = r

some_items : (S : ViewTree → ViewTree → Type 0) (f g : ViewTree → ℕ → Spent Bool) → ((u t : ViewTree) → S u t → (left : ℕ) → SpentSame (f u left) (g t left)) → (us ts : List ViewTree) → AllBy S us ts → (left : ℕ) → SpentSame (some_item f us left) (some_item g ts left)
some_items S f g h [] [] s left = (refl, refl)
some_items S f g h [] (t ∷ ts) s left = absurd s
some_items S f g h (u ∷ us) [] s left = absurd s
some_items S f g h (u ∷ us) (t ∷ ts) s left =
    spent_then Same Same (f u left) (g t left) (λ found rest. if found then Ok (true, rest) else some_item f us rest) (λ found rest. if found then Ok (true, rest) else some_item g ts rest) (h u t s.0 left)
    (λ a b e rest. same_choice a b (Ok (true, rest)) (Ok (true, rest)) (some_item f us rest) (some_item g ts rest) e (refl, refl) (some_items S f g h us ts s.1 rest))

some_properties : (n from : ℕ) (now : List Object) (f g : ViewTree → ℕ → Spent Bool) → ((u t : ViewTree) → Seen n from now u t → (left : ℕ) → SpentSame (f u left) (g t left)) → (fs gs : List Field) → FieldsSeen n from now fs gs → (left : ℕ) → SpentSame (some_property f fs left) (some_property g gs left)
some_properties n from now f g h [] [] s left = (refl, refl)
some_properties n from now f g h [] (y ∷ gs) s left = absurd s
some_properties n from now f g h (x ∷ fs) [] s left = absurd s
some_properties n from now f g h (x ∷ fs) (y ∷ gs) s left =
    same_choice (is_dollar x.0) (is_dollar y.0) (some_property f fs left) (some_property g gs left)
    (and_then (f x.1 left) (λ found rest. if found then Ok (true, rest) else some_property f fs rest)) (and_then (g y.1 left) (λ found rest. if found then Ok (true, rest) else some_property g gs rest))
    (ap is_dollar s.0.0) (some_properties n from now f g h fs gs s.1 left)
    (spent_then Same Same (f x.1 left) (g y.1 left) (λ found rest. if found then Ok (true, rest) else some_property f fs rest) (λ found rest. if found then Ok (true, rest) else some_property g gs rest) (h x.1 y.1 s.0.1 left)
    (λ a b e rest. same_choice a b (Ok (true, rest)) (Ok (true, rest)) (some_property f fs rest) (some_property g gs rest) e (refl, refl) (some_properties n from now f g h fs gs s.1 rest)))

-- two matches that agree
abbrev Agree : ℕ → ℕ → List Object → Asked → Asked → Type 0
Agree n from now ask to = (u t p q : ViewTree) (any : Bool) → HasShortLists q → Seen n from now u t → Seen n from now p q → (left : ℕ) → SpentSame (ask u p any left) (to t q any left)

nothing_same : (n from : ℕ) (now : List Object) (p q : ViewTree) → Seen n from now p q → is_nothing p ≡ is_nothing q
nothing_same n from now p q s = seen_same n from now is_nothing (λ o ts. refl) (λ o fs. refl) p q s

property_step : (from : ℕ) (before now : List Object) → Grown before now → (ask to : Asked) → Agree (length before) from now ask to → (u t : ViewTree) → NotList t → Seen (length before) from now u t → (name : List ℕ) (p q : ViewTree) → HasShortLists q → Seen (length before) from now p q → (left : ℕ)
    → SpentSame (property_matches now ask u (name, p) left) (property_matches before to t (name, q) left)
property_step from before now g ask to h u t k s name p q l r left = by (is_any name)
  where
    n : ℕ
    n = length before

    by : (b : Bool) → SpentSame (held_matches now ask b (if b then u else member now u name) p left) (held_matches before to b (if b then t else member before t name) q left)
    by true =
        same_choice (is_nothing p) (is_nothing q) (Ok (true, left)) (Ok (true, left)) (some_property (λ w. ask w p true) (properties now u) left) (some_property (λ w. to w q true) (properties before t) left)
        (nothing_same n from now p q r) (refl, refl)
        (some_properties n from now (λ w. ask w p true) (λ w. to w q true) (λ x y z rest. h x y p q true l z r rest) (properties now u) (properties before t) (properties_seen from before now g u t (short_else t k) s) left)
    by false =
        same_choice (is_nothing p) (is_nothing q) (Ok (true, left)) (Ok (true, left)) (ask (member now u name) p false left) (to (member before t name) q false left)
        (nothing_same n from now p q r) (refl, refl)
        (h (member now u name) (member before t name) p q false l (part_member_seen from before now name g u t (fits name t k) s) r left)

every_step : (from : ℕ) (before now : List Object) → Grown before now → (ask to : Asked) → Agree (length before) from now ask to → (u t : ViewTree) → NotList t → Seen (length before) from now u t → (fs gs : List Field) → FieldsSeen (length before) from now fs gs → AllByRecursion FieldHasShortLists gs → (left : ℕ)
    → SpentSame (every_property now ask u fs left) (every_property before to t gs left)
every_step from before now g ask to h u t k s [] [] r l left = (refl, refl)
every_step from before now g ask to h u t k s [] (y ∷ gs) r l left = absurd r
every_step from before now g ask to h u t k s (x ∷ fs) [] r l left = absurd r
every_step from before now g ask to h u t k s (x ∷ fs) (y ∷ gs) r l left =
    spent_then Same Same (property_matches now ask u x left) (property_matches before to t y left) (λ found rest. if found then every_property now ask u fs rest else Ok (false, rest)) (λ found rest. if found then every_property before to t gs rest else Ok (false, rest))
    (subst (λ m. SpentSame (property_matches now ask u x left) (property_matches before to t (m, y.1) left)) r.0.0 (property_step from before now g ask to h u t k s x.0 x.1 y.1 l.0 r.0.1 left))
    (λ a b e rest. same_choice a b (every_property now ask u fs rest) (every_property before to t gs rest) (Ok (false, rest)) (Ok (false, rest)) e (every_step from before now g ask to h u t k s fs gs r.1 l.1 rest) (refl, refl))

object_step : (from : ℕ) (before now : List Object) → Grown before now → (ask to : Asked) → Agree (length before) from now ask to → (u t p q : ViewTree) → NotList t → HasShortLists q → Seen (length before) from now u t → Seen (length before) from now p q → (any : Bool) (left : ℕ)
    → SpentSame (object_matches now ask u p any left) (object_matches before to t q any left)
object_step from before now g ask to h u t p q k l s r true left =
    spent_then Same Same (some_property (λ x. ask x p true) (properties now u) left) (some_property (λ x. to x q true) (properties before t) left) (λ found rest. if found then Ok (true, rest) else ask u p false rest) (λ found rest. if found then Ok (true, rest) else to t q false rest)
    (some_properties (length before) from now (λ w. ask w p true) (λ w. to w q true) (λ x y z rest. h x y p q true l z r rest) (properties now u) (properties before t) (properties_seen from before now g u t (short_else t k) s) left)
    (λ a b e rest. same_choice a b (Ok (true, rest)) (Ok (true, rest)) (ask u p false rest) (to t q false rest) e (refl, refl) (h u t p q false l s r rest))
object_step from before now g ask to h u t p q k l s r false left =
    same_choice (is_object (shape_of now p)) (is_object (shape_of before q)) (every_property now ask u (properties now p) left) (every_property before to t (properties before q) left) (Ok (false, left)) (Ok (false, left))
    (ap is_object (shape_same from before now g p q r))
    (every_step from before now g ask to h u t k s (properties now p) (properties before q) (properties_seen from before now g p q (short_first q l) r) (properties_short before q l) left) (refl, refl)

alone_list : (v : Value) (o : Oid) (ts : ViewTrees) → alone_matches (prim v) (prim (value.Obj o)) ≡ alone_matches (prim v) (list ts)
alone_list value.Undefined o ts = refl
alone_list value.Null o ts = refl
alone_list (value.Bool b) o ts = refl
alone_list (value.Int i) o ts = refl
alone_list value.Nan o ts = refl
alone_list (value.Text t) o ts = refl
alone_list (value.Obj p) o ts = refl
alone_list (value.Fun f) o ts = refl

alone_rec : (v : Value) (o : Oid) (fs : ViewFields) → alone_matches (prim v) (prim (value.Obj o)) ≡ alone_matches (prim v) (rec fs)
alone_rec value.Undefined o ts = refl
alone_rec value.Null o ts = refl
alone_rec (value.Bool b) o ts = refl
alone_rec (value.Int i) o ts = refl
alone_rec value.Nan o ts = refl
alone_rec (value.Text t) o ts = refl
alone_rec (value.Obj p) o ts = refl
alone_rec (value.Fun f) o ts = refl

alone_step : (n from : ℕ) (now : List Object) (v : Value) (p q : ViewTree) (left : ℕ) → Seen n from now p q → SpentSame (Ok (alone_matches (prim v) p, left)) (Ok (alone_matches (prim v) q, left))
alone_step n from now v p q left r = (seen_same n from now (alone_matches (prim v)) (alone_list v) (alone_rec v) p q r, refl)

-- by the shape of the value
shape_step : (from : ℕ) (before now : List Object) → Grown before now → (ask to : Asked) → Agree (length before) from now ask to → (u t p q : ViewTree) → HasShortLists q → Seen (length before) from now u t → Seen (length before) from now p q → (any : Bool) (left : ℕ)
    → SpentSame (shape_matches (shape_of now u) now ask u p any left) (shape_matches (shape_of before t) before to t q any left)
shape_step from before now g ask to h u t p q l s r any left =
    subst (λ x. SpentSame (shape_matches x now ask u p any left) (shape_matches (shape_of before t) before to t q any left)) (sym (shape_same from before now g u t s)) (by t s)
  where
    n : ℕ
    n = length before

    listed : (t : ViewTree) → Seen n from now u t → SpentSame (some_item (λ x. ask x p any) (items now u) left) (some_item (λ x. to x q any) (items before t) left)
    listed t s = some_items (Seen n from now) (λ x. ask x p any) (λ x. to x q any) (λ x y z rest. h x y p q any l z r rest) (items now u) (items before t) (items_shown from before now g u t s) left

    object : (t : ViewTree) → NotList t → Seen n from now u t → SpentSame (object_matches now ask u p any left) (object_matches before to t q any left)
    object t k s = object_step from before now g ask to h u t p q k l s r any left

    alone : (w : Value) → Seen n from now u (prim w) → SpentSame (Ok (alone_matches u p, left)) (Ok (alone_matches (prim w) q, left))
    alone w s = subst (λ x. SpentSame (Ok (alone_matches x p, left)) (Ok (alone_matches (prim w) q, left))) (sym (same_view u w s)) (alone_step n from now w p q left r)
      where
        same_view : (u : ViewTree) (w : Value) → Seen n from now u (prim w) → u ≡ prim w
        same_view (prim v) w s = ap (λ x. prim x) s.0
        same_view (list us) w s = absurd s
        same_view (rec fs) w s = absurd s

    by : (t : ViewTree) → Seen n from now u t → SpentSame (shape_matches (shape_of before t) now ask u p any left) (shape_matches (shape_of before t) before to t q any left)
    by (prim (value.Obj o)) s =
        of_kind shape_of_object (λ x. SpentSame (shape_matches x now ask u p any left) (shape_matches x before to (prim (value.Obj o)) q any left))
        (listed (prim (value.Obj o)) s) (object (prim (value.Obj o)) tt s) refl refl (object_at before o.0).kind
    by (prim (value.Fun f)) s = (refl, refl)
    by (prim value.Undefined) s = alone value.Undefined s
    by (prim value.Null) s = alone value.Null s
    by (prim (value.Bool b)) s = alone (value.Bool b) s
    by (prim (value.Int i)) s = alone (value.Int i) s
    by (prim value.Nan) s = alone value.Nan s
    by (prim (value.Text x)) s = alone (value.Text x) s
    by (list ts) s = listed (list ts) s
    by (rec fs) s = object (rec fs) tt s

opposite_same : (x y : Spent Bool) → SpentSame x y → SpentSame (opposite x) (opposite y)
opposite_same x y s = spent_then Same Same x y (λ found left. Ok (not found, left)) (λ found left. Ok (not found, left)) s (λ a b e left. (ap not e, refl))

negated_same : (n from : ℕ) (now : List Object) (p q : ViewTree) → Seen n from now p q → negated p ≡ negated q
negated_same n from now p q s = seen_same n from now negated (λ o ts. refl) (λ o fs. refl) p q s

match_step : (from : ℕ) (before now : List Object) → Grown before now → (ask to : Asked) → Agree (length before) from now ask to → (u t p q : ViewTree) → HasShortLists q → Seen (length before) from now u t → Seen (length before) from now p q → (any : Bool) (left : ℕ)
    → SpentSame (match_by (negated p) now ask u p any left) (match_by (negated q) before to t q any left)
match_step from before now g ask to h u t p q l s r any left =
    subst (λ m. SpentSame (match_by m now ask u p any left) (match_by (negated q) before to t q any left)) (sym (negated_same (length before) from now p q r)) (by (negated q))
  where
    by : (m : Option (List ℕ)) → SpentSame (match_by m now ask u p any left) (match_by m before to t q any left)
    by (Some rest) = opposite_same (ask u (prim (value.Text rest)) any left) (to t (prim (value.Text rest)) any left) (h u t (prim (value.Text rest)) (prim (value.Text rest)) any tt s (refl, tt) left)
    by None = shape_step from before now g ask to h u t p q l s r any left

within : (from : ℕ) (before now : List Object) → Grown before now → (k : ℕ) → Agree (length before) from now (match_within k now) (match_within k before)
within from before now g zero u t p q any l s r left = refl
within from before now g (suc k) u t p q any l s r zero = refl
within from before now g (suc k) u t p q any l s r (suc left) = match_step from before now g (match_within k now) (match_within k before) (within from before now g k) u t p q l s r any left

made_same : (x y : Spent Bool) → SpentSame x y → made x ≡ made y
made_same (Ok a) (Ok b) s = ap (λ z. (let r : Result Bool Fault = Ok z in r)) s.0
made_same (Ok a) (Err e) s = absurd s
made_same (Err d) (Ok b) s = absurd s
made_same (Err d) (Err e) s = ap (λ z. (let r : Result Bool Fault = Err z in r)) s

-- the pattern that an item is held against
found_short : (name : List ℕ) (fs : ViewFields) (t : ViewTree) → FieldsHaveShortLists fs → lookup (bytes_eq name) (fields_list fs) ≡ Some t → HasShortLists t
found_short name no_fields t h e = absurd (cc)
found_short name (field_then m u fs) t h e = by (bytes_eq name m) e (found_short name fs t h.1)
  where
    by : (b : Bool) → (if b then Some u else lookup (bytes_eq name) (fields_list fs)) ≡ Some t → (lookup (bytes_eq name) (fields_list fs) ≡ Some t → HasShortLists t) → HasShortLists t
    by true k rest = subst HasShortLists (let f : u ≡ t = cc in f) h.0
    by false k rest = rest k

prim_short : (o : Option Value) (t : ViewTree) → (let r : Option ViewTree = option_map prim o in r) ≡ Some t → HasShortLists t
prim_short None t e = absurd (cc)
prim_short (Some v) t e = subst HasShortLists (let f : prim v ≡ t = cc in f) tt

property_short : (before : List Object) (name : List ℕ) (q t : ViewTree) → HasShortLists q → property before q name ≡ Some t → HasShortLists t
property_short before name (prim (value.Obj o)) t l e = prim_short (look before o.0 name) t e
property_short before name (prim w) t l e = absurd (cc)
property_short before name (list ts) t l e = absurd (cc)
property_short before name (rec fs) t l e = found_short name fs t l e

record Pattern (n from : ℕ) (now : List Object) (p q : ViewTree) : Type 0 where
  short : HasShortLists q
  seen : Seen n from now p q

chosen_pattern : (from : ℕ) (before now : List Object) (a b : Option ViewTree) (p q : ViewTree) → OptionBy (Seen (length before) from now) a b → ((t : ViewTree) → b ≡ Some t → HasShortLists t) → HasShortLists q → Seen (length before) from now p q → Pattern (length before) from now (or_else a p) (or_else b q)
chosen_pattern from before now None None p q s h l r = record { short = l; seen = r }
chosen_pattern from before now None (Some b) p q s h l r = absurd s
chosen_pattern from before now (Some a) None p q s h l r = absurd s
chosen_pattern from before now (Some a) (Some b) p q s h l r = record { short = h b refl; seen = s }

pattern_step : (from : ℕ) (before now : List Object) → Grown before now → (p q u t : ViewTree) → HasShortLists q → Seen (length before) from now p q → Seen (length before) from now u t → Pattern (length before) from now (pattern_for now p u) (pattern_for before q t)
pattern_step from before now g p q u t l r s =
    subst (λ b. Pattern (length before) from now (if b then or_else (property now p (codes "$")) p else p) (pattern_for before q t)) (sym (ap is_primitive (shape_same from before now g u t s))) (by (is_primitive (shape_of before t)))
  where
    by : (b : Bool) → Pattern (length before) from now (if b then or_else (property now p (codes "$")) p else p) (if b then or_else (property before q (codes "$")) q else q)
    by true = chosen_pattern from before now (property now p (codes "$")) (property before q (codes "$")) p q (property_seen from before now (codes "$") g p q (fits_dollar q) r) (λ x e. property_short before (codes "$") q x l e) l r
    by false = record { short = l; seen = r }

item_same : (from : ℕ) (before now : List Object) → Grown before now → (p q u t : ViewTree) → HasShortLists q → Seen (length before) from now p q → Seen (length before) from now u t → item_matches now p u ≡ item_matches before q t
item_same from before now g p q u t l r s =
    let w = pattern_step from before now g p q u t l r s in
    ap (λ b. made (match_within level_limit now u (pattern_for now p u) b match_limit)) (ap is_primitive (shape_same from before now g p q r))
    ∙ made_same (match_within level_limit now u (pattern_for now p u) (is_primitive (shape_of before q)) match_limit) (match_within level_limit before t (pattern_for before q t) (is_primitive (shape_of before q)) match_limit)
    (within from before now g level_limit u t (pattern_for now p u) (pattern_for before q t) (is_primitive (shape_of before q)) w.short s w.seen match_limit)

kept_seen : (n from : ℕ) (now : List Object) (b : Bool) (u t : ViewTree) (us ts : List ViewTree) → Seen n from now u t → AllSeen n from now us ts → AllSeen n from now (kept_with b u us) (kept_with b t ts)
kept_seen n from now true u t us ts s r = one_more (Seen n from now) us ts u t r s
kept_seen n from now false u t us ts s r = r

result_then : {A : Type 0} (n from : ℕ) (now : List Object) (x y : Result A Fault) (f g : A → Result (List ViewTree) Fault) → x ≡ y → ((a : A) → ResultBy (AllSeen n from now) (f a) (g a)) → ResultBy (AllSeen n from now) (x >>= f) (y >>= g)
result_then n from now x (Ok a) f g e h = subst (λ z. ResultBy (AllSeen n from now) (z >>= f) (g a)) (sym e) (h a)
result_then n from now x (Err d) f g e h = subst (λ z. ResultBy (AllSeen n from now) (z >>= f) (Err d)) (sym e) refl

from_step : (from : ℕ) (before now : List Object) → Grown before now → (p q : ViewTree) → HasShortLists q → Seen (length before) from now p q → (us ts ds es : List ViewTree) → AllSeen (length before) from now us ts → AllSeen (length before) from now ds es
    → ResultBy (AllSeen (length before) from now) (matching_from now p ds us) (matching_from before q es ts)
from_step from before now g p q l r [] [] ds es s d = d
from_step from before now g p q l r [] (t ∷ ts) ds es s d = absurd s
from_step from before now g p q l r (u ∷ us) [] ds es s d = absurd s
from_step from before now g p q l r (u ∷ us) (t ∷ ts) ds es s d =
    result_then (length before) from now (item_matches now p u) (item_matches before q t) (λ found. matching_from now p (kept_with found u ds) us) (λ found. matching_from before q (kept_with found t es) ts)
    (item_same from before now g p q u t l r s.0)
    (λ b. from_step from before now g p q l r us ts (kept_with b u ds) (kept_with b t es) s.1 (kept_seen (length before) from now b u t ds es s.0 d))

choose_by : (n from : ℕ) (now : List Object) (b c : Bool) (x y u v : Result (List ViewTree) Fault) → b ≡ c → ResultBy (AllSeen n from now) x y → ResultBy (AllSeen n from now) u v → ResultBy (AllSeen n from now) (if b then x else u) (if c then y else v)
choose_by n from now true true x y u v e s r = s
choose_by n from now true false x y u v e s r = absurd (cc)
choose_by n from now false true x y u v e s r = absurd (cc)
choose_by n from now false false x y u v e s r = r

listed_result : (n from : ℕ) (now : List Object) (x y : Result (List ViewTree) Fault) → ResultBy (AllSeen n from now) x y → GivenResult n from now (x >>= λ ts. Ok (list (views_from ts))) (y >>= λ ts. Ok (list (views_from ts)))
listed_result n from now (Ok us) (Ok ts) s = given_list n from now us ts s
listed_result n from now (Ok us) (Err e) s = absurd s
listed_result n from now (Err d) (Ok ts) s = absurd s
listed_result n from now (Err d) (Err e) s = s

pub filtered_given : (from : ℕ) (before now : List Object) → Grown before now → (u t p q : ViewTree) → HasShortLists q → Seen (length before) from now u t → Seen (length before) from now p q
    → GivenResult (length before) from now (filtered now u p) (filtered before t q)
filtered_given from before now g u t p q l s r =
    subst (λ x. GivenResult n from now (filtered_by x now u p) (filtered_by (shape_of before t) before t q)) (sym (shape_same from before now g u t s)) (by t s)
  where
    n : ℕ
    n = length before

    listed : (t : ViewTree) → Seen n from now u t → GivenResult n from now (matching now p (items now u) >>= λ ts. Ok (list (views_from ts))) (matching before q (items before t) >>= λ ts. Ok (list (views_from ts)))
    listed t s =
        listed_result n from now (matching now p (items now u)) (matching before q (items before t))
        (choose_by n from now (is_nothing p) (is_nothing q) (Ok (items now u)) (Ok (items before t)) (matching_from now p [] (items now u)) (matching_from before q [] (items before t))
        (nothing_same n from now p q r) (items_shown from before now g u t s)
        (from_step from before now g p q l r (items now u) (items before t) [] [] (items_shown from before now g u t s) tt))

    same : (t : ViewTree) → Seen n from now u t → Given n from now u t
    same t s = given_seen n from now u t s

    by : (t : ViewTree) → Seen n from now u t → GivenResult n from now (filtered_by (shape_of before t) now u p) (filtered_by (shape_of before t) before t q)
    by (prim (value.Obj o)) s =
        of_kind shape_of_object (λ x. GivenResult n from now (filtered_by x now u p) (filtered_by x before (prim (value.Obj o)) q))
        (listed (prim (value.Obj o)) s) (same (prim (value.Obj o)) s) refl refl (object_at before o.0).kind
    by (prim w) s = same (prim w) s
    by (list ts) s = listed (list ts) s
    by (rec fs) s = same (rec fs) s

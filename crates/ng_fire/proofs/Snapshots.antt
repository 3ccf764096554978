-- What is kept of a value whose objects stand names objects that stand.
use Rattle.std.proofs.Common.{◌≡◌, ◌<◌, ℕ, zero, suc, Bool, true, false, cond, List, [], ◌∷◌, ◌++◌, map, length, Option, Some, None, refl, ap, subst, if◌then◌else◌, Ordering, Less, Equal, Greater}
use Rattle.std.specs.Prelude.{Result, Ok, Err, unwrap_or}
use Rattle.std.specs.BTreeMap.{insert_entry}
use Rattle.std.specs.List.{AllByRecursion}
use Rattle.std.specs.Map.{values_of}
use Rattle.std.specs.Ordering.{match_ordering, nat_cmp}
use Rattle.ng_base.specs.Meets.{◌>>=◌}
use Rattle.ng_base.specs.Objects.{Object, object_at, own, own_of, names_of, index_of, StandsAmong}
use Rattle.ng_base.specs.Order.{txt_cmp}
use Rattle.ng_base.specs.Views.{ViewTree, prim, list, rec, no_views, no_fields, views_from, views_list, fields_from, fields_list}
use Rattle.ng_base.specs.declared.fault.Fault.{Fault}
use Rattle.ng_base.specs.declared.value.Value.{Value}
use Rattle.ng_base.specs.declared.value.Value.TheVariants as value
use Rattle.ng_bind.specs.Flows.{flow_of}
use Rattle.ng_bind.specs.declared.flow.Flow.{Flow}
use Rattle.ng_bind.specs.declared.flow.Flow.TheVariants as flows
use Rattle.ng_language.specs.Objects.{AreObjects, IsObjectAt}
use Rattle.ng_language.specs.Snapshots.{differs}
use Rattle.ng_language.specs.Texts.{show_text, class_words}
use Rattle.ng_language.specs.Unfolding.{Field, Spent, and_then, as_list, as_record, below_object, entries_of, in_key_order, indexed_from, is_left_out, item_mode, level_limit, made, name_mode, node_limit, object_order, others_of, own_entries, prims, record_order, sorted_from, unfold_fields, unfold_items, unfold_object, unfold_value, unfold_view, unfold_within, unfolded, unfolds_lists, unfolds_records, with_entry, with_indexed, with_other}
use Rattle.ng_language.specs.Views.{ViewStands, ViewsStand, FieldsStand}
use Rattle.ng_language.specs.declared.snapshots.SnapKind.{SnapKind}
use Rattle.ng_language.specs.declared.snapshots.SnapKind.TheVariants as snaps
use Rattle.ng_language.specs.declared.unfolding.Below.{Below}
use Rattle.ng_language.specs.declared.unfolding.Below.TheVariants as below
use Rattle.ng_language.specs.declared.unfolding.Mode.{Mode}
use Rattle.ng_language.specs.declared.unfolding.Mode.TheVariants as modes
use Rattle.ng_store.proofs.Looks.{own_stands}
use Rattle.ng_store.proofs.ObjectReads.{object_is}
use Rattle.ng_store.proofs.Sound.{all_append}
use Rattle.ng_value.proofs.ViewParts.{views_stand, fields_stand}
use Rattle.ng_value.specs.Taken.{taken, taken_object, collected}
use Rattle.ng_members.proofs.Stand.{all_more, views_from_stand}
use Rattle.ng_watch.specs.Now.{value_now, two_way_kind, text_view, word_list}
use Rattle.ng_watch.specs.Seen.{DestStands, Watcher, WatchStands}
use Rattle.ng_watch.specs.Verdicts.{Judged, clean, dirty, against, bound, own_value, synced, verdict, verdict_of, won}
use Rattle.ng_watch.specs.declared.watch.WatchKind.{WatchKind}
use Rattle.ng_watch.specs.declared.watch.WatchKind.TheVariants as kinds

abbrev FieldStands : ℕ → Field → Type 0
FieldStands n f = ViewStands n f.1

abbrev AllStand : ℕ → List ViewTree → Type 0
AllStand n ts = AllByRecursion (ViewStands n) ts

abbrev AllNamed : ℕ → List Field → Type 0
AllNamed n fs = AllByRecursion (FieldStands n) fs

-- fields in another order

abbrev EntryStands : ℕ → ℕ × Field → Type 0
EntryStands n e = FieldStands n e.1

inserted_stand : (n : ℕ) (es : List (ℕ × Field)) (i : ℕ) (f : Field) → AllByRecursion (EntryStands n) es → FieldStands n f → AllByRecursion (EntryStands n) (insert_entry nat_cmp es i f)
inserted_stand n [] i f a s = (s, tt)
inserted_stand n (e ∷ es) i f a s = by (nat_cmp i e.0) (inserted_stand n es i f a.1 s)
  where
    by : (o : Ordering) → AllByRecursion (EntryStands n) (insert_entry nat_cmp es i f) → AllByRecursion (EntryStands n) (match_ordering o ((i, f) ∷ e ∷ es) ((e.0, f) ∷ es) (e ∷ insert_entry nat_cmp es i f))
    by Less more = (s, a)
    by Equal more = (s, a.1)
    by Greater more = (a.0, more)

indexed_stand : (n : ℕ) (done : List (ℕ × Field)) (fs : List Field) → AllByRecursion (EntryStands n) done → AllNamed n fs → AllByRecursion (EntryStands n) (indexed_from done fs)
indexed_stand n done [] d a = d
indexed_stand n done (f ∷ fs) d a = indexed_stand n (with_indexed done (index_of f.0) f) fs (by (index_of f.0)) a.1
  where
    by : (i : Option ℕ) → AllByRecursion (EntryStands n) (with_indexed done i f)
    by None = d
    by (Some i) = inserted_stand n done i f d a.0

values_stand : (n : ℕ) (es : List (ℕ × Field)) → AllByRecursion (EntryStands n) es → AllNamed n (values_of es)
values_stand n [] a = tt
values_stand n (e ∷ es) a = (a.0, values_stand n es a.1)

others_stand : (n : ℕ) (fs : List Field) → AllNamed n fs → AllNamed n (others_of fs)
others_stand n [] a = tt
others_stand n (f ∷ fs) a = by (index_of f.0) (others_stand n fs a.1)
  where
    by : (i : Option ℕ) → AllNamed n (others_of fs) → AllNamed n (with_other i f (others_of fs))
    by None more = (a.0, more)
    by (Some i) more = more

key_order_stands : (n : ℕ) (fs : List Field) → AllNamed n fs → AllNamed n (in_key_order fs)
key_order_stands n fs a = all_append (FieldStands n) (values_of (indexed_from [] fs)) (others_of fs) (values_stand n (indexed_from [] fs) (indexed_stand n [] fs tt a)) (others_stand n fs a)

named_stand : (n : ℕ) (es : List Field) (name : List ℕ) (t : ViewTree) → AllNamed n es → ViewStands n t → AllNamed n (insert_entry txt_cmp es name t)
named_stand n [] name t a s = (s, tt)
named_stand n (e ∷ es) name t a s = by (txt_cmp name e.0) (named_stand n es name t a.1 s)
  where
    by : (o : Ordering) → AllNamed n (insert_entry txt_cmp es name t) → AllNamed n (match_ordering o ((name, t) ∷ e ∷ es) ((e.0, t) ∷ es) (e ∷ insert_entry txt_cmp es name t))
    by Less more = (s, a)
    by Equal more = (s, a.1)
    by Greater more = (a.0, more)

sorted_stand : (n : ℕ) (done fs : List Field) → AllNamed n done → AllNamed n fs → AllNamed n (sorted_from done fs)
sorted_stand n done [] d a = d
sorted_stand n done (f ∷ fs) d a = sorted_stand n (insert_entry txt_cmp done f.0 f.1) fs (named_stand n done f.0 f.1 d a.0) a.1

record_order_stands : (n : ℕ) (m : Mode) (fs : List Field) → AllNamed n fs → AllNamed n (record_order m fs)
record_order_stands n modes.Reference fs a = key_order_stands n fs a
record_order_stands n modes.Collection fs a = key_order_stands n fs a
record_order_stands n modes.Deep fs a = sorted_stand n [] fs tt a
record_order_stands n modes.Json fs a = key_order_stands n fs a
record_order_stands n modes.Text fs a = key_order_stands n fs a
record_order_stands n modes.Words fs a = key_order_stands n fs a
record_order_stands n modes.Flat fs a = key_order_stands n fs a

object_order_stands : (n : ℕ) (m : Mode) (fs : List Field) → AllNamed n fs → AllNamed n (object_order m fs)
object_order_stands n modes.Reference fs a = a
object_order_stands n modes.Collection fs a = a
object_order_stands n modes.Deep fs a = sorted_stand n [] fs tt a
object_order_stands n modes.Json fs a = a
object_order_stands n modes.Text fs a = a
object_order_stands n modes.Words fs a = a
object_order_stands n modes.Flat fs a = a

-- what stands in an object

prims_stand : (n : ℕ) (vs : List Value) → AllByRecursion (StandsAmong n) vs → AllStand n (prims vs)
prims_stand n [] a = tt
prims_stand n (v ∷ vs) a = (a.0, prims_stand n vs a.1)

entries_stand : (n o : ℕ) (x : Object) → IsObjectAt n o x → (names : List (List ℕ)) → AllNamed n (entries_of x names)
entries_stand n o x a [] = tt
entries_stand n o x a (name ∷ names) = by (own_of x name) refl (entries_stand n o x a names)
  where
    by : (u : Option Value) → own_of x name ≡ u → AllNamed n (entries_of x names) → AllNamed n (with_entry name u (entries_of x names))
    by None e more = more
    by (Some v) e more = (own_stands n o x name v a e, more)

fields_from_stand : (n : ℕ) (fs : List Field) → AllNamed n fs → FieldsStand n (fields_from fs)
fields_from_stand n [] a = tt
fields_from_stand n (f ∷ fs) a = (a.0, fields_from_stand n fs a.1)

-- what is unfolded

abbrev Gives : ℕ → Spent ViewTree → Type 0
Gives n r = (t : ViewTree) (left : ℕ) → r ≡ Ok (t, left) → ViewStands n t

abbrev GivesAll : ℕ → Spent (List ViewTree) → Type 0
GivesAll n r = (ts : List ViewTree) (left : ℕ) → r ≡ Ok (ts, left) → AllStand n ts

abbrev GivesNamed : ℕ → Spent (List Field) → Type 0
GivesNamed n r = (fs : List Field) (left : ℕ) → r ≡ Ok (fs, left) → AllNamed n fs

abbrev Step : Type 0
Step = ViewTree → ℕ → Spent ViewTree

abbrev IsStep : ℕ → Step → Type 0
IsStep n go = (t : ViewTree) → ViewStands n t → (left : ℕ) → Gives n (go t left)

-- what was made, or something else
abbrev made_or : {A : Type 0} → A → Spent A → A
made_or d (Ok p) = p.0
made_or d (Err e) = d

given : (n : ℕ) (t : ViewTree) (left : ℕ) → ViewStands n t → Gives n (Ok (t, left))
given n t left s u rest e = let q : t ≡ u = ap (made_or t) e in subst (ViewStands n) q s

items_stand : (n : ℕ) (go : Step) → IsStep n go → (ts done : List ViewTree) → AllStand n ts → AllStand n done → (left : ℕ) → GivesAll n (unfold_items go ts done left)
items_stand n go g [] done a d left us rest e = let q : done ≡ us = ap (made_or done) e in subst (AllStand n) q d
items_stand n go g (t ∷ ts) done a d left us rest e = by (go t left) refl (λ done d left. items_stand n go g ts done a.1 d left) e
  where
    by : (r : Spent ViewTree) → go t left ≡ r → ((done : List ViewTree) → AllStand n done → (left : ℕ) → GivesAll n (unfold_items go ts done left))
        → and_then r (λ u rest. unfold_items go ts (done ++ u ∷ []) rest) ≡ Ok (us, rest) → AllStand n us
    by (Ok p) q more e = more (done ++ p.0 ∷ []) (all_more n done p.0 d (g t a.0 left p.0 p.1 q)) p.1 us rest e
    by (Err f) q more e = absurd (cc)

fields_more : (n : ℕ) (fs : List Field) (f : Field) → AllNamed n fs → FieldStands n f → AllNamed n (fs ++ f ∷ [])
fields_more n fs f a s = all_append (FieldStands n) fs (f ∷ []) a (s, tt)

named_fields_stand : (n : ℕ) (m : Mode) (go : Step) → IsStep n go → (fs done : List Field) → AllNamed n fs → AllNamed n done → (left : ℕ) → GivesNamed n (unfold_fields m go fs done left)
named_fields_stand n m go g [] done a d left us rest e = let q : done ≡ us = ap (made_or done) e in subst (AllNamed n) q d
named_fields_stand n m go g (f ∷ fs) done a d left us rest e = by_test (is_left_out m f.0 f.1) (λ done d left. named_fields_stand n m go g fs done a.1 d left) e
  where
    by : (r : Spent ViewTree) → go f.1 left ≡ r → ((done : List Field) → AllNamed n done → (left : ℕ) → GivesNamed n (unfold_fields m go fs done left))
        → and_then r (λ u rest. unfold_fields m go fs (done ++ (f.0, u) ∷ []) rest) ≡ Ok (us, rest) → AllNamed n us
    by (Ok p) q more e = more (done ++ (f.0, p.0) ∷ []) (fields_more n done (f.0, p.0) d (g f.1 a.0 left p.0 p.1 q)) p.1 us rest e
    by (Err x) q more e = absurd (cc)

    by_test : (b : Bool) → ((done : List Field) → AllNamed n done → (left : ℕ) → GivesNamed n (unfold_fields m go fs done left))
        → (if b then unfold_fields m go fs done left else and_then (go f.1 left) (λ u rest. unfold_fields m go fs (done ++ (f.0, u) ∷ []) rest)) ≡ Ok (us, rest) → AllNamed n us
    by_test true more e = more done d left us rest e
    by_test false more e = by (go f.1 left) refl more e

list_stands : (n : ℕ) (r : Spent (List ViewTree)) → GivesAll n r → Gives n (as_list r)
list_stands n (Ok p) g t left e = let q : list (views_from p.0) ≡ t = ap (made_or (list (views_from p.0))) e in subst (ViewStands n) q (views_from_stand n p.0 (g p.0 p.1 refl))
list_stands n (Err f) g t left e = absurd (cc)

record_stands : (n : ℕ) (order : List Field → List Field) → ((fs : List Field) → AllNamed n fs → AllNamed n (order fs)) → (r : Spent (List Field)) → GivesNamed n r → Gives n (as_record order r)
record_stands n order o (Ok p) g t left e = let q : rec (fields_from (order p.0)) ≡ t = ap (made_or (rec (fields_from (order p.0)))) e in subst (ViewStands n) q (fields_from_stand n (order p.0) (o p.0 (g p.0 p.1 refl)))
record_stands n order o (Err f) g t left e = absurd (cc)

object_stands : (n o : ℕ) (m : Mode) (go : Mode → Step) → ((m : Mode) → IsStep n (go m)) → (b : Below) (v : Value) (x : Object) → StandsAmong n v → IsObjectAt n o x → (left : ℕ) → Gives n (unfold_object m go b v x left)
object_stands n o m go g below.Nothing v x s a left = given n (prim v) left s
object_stands n o m go g below.Items v x s a left = list_stands n (unfold_items (go (item_mode m)) (prims x.items) [] left) (items_stand n (go (item_mode m)) (g (item_mode m)) (prims x.items) [] (prims_stand n x.items a.items) tt left)
object_stands n o m go g below.Names v x s a left = record_stands n (object_order m) (object_order_stands n m) (unfold_fields m (go (name_mode m)) (own_entries x) [] left) (named_fields_stand n m (go (name_mode m)) (g (name_mode m)) (own_entries x) [] (entries_stand n o x a (names_of x)) tt left)

value_stands : (objects : List Object) → AreObjects objects → (m : Mode) (go : Mode → Step) → ((m : Mode) → IsStep (length objects) (go m)) → (v : Value) → StandsAmong (length objects) v → (left : ℕ) → Gives (length objects) (unfold_value m go objects v left)
value_stands objects a m go g (value.Obj o) s left = object_stands (length objects) o.0 m go g (below_object m (object_at objects o.0).kind) (value.Obj o) (object_at objects o.0) s (object_is objects o.0 s a) left
value_stands objects a m go g value.Undefined s left = given (length objects) (prim value.Undefined) left s
value_stands objects a m go g value.Null s left = given (length objects) (prim value.Null) left s
value_stands objects a m go g (value.Bool b) s left = given (length objects) (prim (value.Bool b)) left s
value_stands objects a m go g (value.Int k) s left = given (length objects) (prim (value.Int k)) left s
value_stands objects a m go g value.Nan s left = given (length objects) (prim value.Nan) left s
value_stands objects a m go g (value.Text t) s left = given (length objects) (prim (value.Text t)) left s
value_stands objects a m go g (value.Fun f) s left = given (length objects) (prim (value.Fun f)) left s

view_stands : (objects : List Object) → AreObjects objects → (m : Mode) (go : Mode → Step) → ((m : Mode) → IsStep (length objects) (go m)) → (t : ViewTree) → ViewStands (length objects) t → (left : ℕ) → Gives (length objects) (unfold_view m go objects t left)
view_stands objects a m go g (prim v) s left = value_stands objects a m go g v s left
view_stands objects a m go g (list ts) s left = by (unfolds_lists m)
  where
    n : ℕ
    n = length objects

    by : (b : Bool) → Gives n (if b then as_list (unfold_items (go (item_mode m)) (views_list ts) [] left) else Ok (list no_views, left))
    by true = list_stands n (unfold_items (go (item_mode m)) (views_list ts) [] left) (items_stand n (go (item_mode m)) (g (item_mode m)) (views_list ts) [] (views_stand n ts s) tt left)
    by false = given n (list no_views) left tt
view_stands objects a m go g (rec fs) s left = by (unfolds_records m)
  where
    n : ℕ
    n = length objects

    by : (b : Bool) → Gives n (if b then as_record (record_order m) (unfold_fields m (go (name_mode m)) (fields_list fs) [] left) else Ok (rec no_fields, left))
    by true = record_stands n (record_order m) (record_order_stands n m) (unfold_fields m (go (name_mode m)) (fields_list fs) [] left) (named_fields_stand n m (go (name_mode m)) (g (name_mode m)) (fields_list fs) [] (fields_stand n fs s) tt left)
    by false = given n (rec no_fields) left tt

within_stands : (objects : List Object) → AreObjects objects → (k : ℕ) (m : Mode) → IsStep (length objects) (unfold_within k objects m)
within_stands objects a zero m t s left u rest e = absurd (cc)
within_stands objects a (suc k) m t s zero u rest e = absurd (cc)
within_stands objects a (suc k) m t s (suc left) u rest e = view_stands objects a m (unfold_within k objects) (within_stands objects a k) t s left u rest e

unfolded_stands : (objects : List Object) → AreObjects objects → (m : Mode) (t s : ViewTree) → ViewStands (length objects) t → unfolded m objects t ≡ Ok s → ViewStands (length objects) s
unfolded_stands objects a m t s v e = by (unfold_within level_limit objects m t node_limit) refl e
  where
    by : (r : Spent ViewTree) → unfold_within level_limit objects m t node_limit ≡ r → made r ≡ Ok s → ViewStands (length objects) s
    by (Ok p) q e = let i : p.0 ≡ s = cc in subst (ViewStands (length objects)) i (within_stands objects a level_limit m t v node_limit p.0 p.1 q)
    by (Err f) q e = absurd (cc)

-- what a snapshot takes

taken_object_stands : (n o : ℕ) (b : Below) (v : Value) (x : Object) → StandsAmong n v → IsObjectAt n o x → ViewStands n (taken_object b v x)
taken_object_stands n o below.Nothing v x s a = s
taken_object_stands n o below.Items v x s a = views_from_stand n (prims x.items) (prims_stand n x.items a.items)
taken_object_stands n o below.Names v x s a = fields_from_stand n (own_entries x) (entries_stand n o x a (names_of x))

collected_stands : (objects : List Object) → AreObjects objects → (v : Value) → StandsAmong (length objects) v → ViewStands (length objects) (collected objects v)
collected_stands objects a (value.Obj o) s = taken_object_stands (length objects) o.0 (below_object modes.Collection (object_at objects o.0).kind) (value.Obj o) (object_at objects o.0) s (object_is objects o.0 s a)
collected_stands objects a value.Undefined s = s
collected_stands objects a value.Null s = s
collected_stands objects a (value.Bool b) s = s
collected_stands objects a (value.Int k) s = s
collected_stands objects a value.Nan s = s
collected_stands objects a (value.Text t) s = s
collected_stands objects a (value.Fun f) s = s

ok_stands : (n : ℕ) (t s : ViewTree) → ViewStands n t → (let x : Result ViewTree Fault = Ok t in let y : Result ViewTree Fault = Ok s in x ≡ y) → ViewStands n s
ok_stands n t s v e = let i : t ≡ s = cc in subst (ViewStands n) i v

taken_stands : (objects : List Object) → AreObjects objects → (kind : SnapKind) (t s : ViewTree) → ViewStands (length objects) t → taken kind objects t ≡ Ok s → ViewStands (length objects) s
taken_stands objects a snaps.Reference t s v e = unfolded_stands objects a modes.Reference t s v e
taken_stands objects a snaps.Deep t s v e = unfolded_stands objects a modes.Deep t s v e
taken_stands objects a snaps.Collection (prim w) s v e = ok_stands (length objects) (collected objects w) s (collected_stands objects a w v) e
taken_stands objects a snaps.Collection (list ts) s v e = unfolded_stands objects a modes.Collection (list ts) s v e
taken_stands objects a snaps.Collection (rec fs) s v e = unfolded_stands objects a modes.Collection (rec fs) s v e

-- what a dirty watcher is to keep

words_stand : (n : ℕ) (ws : List (List ℕ)) → ViewsStand n (views_from (map text_view ws))
words_stand n [] = tt
words_stand n (w ∷ ws) = (tt, words_stand n ws)

against_is : (kept : Option ViewTree) (s t : ViewTree) → against kept s ≡ dirty t → s ≡ t
against_is None s t e = cc
against_is (Some k) s t e = by (differs s k) e
  where
    by : (b : Bool) → cond b (dirty s) clean ≡ dirty t → s ≡ t
    by true e = cc
    by false e = absurd (cc)

against_stands : (n : ℕ) (kept : Option ViewTree) (r : Result ViewTree Fault) (t : ViewTree) → ((s : ViewTree) → r ≡ Ok s → ViewStands n s) → (r >>= λ s. Ok (against kept s)) ≡ Ok (dirty t) → ViewStands n t
against_stands n kept (Ok s) t g e = subst (ViewStands n) (against_is kept s t (let i : against kept s ≡ dirty t = cc in i)) (g s refl)
against_stands n kept (Err f) t g e = absurd (cc)

texts_stand : (n : ℕ) (r : Result (List ℕ) Fault) (s : ViewTree) → (r >>= λ t. Ok (text_view t)) ≡ Ok s → ViewStands n s
texts_stand n (Ok t) s e = ok_stands n (text_view t) s tt e
texts_stand n (Err f) s e = absurd (cc)

word_lists_stand : (n : ℕ) (r : Result (List (List ℕ)) Fault) (s : ViewTree) → (r >>= λ ws. Ok (word_list ws)) ≡ Ok s → ViewStands n s
word_lists_stand n (Ok ws) s e = ok_stands n (word_list ws) s (words_stand n ws) e
word_lists_stand n (Err f) s e = absurd (cc)

dirty_is : (s t : ViewTree) → (let x : Result Judged Fault = Ok (dirty s) in let y : Result Judged Fault = Ok (dirty t) in x ≡ y) → s ≡ t
dirty_is s t e = cc

won_stands : (n : ℕ) (f : Flow) (parent own t : ViewTree) → ViewStands n parent → ViewStands n own → won f parent own ≡ dirty t → ViewStands n t
won_stands n flows.Still parent own t p o e = absurd (cc)
won_stands n flows.ToDest parent own t p o e = let i : parent ≡ t = cc in subst (ViewStands n) i p
won_stands n flows.ToParent parent own t p o e = let i : own ≡ t = cc in subst (ViewStands n) i o

own_value_stands : (objects : List Object) → AreObjects objects → (o : ℕ) (name : List ℕ) → o < length objects → ViewStands (length objects) (own_value objects o name)
own_value_stands objects a o name l = by (own objects o name) refl
  where
    by : (u : Option Value) → own objects o name ≡ u → StandsAmong (length objects) (unwrap_or u value.Undefined)
    by None e = tt
    by (Some v) e = own_stands (length objects) o (object_at objects o) name v (object_is objects o l a) e

synced_stands : (objects : List Object) → AreObjects objects → (kind : SnapKind) (own last parent t : ViewTree) → ViewStands (length objects) own → ViewStands (length objects) parent → (taken kind objects own >>= λ o. Ok (synced last parent o)) ≡ Ok (dirty t) → ViewStands (length objects) t
synced_stands objects a kind own last parent t o p e = by (taken kind objects own) (taken_stands objects a kind own) e
  where
    by : (r : Result ViewTree Fault) → ((s : ViewTree) → ViewStands (length objects) own → r ≡ Ok s → ViewStands (length objects) s) → (r >>= λ o. Ok (synced last parent o)) ≡ Ok (dirty t) → ViewStands (length objects) t
    by (Ok s) g e = won_stands (length objects) (flow_of (differs parent last) (differs s last)) parent s t p (g s o refl) (let i : synced last parent s ≡ dirty t = cc in i)
    by (Err f) g e = absurd (cc)

bound_stands : (objects : List Object) → AreObjects objects → (kind : SnapKind) (own : ViewTree) (kept : Option ViewTree) (parent t : ViewTree) → ViewStands (length objects) own → ViewStands (length objects) parent → bound kind objects own kept parent ≡ Ok (dirty t) → ViewStands (length objects) t
bound_stands objects a kind own None parent t o p e = subst (ViewStands (length objects)) (dirty_is parent t e) p
bound_stands objects a kind own (Some last) parent t o p e = synced_stands objects a kind own last parent t o p e

by_kind : (objects : List Object) → AreObjects objects → (kind : WatchKind) (kept : Option ViewTree) (v t : ViewTree) → DestStands (length objects) kind → ViewStands (length objects) v → verdict_of kind kept objects v ≡ Ok (dirty t) → ViewStands (length objects) t
by_kind objects a kinds.Reference kept v t d s e = against_stands (length objects) kept (taken snaps.Reference objects v) t (λ u q. taken_stands objects a snaps.Reference v u s q) e
by_kind objects a kinds.Collection kept v t d s e = against_stands (length objects) kept (taken snaps.Collection objects v) t (λ u q. taken_stands objects a snaps.Collection v u s q) e
by_kind objects a kinds.Deep kept v t d s e = against_stands (length objects) kept (taken snaps.Deep objects v) t (λ u q. taken_stands objects a snaps.Deep v u s q) e
by_kind objects a kinds.Text kept v t d s e = against_stands (length objects) kept (show_text objects v >>= λ x. Ok (text_view x)) t (λ u q. texts_stand (length objects) (show_text objects v) u q) e
by_kind objects a kinds.Words kept v t d s e = against_stands (length objects) kept (class_words objects v >>= λ ws. Ok (word_list ws)) t (λ u q. word_lists_stand (length objects) (class_words objects v) u q) e
by_kind objects a (kinds.TwoWay dest name) kept v t d s e = by (taken (two_way_kind v) objects v) refl e
  where
    own_side : ViewTree
    own_side = own_value objects dest.0 name

    by : (r : Result ViewTree Fault) → taken (two_way_kind v) objects v ≡ r → (r >>= bound (two_way_kind v) objects own_side kept) ≡ Ok (dirty t) → ViewStands (length objects) t
    by (Ok p) q e = bound_stands objects a (two_way_kind v) own_side kept p t (own_value_stands objects a dest.0 name d) (taken_stands objects a (two_way_kind v) v p s q) e
    by (Err f) q e = absurd (cc)

-- the snapshot that a dirty test hands on names objects that stand, where the value of the watch does
pub dirty_stands : (objects : List Object) → AreObjects objects → (w : Watcher) (v t : ViewTree) → WatchStands (length objects) w.watch → value_now objects w.watch ≡ Ok v → ViewStands (length objects) v → verdict objects w ≡ Ok (dirty t) → ViewStands (length objects) t
dirty_stands objects a w v t ws q s e =
    let h : verdict_of w.watch.kind w.kept objects v ≡ Ok (dirty t) = rw q at e in
    by_kind objects a w.watch.kind w.kept v t ws.1 s h

-- a value that faults gives no verdict
pub faulted : (objects : List Object) (w : Watcher) (f : Fault) (now : ViewTree) (r : Result ViewTree Fault) → r ≡ Err f → (r >>= verdict_of w.watch.kind w.kept objects) ≡ Ok (dirty now) → ⊥
faulted objects w f now (Ok v) q e = cc
faulted objects w f now (Err g) q e = cc

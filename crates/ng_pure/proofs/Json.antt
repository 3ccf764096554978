-- The JSON of a value is that of the view that it shows.
use Rattle.std.proofs.Common.{◌≡◌, ◌∙◌, ℕ, zero, suc, Bool, true, false, List, [], ◌∷◌, ◌++◌, length, refl, sym, ap, subst, bytes_eq, None, if◌then◌else◌}
use Rattle.std.specs.Prelude.{Result, Ok, Err}
use Rattle.std.specs.List.{IsDistinct}
use Rattle.std.specs.Map.{keys_of}
use Rattle.ng_base.specs.Meets.{◌>>=◌}
use Rattle.ng_base.specs.Objects.{Object, object_at, StandsAmong}
use Rattle.ng_base.specs.Views.{ViewTree, ViewTrees, ViewFields, prim, list, rec, no_fields, field_then, views_from, fields_from, views_list, fields_list}
use Rattle.ng_base.specs.declared.value.Value.{Value}
use Rattle.ng_base.specs.declared.value.Value.TheVariants as value
use Rattle.ng_base.specs.declared.fault.Fault.{Fault}
use Rattle.ng_base.specs.declared.heap.ObjKind.{ObjKind}
use Rattle.ng_base.specs.declared.heap.ObjKind.TheVariants as kinds
use Rattle.ng_filters.specs.Numbers.{json, indent}
use Rattle.ng_language.specs.Objects.{IsObjectAt}
use Rattle.ng_language.specs.Texts.{json_of, json_text}
use Rattle.ng_language.specs.Unfolding.{Field, Spent, and_then, made, as_list, as_record, own_entries, in_key_order, is_dollars, is_nothing, unfold_items, unfold_fields, unfold_value, unfold_object, unfold_view, unfold_within, below_object, is_left_out, prims, level_limit, node_limit}
use Rattle.ng_language.specs.declared.unfolding.Mode.{Mode}
use Rattle.ng_language.specs.declared.unfolding.Mode.TheVariants as modes
use Rattle.ng_store.proofs.ObjectReads.{object_is}
use Rattle.ng_write.specs.Storing.{plain_with}
use Rattle.ng_pure.specs.Showing.{Shows, NamesShow}
use Rattle.ng_pure.proofs.Shown.{Grown, Seen, AllBy, FieldSeen, FieldsSeen, items_seen, old_items}
use Rattle.ng_pure.proofs.Alike.{seen_same}
use Rattle.ng_pure.proofs.Texts.{SpentBy, spent_then, items_spent}
use Rattle.ng_pure.proofs.KeyOrder.{plain_entries}
use Rattle.ng_pure.proofs.Matching.{old_entries}
use Rattle.ng_pure.proofs.Methods.{GivenResult, given_then}
use Rattle.ng_pure.proofs.Costs.{Paid, paid_then, free_paid, paid_if, paid_more, in_any_order}

abbrev Equal : ViewTree → ViewTree → Type 0
Equal t u = t ≡ u

abbrev EqualFields : List Field → List Field → Type 0
EqualFields fs gs = fs ≡ gs

abbrev Step : Type 0
Step = Mode → ViewTree → ℕ → Spent ViewTree

abbrev Steps : ℕ → ℕ → List Object → Step → Step → Type 0
Steps n from now go to = (u t : ViewTree) → Seen n from now u t → (left : ℕ) → SpentBy Equal (go modes.Json u left) (to modes.Json t left)

all_equal : (xs ys : List ViewTree) → AllBy Equal xs ys → xs ≡ ys
all_equal [] [] s = refl
all_equal [] (y ∷ ys) s = absurd s
all_equal (x ∷ xs) [] s = absurd s
all_equal (x ∷ xs) (y ∷ ys) s = ap (λ z. z ∷ xs) s.0 ∙ ap (λ zs. y ∷ zs) (all_equal xs ys s.1)

listed : (x y : Spent (List ViewTree)) → SpentBy (AllBy Equal) x y → SpentBy Equal (as_list x) (as_list y)
listed x y s =
    spent_then (AllBy Equal) Equal x y (λ ts left. Ok (list (views_from ts), left)) (λ ts left. Ok (list (views_from ts), left)) s
    (λ a b r left. (ap (λ ts. list (views_from ts)) (all_equal a b r), refl))

recorded : (x y : Spent (List Field)) → SpentBy EqualFields x y → SpentBy Equal (as_record (λ fs. fs) x) (as_record (λ fs. fs) y)
recorded x y s =
    spent_then EqualFields Equal x y (λ fs left. Ok (rec (fields_from fs), left)) (λ fs left. Ok (rec (fields_from fs), left)) s
    (λ a b r left. (ap (λ fs. rec (fields_from fs)) r, refl))

left_out_same : (n from : ℕ) (now : List Object) (f g : Field) → FieldSeen n from now f g → is_left_out modes.Json f.0 f.1 ≡ is_left_out modes.Json g.0 g.1
left_out_same n from now f g s =
    ap (λ m. if is_dollars m then true else is_nothing f.1) s.0
    ∙ ap (λ b. if is_dollars g.0 then true else b) (seen_same n from now is_nothing (λ o ts. refl) (λ o fs. refl) f.1 g.1 s.1)

chosen : (b c : Bool) (x y u v : Spent (List Field)) → b ≡ c → SpentBy EqualFields x y → SpentBy EqualFields u v → SpentBy EqualFields (if b then x else u) (if c then y else v)
chosen true true x y u v e s r = s
chosen true false x y u v e s r = absurd (cc)
chosen false true x y u v e s r = absurd (cc)
chosen false false x y u v e s r = r

fields_spent : (n from : ℕ) (now : List Object) (go to : Step) → Steps n from now go to → (fs gs : List Field) → FieldsSeen n from now fs gs → (ds es : List Field) → ds ≡ es → (left : ℕ)
    → SpentBy EqualFields (unfold_fields modes.Json (go modes.Json) fs ds left) (unfold_fields modes.Json (to modes.Json) gs es left)
fields_spent n from now go to h [] [] s ds es e left = (e, refl)
fields_spent n from now go to h [] (g ∷ gs) s ds es e left = absurd s
fields_spent n from now go to h (f ∷ fs) [] s ds es e left = absurd s
fields_spent n from now go to h (f ∷ fs) (g ∷ gs) s ds es e left =
    chosen (is_left_out modes.Json f.0 f.1) (is_left_out modes.Json g.0 g.1) (unfold_fields modes.Json (go modes.Json) fs ds left) (unfold_fields modes.Json (to modes.Json) gs es left)
    (and_then (go modes.Json f.1 left) (λ u rest. unfold_fields modes.Json (go modes.Json) fs (ds ++ (f.0, u) ∷ []) rest)) (and_then (to modes.Json g.1 left) (λ u rest. unfold_fields modes.Json (to modes.Json) gs (es ++ (g.0, u) ∷ []) rest))
    (left_out_same n from now f g s.0) (fields_spent n from now go to h fs gs s.1 ds es e left)
    (spent_then Equal EqualFields (go modes.Json f.1 left) (to modes.Json g.1 left) (λ u rest. unfold_fields modes.Json (go modes.Json) fs (ds ++ (f.0, u) ∷ []) rest) (λ u rest. unfold_fields modes.Json (to modes.Json) gs (es ++ (g.0, u) ∷ []) rest)
    (h f.1 g.1 s.0.1 left)
    (λ u t q rest. fields_spent n from now go to h fs gs s.1 (ds ++ (f.0, u) ∷ []) (es ++ (g.0, t) ∷ [])
    (ap (λ z. z ++ (f.0, u) ∷ []) e ∙ (ap (λ m. es ++ (m, u) ∷ []) s.0.0 ∙ ap (λ z. es ++ (g.0, z) ∷ []) q)) rest))

object_json : (n from o : ℕ) (now : List Object) (go to : Step) → Steps n from now go to → (v : Value) (x : Object) → IsObjectAt n o x → (k : ObjKind) (left : ℕ)
    → SpentBy Equal (unfold_object modes.Json go (below_object modes.Json k) v x left) (unfold_object modes.Json to (below_object modes.Json k) v x left)
object_json n from o now go to h v x a kinds.Array left =
    listed (unfold_items (go modes.Json) (prims x.items) [] left) (unfold_items (to modes.Json) (prims x.items) [] left)
    (items_spent Equal (Seen n from now) (go modes.Json) (to modes.Json) h (prims x.items) (prims x.items) (old_items n from now x.items a.items) [] [] tt left)
object_json n from o now go to h v x a kinds.Plain left =
    recorded (unfold_fields modes.Json (go modes.Json) (own_entries x) [] left) (unfold_fields modes.Json (to modes.Json) (own_entries x) [] left)
    (fields_spent n from now go to h (own_entries x) (own_entries x) (old_entries n from o now x a _) [] [] refl left)
object_json n from o now go to h v x a kinds.Event left =
    recorded (unfold_fields modes.Json (go modes.Json) (own_entries x) [] left) (unfold_fields modes.Json (to modes.Json) (own_entries x) [] left)
    (fields_spent n from now go to h (own_entries x) (own_entries x) (old_entries n from o now x a _) [] [] refl left)
object_json n from o now go to h v x a kinds.Scope left = (refl, refl)

value_json : (from : ℕ) (before now : List Object) → Grown before now → (go to : Step) → Steps (length before) from now go to → (w : Value) → StandsAmong (length before) w → (left : ℕ)
    → SpentBy Equal (unfold_value modes.Json go now w left) (unfold_value modes.Json to before w left)
value_json from before now g go to h (value.Obj o) s left =
    let x : Object = object_at before o.0 in
    let P : Object → Type 0 = λ (y : Object). SpentBy Equal (unfold_object modes.Json go (below_object modes.Json y.kind) (value.Obj o) y left) (unfold_value modes.Json to before (value.Obj o) left) in
    subst P (sym (g.unchanged o.0 s)) (object_json (length before) from o.0 now go to h (value.Obj o) x (object_is before o.0 s g.sound) x.kind left)
value_json from before now g go to h w s left = (refl, refl)

list_json : (n from : ℕ) (now : List Object) (go to : Step) → Steps n from now go to → (ts : ViewTrees) (v : Value) → Shows n from now v (list ts) → (left : ℕ)
    → SpentBy Equal (unfold_value modes.Json go now v left) (as_list (unfold_items (to modes.Json) (views_list ts) [] left))
list_json n from now go to h ts v s left =
    let o = s.0 in
    let items = s.1 in
    let end : Spent ViewTree = as_list (unfold_items (to modes.Json) (views_list ts) [] left) in
    let inside : SpentBy Equal (as_list (unfold_items (go modes.Json) (prims items) [] left)) end =
    listed (unfold_items (go modes.Json) (prims items) [] left) (unfold_items (to modes.Json) (views_list ts) [] left)
    (items_spent Equal (Seen n from now) (go modes.Json) (to modes.Json) h (prims items) (views_list ts) (items_seen n from now ts items s.6) [] [] tt left) in
    let P : Object → Type 0 = λ (y : Object). SpentBy Equal (unfold_object modes.Json go (below_object modes.Json y.kind) (value.Obj o) y left) end in
    subst (λ w. SpentBy Equal (unfold_value modes.Json go now w left) end) (sym s.2) (subst P (sym s.5) inside)

names_same : (n from : ℕ) (now : List Object) (ps : List (List ℕ × Value)) (fs : ViewFields) → NamesShow n from now ps fs → keys_of ps ≡ keys_of (fields_list fs)
names_same n from now [] no_fields s = refl
names_same n from now [] (field_then m t fs) s = absurd s
names_same n from now (p ∷ ps) no_fields s = absurd s
names_same n from now (p ∷ ps) (field_then m t fs) s = ap (λ k. k ∷ keys_of ps) s.0 ∙ ap (λ ks. m ∷ ks) (names_same n from now ps fs s.2)

-- a record is unfolded in its own order and put into that of keys, an object in that of keys
rec_json : (n from : ℕ) (now : List Object) (go to : Step) → Steps n from now go to → ((t : ViewTree) → Paid (to modes.Json t)) → (fs : ViewFields) (v : Value) → Shows n from now v (rec fs) → (left : ℕ)
    → SpentBy Equal (unfold_value modes.Json go now v left) (as_record in_key_order (unfold_fields modes.Json (to modes.Json) (fields_list fs) [] left))
rec_json n from now go to h paid fs v s left =
    let o = s.0 in
    let end : Spent ViewTree = as_record in_key_order (unfold_fields modes.Json (to modes.Json) (fields_list fs) [] left) in
    let x : Spent (List Field) = unfold_fields modes.Json (go modes.Json) (own_entries (plain_with s.1)) [] left in
    let y : Spent (List Field) = unfold_fields modes.Json (to modes.Json) (in_key_order (fields_list fs)) [] left in
    let inside : SpentBy Equal (as_record (λ fs. fs) x) (as_record (λ fs. fs) y) =
    recorded x y (fields_spent n from now go to h (own_entries (plain_with s.1)) (in_key_order (fields_list fs)) (plain_entries n from now s.1 fs s.6 s.7) [] [] refl left) in
    let same : as_record (λ fs. fs) y ≡ end = in_any_order (to modes.Json) paid (fields_list fs) (subst (IsDistinct bytes_eq) (names_same n from now s.1 fs s.7) s.6) left in
    let P : Object → Type 0 = λ (z : Object). SpentBy Equal (unfold_object modes.Json go (below_object modes.Json z.kind) (value.Obj o) z left) end in
    subst (λ w. SpentBy Equal (unfold_value modes.Json go now w left) end) (sym s.2) (subst P (sym s.5) (subst (λ z. SpentBy Equal (as_record (λ fs. fs) x) z) same inside))

-- a step of unfolding costs the same wherever it is taken
items_paid : (to : ViewTree → ℕ → Spent ViewTree) → ((t : ViewTree) → Paid (to t)) → (ts done : List ViewTree) → Paid (λ l. unfold_items to ts done l)
items_paid to paid [] done = free_paid done
items_paid to paid (t ∷ ts) done = paid_then (to t) (λ u rest. unfold_items to ts (done ++ u ∷ []) rest) (paid t) (λ u. items_paid to paid ts (done ++ u ∷ []))

fields_paid : (to : ViewTree → ℕ → Spent ViewTree) → ((t : ViewTree) → Paid (to t)) → (fs done : List Field) → Paid (λ l. unfold_fields modes.Json to fs done l)
fields_paid to paid [] done = free_paid done
fields_paid to paid (f ∷ fs) done =
    paid_if (is_left_out modes.Json f.0 f.1) (λ l. unfold_fields modes.Json to fs done l) (λ l. and_then (to f.1 l) (λ u rest. unfold_fields modes.Json to fs (done ++ (f.0, u) ∷ []) rest)) (fields_paid to paid fs done)
    (paid_then (to f.1) (λ u rest. unfold_fields modes.Json to fs (done ++ (f.0, u) ∷ []) rest) (paid f.1) (λ u. fields_paid to paid fs (done ++ (f.0, u) ∷ [])))

list_paid : (to : ViewTree → ℕ → Spent ViewTree) → ((t : ViewTree) → Paid (to t)) → (ts : List ViewTree) → Paid (λ l. as_list (unfold_items to ts [] l))
list_paid to paid ts = paid_then (λ l. unfold_items to ts [] l) (λ us left. Ok (list (views_from us), left)) (items_paid to paid ts []) (λ us. free_paid (list (views_from us)))

record_paid : (order : List Field → List Field) (to : ViewTree → ℕ → Spent ViewTree) → ((t : ViewTree) → Paid (to t)) → (fs : List Field) → Paid (λ l. as_record order (unfold_fields modes.Json to fs [] l))
record_paid order to paid fs = paid_then (λ l. unfold_fields modes.Json to fs [] l) (λ gs left. Ok (rec (fields_from (order gs)), left)) (fields_paid to paid fs []) (λ gs. free_paid (rec (fields_from (order gs))))

object_paid : (to : Step) → ((t : ViewTree) → Paid (to modes.Json t)) → (v : Value) (x : Object) (k : ObjKind) → Paid (λ l. unfold_object modes.Json to (below_object modes.Json k) v x l)
object_paid to paid v x kinds.Array = list_paid (to modes.Json) paid (prims x.items)
object_paid to paid v x kinds.Plain = record_paid (λ fs. fs) (to modes.Json) paid (own_entries x)
object_paid to paid v x kinds.Event = record_paid (λ fs. fs) (to modes.Json) paid (own_entries x)
object_paid to paid v x kinds.Scope = free_paid (prim v)

view_paid : (before : List Object) (to : Step) → ((t : ViewTree) → Paid (to modes.Json t)) → (t : ViewTree) → Paid (λ l. unfold_view modes.Json to before t l)
view_paid before to paid (prim (value.Obj o)) = object_paid to paid (value.Obj o) (object_at before o.0) (object_at before o.0).kind
view_paid before to paid (prim w) = free_paid (prim w)
view_paid before to paid (list ts) = list_paid (to modes.Json) paid (views_list ts)
view_paid before to paid (rec fs) = record_paid in_key_order (to modes.Json) paid (fields_list fs)

all_paid : (before : List Object) (k : ℕ) (t : ViewTree) → Paid (unfold_within k before modes.Json t)
all_paid before zero t = record { cost = None; is = λ l. refl }
all_paid before (suc k) t = paid_more (λ l. unfold_view modes.Json (unfold_within k before) before t l) (unfold_within (suc k) before modes.Json t) (view_paid before (unfold_within k before) (all_paid before k) t) refl (λ l. refl)

view_json : (from : ℕ) (before now : List Object) → Grown before now → (go to : Step) → Steps (length before) from now go to → ((t : ViewTree) → Paid (to modes.Json t)) → (t : ViewTree) (v : Value) → Shows (length before) from now v t → (left : ℕ)
    → SpentBy Equal (unfold_view modes.Json go now (prim v) left) (unfold_view modes.Json to before t left)
view_json from before now g go to h paid (prim w) v s left =
    subst (λ x. SpentBy Equal (unfold_value modes.Json go now x left) (unfold_value modes.Json to before w left)) (sym s.0) (value_json from before now g go to h w s.1 left)
view_json from before now g go to h paid (list ts) v s left = list_json (length before) from now go to h ts v s left
view_json from before now g go to h paid (rec fs) v s left = rec_json (length before) from now go to h paid fs v s left

within : (from : ℕ) (before now : List Object) → Grown before now → (k : ℕ) (u t : ViewTree) → Seen (length before) from now u t → (left : ℕ) → SpentBy Equal (unfold_within k now modes.Json u left) (unfold_within k before modes.Json t left)
within from before now g zero u t s left = refl
within from before now g (suc k) u t s zero = refl
within from before now g (suc k) (prim v) t s (suc left) = view_json from before now g (unfold_within k now) (unfold_within k before) (within from before now g k) (all_paid before k) t v s left
within from before now g (suc k) (list us) t s (suc left) = absurd s
within from before now g (suc k) (rec fs) t s (suc left) = absurd s

text_spent : (i : ℕ) (x y : Spent ViewTree) → SpentBy Equal x y → (made x >>= λ u. (let r : Result (List ℕ) Fault = Ok (json_of i [] u) in r)) ≡ (made y >>= λ u. Ok (json_of i [] u))
text_spent i (Ok r) (Ok q) s = ap (λ u. (let x : Result (List ℕ) Fault = Ok (json_of i [] u) in x)) s.0
text_spent i (Ok r) (Err e) s = absurd s
text_spent i (Err e) (Ok q) s = absurd s
text_spent i (Err e) (Err f) s = ap (λ d. (let x : Result (List ℕ) Fault = Err d in x)) s

json_same : (from : ℕ) (before now : List Object) → Grown before now → (i j : ℕ) → i ≡ j → (u t : ViewTree) → Seen (length before) from now u t → json_text now i u ≡ json_text before j t
json_same from before now g i j e u t s =
    ap (λ k. json_text now k u) e
    ∙ text_spent j (unfold_within level_limit now modes.Json u node_limit) (unfold_within level_limit before modes.Json t node_limit) (within from before now g level_limit u t s node_limit)

pub json_given : (from : ℕ) (before now : List Object) → Grown before now → (u t x y : ViewTree) → Seen (length before) from now u t → Seen (length before) from now x y → GivenResult (length before) from now (json now u x) (json before t y)
json_given from before now g u t x y s r = by u t s
  where
    n : ℕ
    n = length before

    text : (u t : ViewTree) → Seen n from now u t → GivenResult n from now (json_text now (indent x) u >>= λ a. Ok (prim (value.Text a))) (json_text before (indent y) t >>= λ a. Ok (prim (value.Text a)))
    text u t s =
        given_then n from now (json_text now (indent x) u) (json_text before (indent y) t) (λ a. Ok (prim (value.Text a))) (λ a. Ok (prim (value.Text a)))
        (json_same from before now g (indent x) (indent y) (seen_same n from now indent (λ o ts. refl) (λ o fs. refl) x y r) u t s) (λ a. (refl, tt))

    of_value : (w : Value) → StandsAmong n w → GivenResult n from now (json now (prim w) x) (json before (prim w) y)
    of_value value.Undefined k = (refl, tt)
    of_value value.Null k = text (prim value.Null) (prim value.Null) (refl, k)
    of_value (value.Bool b) k = text (prim (value.Bool b)) (prim (value.Bool b)) (refl, k)
    of_value (value.Int i) k = text (prim (value.Int i)) (prim (value.Int i)) (refl, k)
    of_value value.Nan k = text (prim value.Nan) (prim value.Nan) (refl, k)
    of_value (value.Text t) k = text (prim (value.Text t)) (prim (value.Text t)) (refl, k)
    of_value (value.Obj o) k = text (prim (value.Obj o)) (prim (value.Obj o)) (refl, k)
    of_value (value.Fun f) k = text (prim (value.Fun f)) (prim (value.Fun f)) (refl, k)

    by : (u t : ViewTree) → Seen n from now u t → GivenResult n from now (json now u x) (json before t y)
    by (prim v) (prim w) s = subst (λ z. GivenResult n from now (json now (prim z) x) (json before (prim w) y)) (sym s.0) (of_value w s.1)
    by (prim v) (list ts) s =
        subst (λ z. GivenResult n from now (json now (prim z) x) (json before (list ts) y)) (sym s.2) (text (prim (value.Obj s.0)) (list ts) (subst (λ z. Seen n from now (prim z) (list ts)) s.2 s))
    by (prim v) (rec fs) s =
        subst (λ z. GivenResult n from now (json now (prim z) x) (json before (rec fs) y)) (sym s.2) (text (prim (value.Obj s.0)) (rec fs) (subst (λ z. Seen n from now (prim z) (rec fs)) s.2 s))
    by (list us) t s = absurd s
    by (rec fs) t s = absurd s

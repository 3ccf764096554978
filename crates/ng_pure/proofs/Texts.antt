-- A value's text is that of the view that it shows.
use Rattle.std.proofs.Common.{◌≡◌, ◌∙◌, ℕ, zero, suc, List, [], ◌∷◌, ◌++◌, length, refl, sym, ap, subst}
use Rattle.std.specs.Prelude.{Result, Ok, Err}
use Rattle.ng_base.specs.Meets.{◌>>=◌}
use Rattle.ng_base.specs.Objects.{Object, object_at, StandsAmong}
use Rattle.ng_base.specs.Views.{ViewTree, ViewTrees, ViewFields, prim, list, rec, no_fields, views_list, views_from}
use Rattle.ng_base.specs.declared.value.Value.{Value}
use Rattle.ng_base.specs.declared.value.Value.TheVariants as value
use Rattle.ng_base.specs.declared.fault.Fault.{Fault}
use Rattle.ng_base.specs.declared.heap.ObjKind.{ObjKind}
use Rattle.ng_base.specs.declared.heap.ObjKind.TheVariants as kinds
use Rattle.ng_language.specs.Objects.{IsObjectAt}
use Rattle.ng_language.specs.Texts.{text_of, item_text, items_text, more_text, to_text}
use Rattle.ng_language.specs.Unfolding.{Spent, and_then, made, as_list, unfold_items, unfold_value, unfold_object, unfold_view, unfold_within, below_object, prims, level_limit, node_limit}
use Rattle.ng_language.specs.declared.unfolding.Mode.{Mode}
use Rattle.ng_language.specs.declared.unfolding.Mode.TheVariants as modes
use Rattle.ng_store.proofs.ObjectReads.{object_is}
use Rattle.ng_pure.specs.Showing.{Shows}
use Rattle.ng_pure.proofs.Shown.{Grown, Seen, AllBy, items_seen, one_more, old_items}

-- as many nodes were spent, or there was the same fault
abbrev pub SpentBy : {A B : Type 0} → (A → B → Type 0) → Spent A → Spent B → Type 0
SpentBy R (Ok r) (Ok q) = R r.0 q.0 × (r.1 ≡ q.1)
SpentBy R (Ok r) (Err f) = ⊥
SpentBy R (Err e) (Ok q) = ⊥
SpentBy R (Err e) (Err f) = e ≡ f

pub spent_then : {A B C D : Type 0} (R : A → B → Type 0) (Q : C → D → Type 0) (x : Spent A) (y : Spent B) (f : A → ℕ → Spent C) (g : B → ℕ → Spent D)
    → SpentBy R x y → ((a : A) (b : B) → R a b → (left : ℕ) → SpentBy Q (f a left) (g b left)) → SpentBy Q (and_then x f) (and_then y g)
spent_then R Q (Ok r) (Ok q) f g s h = subst (λ l. SpentBy Q (f r.0 r.1) (g q.0 l)) s.1 (h r.0 q.0 s.0 r.1)
spent_then R Q (Ok r) (Err e) f g s h = absurd s
spent_then R Q (Err e) (Ok q) f g s h = absurd s
spent_then R Q (Err e) (Err d) f g s h = s

-- two views whose texts are the same, also as items
pub record SameText (x y : ViewTree) : Type 0 where
  pub text : text_of x ≡ text_of y
  pub item : item_text x (text_of x) ≡ item_text y (text_of y)

text_self : (x : ViewTree) → SameText x x
text_self x = record { text = refl; item = refl }

more_same : (xs ys : List ViewTree) → AllBy SameText xs ys → more_text (views_from xs) ≡ more_text (views_from ys)
more_same [] [] s = refl
more_same [] (y ∷ ys) s = absurd s
more_same (x ∷ xs) [] s = absurd s
more_same (x ∷ xs) (y ∷ ys) s = ap (λ a. 44 ∷ (a ++ more_text (views_from xs))) s.0.item ∙ ap (λ b. 44 ∷ (item_text y (text_of y) ++ b)) (more_same xs ys s.1)

items_same : (xs ys : List ViewTree) → AllBy SameText xs ys → items_text (views_from xs) ≡ items_text (views_from ys)
items_same [] [] s = refl
items_same [] (y ∷ ys) s = absurd s
items_same (x ∷ xs) [] s = absurd s
items_same (x ∷ xs) (y ∷ ys) s = ap (λ a. a ++ more_text (views_from xs)) s.0.item ∙ ap (λ b. item_text y (text_of y) ++ b) (more_same xs ys s.1)

-- a step that does the same on both sides does so item by item
pub items_spent : (R S : ViewTree → ViewTree → Type 0) (go to : ViewTree → ℕ → Spent ViewTree) → ((u t : ViewTree) → S u t → (left : ℕ) → SpentBy R (go u left) (to t left))
    → (us ts : List ViewTree) → AllBy S us ts → (ds es : List ViewTree) → AllBy R ds es → (left : ℕ) → SpentBy (AllBy R) (unfold_items go us ds left) (unfold_items to ts es left)
items_spent R S go to h [] [] s ds es d left = (d, refl)
items_spent R S go to h [] (t ∷ ts) s ds es d left = absurd s
items_spent R S go to h (u ∷ us) [] s ds es d left = absurd s
items_spent R S go to h (u ∷ us) (t ∷ ts) s ds es d left =
    spent_then R (AllBy R) (go u left) (to t left) (λ x rest. unfold_items go us (ds ++ x ∷ []) rest) (λ y rest. unfold_items to ts (es ++ y ∷ []) rest)
    (h u t s.0 left) (λ a b r rest. items_spent R S go to h us ts s.1 (ds ++ a ∷ []) (es ++ b ∷ []) (one_more R ds es a b d r) rest)

list_text : (xs ys : List ViewTree) → AllBy SameText xs ys → SameText (list (views_from xs)) (list (views_from ys))
list_text xs ys s = record { text = items_same xs ys s; item = items_same xs ys s }

texts_listed : (x y : Spent (List ViewTree)) → SpentBy (AllBy SameText) x y → SpentBy SameText (as_list x) (as_list y)
texts_listed x y s =
    spent_then (AllBy SameText) SameText x y (λ ts left. Ok (list (views_from ts), left)) (λ ts left. Ok (list (views_from ts), left)) s
    (λ a b r left. (list_text a b r, refl))

abbrev Step : Type 0
Step = Mode → ViewTree → ℕ → Spent ViewTree

abbrev Steps : ℕ → ℕ → List Object → Step → Step → Type 0
Steps n from now go to = (u t : ViewTree) → Seen n from now u t → (left : ℕ) → SpentBy SameText (go modes.Text u left) (to modes.Text t left)

object_text : (n from : ℕ) (now : List Object) (go to : Step) → Steps n from now go to → (v : Value) (o : ℕ) (x : Object) → IsObjectAt n o x → (k : ObjKind) (left : ℕ)
    → SpentBy SameText (unfold_object modes.Text go (below_object modes.Text k) v x left) (unfold_object modes.Text to (below_object modes.Text k) v x left)
object_text n from now go to h v o x a kinds.Array left =
    texts_listed (unfold_items (go modes.Text) (prims x.items) [] left) (unfold_items (to modes.Text) (prims x.items) [] left)
    (items_spent SameText (Seen n from now) (go modes.Text) (to modes.Text) h (prims x.items) (prims x.items) (old_items n from now x.items a.items) [] [] tt left)
object_text n from now go to h v o x a kinds.Plain left = (text_self (prim v), refl)
object_text n from now go to h v o x a kinds.Scope left = (text_self (prim v), refl)
object_text n from now go to h v o x a kinds.Event left = (text_self (prim v), refl)

value_text_spent : (from : ℕ) (before now : List Object) → Grown before now → (go to : Step) → Steps (length before) from now go to → (w : Value) → StandsAmong (length before) w → (left : ℕ)
    → SpentBy SameText (unfold_value modes.Text go now w left) (unfold_value modes.Text to before w left)
value_text_spent from before now g go to h (value.Obj o) s left =
    let x : Object = object_at before o.0 in
    let P : Object → Type 0 = λ (y : Object). SpentBy SameText (unfold_object modes.Text go (below_object modes.Text y.kind) (value.Obj o) y left) (unfold_value modes.Text to before (value.Obj o) left) in
    subst P (sym (g.unchanged o.0 s)) (object_text (length before) from now go to h (value.Obj o) o.0 x (object_is before o.0 s g.sound) x.kind left)
value_text_spent from before now g go to h w s left = (text_self (prim w), refl)

-- an array that was made, and a list
list_text_spent : (n from : ℕ) (now : List Object) (go to : Step) → Steps n from now go to → (ts : ViewTrees) (v : Value) → Shows n from now v (list ts) → (left : ℕ)
    → SpentBy SameText (unfold_value modes.Text go now v left) (as_list (unfold_items (to modes.Text) (views_list ts) [] left))
list_text_spent n from now go to h ts v s left =
    let o = s.0 in
    let items = s.1 in
    let end : Spent ViewTree = as_list (unfold_items (to modes.Text) (views_list ts) [] left) in
    let inside : SpentBy SameText (as_list (unfold_items (go modes.Text) (prims items) [] left)) end =
    texts_listed (unfold_items (go modes.Text) (prims items) [] left) (unfold_items (to modes.Text) (views_list ts) [] left)
    (items_spent SameText (Seen n from now) (go modes.Text) (to modes.Text) h (prims items) (views_list ts) (items_seen n from now ts items s.6) [] [] tt left) in
    let P : Object → Type 0 = λ (y : Object). SpentBy SameText (unfold_object modes.Text go (below_object modes.Text y.kind) (value.Obj o) y left) end in
    subst (λ w. SpentBy SameText (unfold_value modes.Text go now w left) end) (sym s.2) (subst P (sym s.5) inside)

rec_text_spent : (n from : ℕ) (now : List Object) (go : Step) (fs : ViewFields) (v : Value) → Shows n from now v (rec fs) → (left : ℕ)
    → SpentBy SameText (unfold_value modes.Text go now v left) (Ok (rec no_fields, left))
rec_text_spent n from now go fs v s left =
    let o = s.0 in
    let end : Spent ViewTree = Ok (rec no_fields, left) in
    let P : Object → Type 0 = λ (y : Object). SpentBy SameText (unfold_object modes.Text go (below_object modes.Text y.kind) (value.Obj o) y left) end in
    let inside : SpentBy SameText (Ok (prim (value.Obj o), left)) end = (record { text = refl; item = refl }, refl) in
    subst (λ w. SpentBy SameText (unfold_value modes.Text go now w left) end) (sym s.2) (subst P (sym s.5) inside)

view_text_spent : (from : ℕ) (before now : List Object) → Grown before now → (go to : Step) → Steps (length before) from now go to → (t : ViewTree) (v : Value) → Shows (length before) from now v t → (left : ℕ)
    → SpentBy SameText (unfold_view modes.Text go now (prim v) left) (unfold_view modes.Text to before t left)
view_text_spent from before now g go to h (prim w) v s left =
    subst (λ x. SpentBy SameText (unfold_value modes.Text go now x left) (unfold_value modes.Text to before w left)) (sym s.0) (value_text_spent from before now g go to h w s.1 left)
view_text_spent from before now g go to h (list ts) v s left = list_text_spent (length before) from now go to h ts v s left
view_text_spent from before now g go to h (rec fs) v s left = rec_text_spent (length before) from now go fs v s left

text_within : (from : ℕ) (before now : List Object) → Grown before now → (k : ℕ) (u t : ViewTree) → Seen (length before) from now u t → (left : ℕ)
    → SpentBy SameText (unfold_within k now modes.Text u left) (unfold_within k before modes.Text t left)
text_within from before now g zero u t s left = refl
text_within from before now g (suc k) u t s zero = refl
text_within from before now g (suc k) (prim v) t s (suc left) =
    view_text_spent from before now g (unfold_within k now) (unfold_within k before) (text_within from before now g k) t v s left
text_within from before now g (suc k) (list us) t s (suc left) = absurd s
text_within from before now g (suc k) (rec fs) t s (suc left) = absurd s

text_spent : (x y : Spent ViewTree) → SpentBy SameText x y → (made x >>= λ u. (let r : Result (List ℕ) Fault = Ok (text_of u) in r)) ≡ (made y >>= λ u. Ok (text_of u))
text_spent (Ok r) (Ok q) s = ap (λ t. (let x : Result (List ℕ) Fault = Ok t in x)) s.0.text
text_spent (Ok r) (Err e) s = absurd s
text_spent (Err e) (Ok q) s = absurd s
text_spent (Err e) (Err f) s = ap (λ d. (let x : Result (List ℕ) Fault = Err d in x)) s

pub text_same : (from : ℕ) (before now : List Object) → Grown before now → (u t : ViewTree) → Seen (length before) from now u t → to_text now u ≡ to_text before t
text_same from before now g u t s =
    text_spent (unfold_within level_limit now modes.Text u node_limit) (unfold_within level_limit before modes.Text t node_limit) (text_within from before now g level_limit u t s node_limit)

-- Faults of parts end the whole, and what stands stands in a store that grew.
use Rattle.std.proofs.Common.{◌≡◌, ◌<◌, ◌≤◌, ◌+◌, ◌-◌, ℕ, Bool, true, false, List, [], ◌∷◌, ◌++◌, length, map, drop, get_or, Option, Result, Ok, Err, refl, ap, sym, ◌∙◌, subst, arith, bytes_eq, if◌then◌else◌, IsErrAnd}
use Rattle.std.specs.Prelude.{OnOk, nat_lt}
use Rattle.std.proofs.lemmas.Bool.Decides.{nat_tests}
use Rattle.std.specs.List.{AllByRecursion}
use Rattle.indexmap.specs.IndexMap.{insert_entry}
use Rattle.ng_base.specs.Faults.{is_memory}
use Rattle.ng_base.specs.Views.{ViewTree}
use Rattle.ng_base.specs.ViewOf.{view_of}
use Rattle.ng_base.specs.declared.fault.Fault.{Fault}
use Rattle.ng_base.specs.declared.view.View.{View}
use Rattle.ng_language.specs.Trees.{Tree, Trees, member_of, item_of, call_of, filtered, trees_from, pairs_from}
use Rattle.ng_language.specs.Views.{ViewStands}
use Rattle.ng_parse.specs.TreeOf.{tree, pair_tree}
use Rattle.ng_parse.specs.declared.tree.Expr.{Expr}
use Rattle.ng_parse.specs.declared.tree.Pair.{Pair}
use Rattle.ng_store.proofs.Sound.{all_through, all_append}
use Rattle.ng_members.specs.Leaves.{Field, FieldsAllStand}
use Rattle.ng_write.proofs.More.{view_more}
use Rattle.ng_core.specs.Keeping.{makes_member}
use Rattle.ng_core.specs.Places.{Place, index_name}
use Rattle.ng_act.specs.Asked.{Doing}
use Rattle.ng_act.specs.Expressions.{acted, acted_all, acted_pair, acted_pairs, reached, left, made}
use Rattle.ng_act.specs.Actions.{does}
use Rattle.ng_core.specs.Calling.{is_nothing}
use Rattle.ng_chain.specs.declared.chain.Span.{Span}
use Rattle.ng_events.specs.Stands.{walks_at, open_of}
use Rattle.ng_core.specs.declared.core_state.Core.{Core}
use Rattle.ng_core.specs.Frames.{Acts, Held, held}
use Rattle.ng_core.specs.PlaceOf.{PlaceStands, TargetStands}
use Rattle.ng_core.specs.State.{State, Run}
use Rattle.ng_core.specs.declared.called.Called.{Called}
use Rattle.ng_core.specs.declared.called.Called.TheVariants as calls
use Rattle.ng_core.specs.declared.places.Place.{Place as Written}
use Rattle.ng_core.specs.declared.places.Place.TheVariants as places
use Rattle.ng_act.proofs.Steps.{drop_expr, drop_pair, all_kept, pairs_kept}

-- a call that left a fault
pub acts_err : {A B : Type 0} (seen : A → B) (r : Result A Fault) (e : Fault) (s : State) (x : Run B) → IsErrAnd r (λ y. y ≡ e) → (is_memory e ≡ false → x ≡ (s, Err e)) → Acts seen r s x
acts_err seen (Ok v) e s x er h = absurd er
acts_err seen (Err f) e s x er h = subst (λ y. is_memory y ≡ false → x ≡ (s, Err y)) (sym er) h

pub place_more : (n m : ℕ) → n ≤ m → (p : Written) → PlaceStands n p → PlaceStands m p
place_more n m h (places.Bare name) s = tt
place_more n m h (places.Within v name) s = view_more n m h (view_of v) s

pub target_more : (n m k l : ℕ) → n ≤ m → k ≡ l → (c : Called) → TargetStands n k c → TargetStands m l c
target_more n m k l h e (calls.OfArray o c) s = omega arith
target_more n m k l h e (calls.OfEvent o c) s = omega arith
target_more n m k l h e (calls.OfScope o c) s = omega arith
target_more n m k l h e calls.Nothing s = tt
target_more n m k l h e (calls.Function f) s = tt
target_more n m k l h e (calls.Pure c) s = tt
target_more n m k l h e calls.Other s = tt

pub all_more : (n m : ℕ) → n ≤ m → (vs : List ViewTree) → AllByRecursion (ViewStands n) vs → AllByRecursion (ViewStands m) vs
all_more n m h vs a = all_through (ViewStands n) (ViewStands m) (λ x s. view_more n m h x s) vs a

-- one more value
pub all_and : (n m : ℕ) (vs ws : List ViewTree) (v : ViewTree) → n ≤ m → ws ≡ vs ++ v ∷ [] → AllByRecursion (ViewStands n) vs → ViewStands m v → AllByRecursion (ViewStands m) ws
all_and n m vs ws v h e a s = rw e (all_append (ViewStands m) vs (v ∷ []) (all_more n m h vs a) (s, tt))

field_inserted : (n : ℕ) (fs : List Field) (name : List ℕ) (v : ViewTree) → FieldsAllStand n fs → ViewStands n v → FieldsAllStand n (insert_entry bytes_eq fs name v)
field_inserted n [] name v a s = (s, tt)
field_inserted n (f ∷ fs) name v a s = by (bytes_eq name f.0) (field_inserted n fs name v a.1 s)
  where
    by : (b : Bool) → FieldsAllStand n (insert_entry bytes_eq fs name v) → FieldsAllStand n (if b then (f.0, v) ∷ fs else f ∷ insert_entry bytes_eq fs name v)
    by true m = (s, a.1)
    by false m = (a.0, m)

pub fields_and : (n m : ℕ) (fs gs : List Field) (name : List ℕ) (v : ViewTree) → n ≤ m → gs ≡ insert_entry bytes_eq fs name v → FieldsAllStand n fs → ViewStands m v → FieldsAllStand m gs
fields_and n m fs gs name v h e a s =
    rw e (field_inserted m fs name v (all_through (λ (f : Field). ViewStands n f.1) (λ (f : Field). ViewStands m f.1) (λ x t. view_more n m h x.1 t) fs a) s)

-- a fault of an expression of a list
pub all_ends : {A : Type 0} (seen : A → List ViewTree) (r : Result A Fault) (e : Fault) (d0 d sc i : ℕ) (ps : List Expr) (p : Expr) (done : List ViewTree) (s t : State) (x : Run (List ViewTree)) → IsErrAnd r (λ y. y ≡ e) → i < length ps → p ≡ get_or ps i p → d ≡ d0
    → (is_memory e ≡ false → acted (does (64 - d)) sc (tree p) s ≡ (t, Err e)) → acted_all (does (64 - d0)) sc done (trees_from (map tree (drop i ps))) s ≡ x → Acts seen r t x
all_ends seen r e d0 d sc i ps p done s t x er h ep ed run inv =
    acts_err seen r e t x er (λ m. (
    let q : acted (does (64 - d0)) sc (tree p) s ≡ (t, Err e) = subst (λ k. acted (does (64 - k)) sc (tree p) s ≡ (t, Err e)) ed (run m) in
    let step : acted_all (does (64 - d0)) sc done (trees_from (map tree (drop i ps))) s ≡ (t, Err e) = rw (drop_expr ps i p h ep, q) refl in
    sym inv ∙ step))

pub pairs_end : {A : Type 0} (seen : A → List Field) (r : Result A Fault) (e : Fault) (d0 d sc i : ℕ) (ps : List Pair) (p : Pair) (done : List Field) (s t : State) (x : Run (List Field)) → IsErrAnd r (λ y. y ≡ e) → i < length ps → p ≡ get_or ps i p → d ≡ d0
    → (is_memory e ≡ false → acted_pair (does (64 - d)) sc (pair_tree p) s ≡ (t, Err e)) → acted_pairs (does (64 - d0)) sc done (pairs_from (map pair_tree (drop i ps))) s ≡ x → Acts seen r t x
pairs_end seen r e d0 d sc i ps p done s t x er h ep ed run inv =
    acts_err seen r e t x er (λ m. (
    let q : acted_pair (does (64 - d0)) sc (pair_tree p) s ≡ (t, Err e) = subst (λ k. acted_pair (does (64 - k)) sc (pair_tree p) s ≡ (t, Err e)) ed (run m) in
    let step : acted_pairs (does (64 - d0)) sc done (pairs_from (map pair_tree (drop i ps))) s ≡ (t, Err e) = rw (drop_pair ps i p h ep, q) refl in
    sym inv ∙ step))

-- a fault of the arguments of a call or a filter
pub call_ends : (r : Result View Fault) (e : Fault) (d0 d sc : ℕ) (t : Tree) (ts : Trees) (s a b : State) (v : ViewTree) (k : Called) → IsErrAnd r (λ y. y ≡ e) → d ≡ d0 → is_nothing k ≡ false
    → reached (does (64 - d0)) sc (acted (does (64 - d0)) sc t) t s ≡ (a, Ok (v, k)) → (is_memory e ≡ false → acted_all (does (64 - d)) sc [] ts a ≡ (b, Err e)) → Acts view_of r b (acted (does (64 - d0)) sc (call_of t ts) s)
call_ends r e d0 d sc t ts s a b v k er ed n run rest =
    acts_err view_of r e b (acted (does (64 - d0)) sc (call_of t ts) s) er (λ m. (
    let q : acted_all (does (64 - d0)) sc [] ts a ≡ (b, Err e) = subst (λ j. acted_all (does (64 - j)) sc [] ts a ≡ (b, Err e)) ed (rest m) in
    rw (run, n, q) refl))

pub filter_ends : (r : Result View Fault) (e : Fault) (d0 d sc : ℕ) (t : Tree) (name : List ℕ) (ts : Trees) (s a b : State) (v : ViewTree) → IsErrAnd r (λ y. y ≡ e) → d ≡ d0
    → acted (does (64 - d0)) sc t s ≡ (a, Ok v) → (is_memory e ≡ false → acted_all (does (64 - d)) sc [] ts a ≡ (b, Err e)) → Acts view_of r b (acted (does (64 - d0)) sc (filtered t name ts) s)
filter_ends r e d0 d sc t name ts s a b v er ed run rest =
    acts_err view_of r e b (acted (does (64 - d0)) sc (filtered t name ts) s) er (λ m. (
    let q : acted_all (does (64 - d0)) sc [] ts a ≡ (b, Err e) = subst (λ j. acted_all (does (64 - j)) sc [] ts a ≡ (b, Err e)) ed (rest m) in
    rw (run, q) refl))

-- what is reached, assigned to or made is that of the tree
pub left_member_ends : {A : Type 0} (seen : A → Place) (r : Result A Fault) (e : Fault) (go : Doing) (sc : ℕ) (u t : Tree) (name : List ℕ) (s a : State) → u ≡ member_of t name → IsErrAnd r (λ y. y ≡ e)
    → (is_memory e ≡ false → made go sc (acted go sc t) t s ≡ (a, Err e)) → Acts seen r a (left go sc u s)
left_member_ends seen r e go sc u t name s a eu er run = rw eu (acts_err seen r e a (left go sc (member_of t name) s) er (λ m. (rw (run m) refl)))

pub left_item_ends : {A : Type 0} (seen : A → Place) (r : Result A Fault) (e : Fault) (go : Doing) (sc : ℕ) (u t i : Tree) (s a : State) → u ≡ item_of t i → IsErrAnd r (λ y. y ≡ e)
    → (is_memory e ≡ false → made go sc (acted go sc t) t s ≡ (a, Err e)) → Acts seen r a (left go sc u s)
left_item_ends seen r e go sc u t i s a eu er run = rw eu (acts_err seen r e a (left go sc (item_of t i) s) er (λ m. (rw (run m) refl)))

pub left_index_ends : {A : Type 0} (seen : A → Place) (r : Result A Fault) (e : Fault) (d0 d sc : ℕ) (u t i : Tree) (s a b : State) (v : ViewTree) → u ≡ item_of t i → IsErrAnd r (λ y. y ≡ e) → d ≡ d0
    → made (does (64 - d0)) sc (acted (does (64 - d0)) sc t) t s ≡ (a, Ok v) → (is_memory e ≡ false → acted (does (64 - d)) sc i a ≡ (b, Err e)) → Acts seen r b (left (does (64 - d0)) sc u s)
left_index_ends seen r e d0 d sc u t i s a b v eu er ed run rest =
    rw eu (acts_err seen r e b (left (does (64 - d0)) sc (item_of t i) s) er (λ m. (
    let q : acted (does (64 - d0)) sc i a ≡ (b, Err e) = subst (λ j. acted (does (64 - j)) sc i a ≡ (b, Err e)) ed (rest m) in
    rw (run, q) refl)))

pub left_name_ends : {A : Type 0} (seen : A → Place) (r : Result A Fault) (e : Fault) (d0 d sc : ℕ) (u t i : Tree) (s a b : State) (v w : ViewTree) → u ≡ item_of t i → IsErrAnd r (λ y. y ≡ e) → d ≡ d0
    → made (does (64 - d0)) sc (acted (does (64 - d0)) sc t) t s ≡ (a, Ok v) → acted (does (64 - d)) sc i a ≡ (b, Ok w) → (is_memory e ≡ false → index_name b.objects v w ≡ Err e) → Acts seen r b (left (does (64 - d0)) sc u s)
left_name_ends seen r e d0 d sc u t i s a b v w eu er ed run rest name =
    let q : acted (does (64 - d0)) sc i a ≡ (b, Ok w) = subst (λ j. acted (does (64 - j)) sc i a ≡ (b, Ok w)) ed rest in
    rw eu (acts_err seen r e b (left (does (64 - d0)) sc (item_of t i) s) er (λ m. (rw (run, q, name m) refl)))

pub made_member_ends : (r : Result View Fault) (e : Fault) (go : Doing) (sc : ℕ) (whole : State → Run ViewTree) (u t : Tree) (name : List ℕ) (s a : State) → u ≡ member_of t name → IsErrAnd r (λ y. y ≡ e)
    → (is_memory e ≡ false → made go sc (acted go sc t) t s ≡ (a, Err e)) → Acts view_of r a (made go sc whole u s)
made_member_ends r e go sc whole u t name s a eu er run = rw eu (acts_err view_of r e a (made go sc whole (member_of t name) s) er (λ m. (rw (run m) refl)))

pub made_item_ends : (r : Result View Fault) (e : Fault) (go : Doing) (sc : ℕ) (whole : State → Run ViewTree) (u t i : Tree) (s a : State) → u ≡ item_of t i → IsErrAnd r (λ y. y ≡ e)
    → (is_memory e ≡ false → made go sc (acted go sc t) t s ≡ (a, Err e)) → Acts view_of r a (made go sc whole u s)
made_item_ends r e go sc whole u t i s a eu er run = rw eu (acts_err view_of r e a (made go sc whole (item_of t i) s) er (λ m. (rw (run m) refl)))

pub made_index_ends : (r : Result View Fault) (e : Fault) (d0 d sc : ℕ) (whole : State → Run ViewTree) (u t i : Tree) (s a b : State) (v : ViewTree) → u ≡ item_of t i → IsErrAnd r (λ y. y ≡ e) → d ≡ d0
    → made (does (64 - d0)) sc (acted (does (64 - d0)) sc t) t s ≡ (a, Ok v) → (is_memory e ≡ false → acted (does (64 - d)) sc i a ≡ (b, Err e)) → Acts view_of r b (made (does (64 - d0)) sc whole u s)
made_index_ends r e d0 d sc whole u t i s a b v eu er ed run rest =
    rw eu (acts_err view_of r e b (made (does (64 - d0)) sc whole (item_of t i) s) er (λ m. (
    let q : acted (does (64 - d0)) sc i a ≡ (b, Err e) = subst (λ j. acted (does (64 - j)) sc i a ≡ (b, Err e)) ed (rest m) in
    rw (run, q) refl)))

pub made_name_ends : (r : Result View Fault) (e : Fault) (d0 d sc : ℕ) (whole : State → Run ViewTree) (u t i : Tree) (s a b : State) (v w : ViewTree) → u ≡ item_of t i → IsErrAnd r (λ y. y ≡ e) → d ≡ d0
    → made (does (64 - d0)) sc (acted (does (64 - d0)) sc t) t s ≡ (a, Ok v) → acted (does (64 - d)) sc i a ≡ (b, Ok w) → (is_memory e ≡ false → index_name b.objects v w ≡ Err e) → Acts view_of r b (made (does (64 - d0)) sc whole u s)
made_name_ends r e d0 d sc whole u t i s a b v w eu er ed run rest name =
    let q : acted (does (64 - d0)) sc i a ≡ (b, Ok w) = subst (λ j. acted (does (64 - j)) sc i a ≡ (b, Ok w)) ed rest in
    rw eu (acts_err view_of r e b (made (does (64 - d0)) sc whole (item_of t i) s) er (λ m. (rw (run, q, name m) refl)))

-- a member is made on what was made
pub made_member_acts : (r : Result View Fault) (go : Doing) (sc : ℕ) (whole : State → Run ViewTree) (u t : Tree) (name : List ℕ) (s a b : State) (v : ViewTree) → u ≡ member_of t name
    → made go sc (acted go sc t) t s ≡ (a, Ok v) → Acts view_of r b (makes_member v name a) → Acts view_of r b (made go sc whole u s)
made_member_acts r go sc whole u t name s a b v eu run h = rw eu (subst (λ x. Acts view_of r b x) (let q : makes_member v name a ≡ made go sc whole (member_of t name) s = rw run refl in q) h)

pub made_item_acts : (r : Result View Fault) (d0 d sc : ℕ) (whole : State → Run ViewTree) (u t i : Tree) (name : List ℕ) (s a b c : State) (v w : ViewTree) → u ≡ item_of t i → d ≡ d0
    → made (does (64 - d0)) sc (acted (does (64 - d0)) sc t) t s ≡ (a, Ok v) → acted (does (64 - d)) sc i a ≡ (b, Ok w) → index_name b.objects v w ≡ Ok name → Acts view_of r c (makes_member v name b) → Acts view_of r c (made (does (64 - d0)) sc whole u s)
made_item_acts r d0 d sc whole u t i name s a b c v w eu ed run rest en h =
    let q : acted (does (64 - d0)) sc i a ≡ (b, Ok w) = subst (λ j. acted (does (64 - j)) sc i a ≡ (b, Ok w)) ed rest in
    rw eu (subst (λ x. Acts view_of r c x) (let z : makes_member v name b ≡ made (does (64 - d0)) sc whole (item_of t i) s = rw (run, q, en) refl in z) h)

-- what is held is the same where its parts are
held_of : (w v : ℕ → List (Option Span)) (a b m n : ℕ) → w ≡ v → a ≡ b → m ≡ n → (let x : Held = record { walks = w; bare = a; count = m } in x) ≡ (let y : Held = record { walks = v; bare = b; count = n } in y)
held_of w v a b m n ew ea em = rw (ew, ea, em) refl

pub held_same : (c d : Core) → walks_at d.listeners ≡ walks_at c.listeners → d.listeners.bare ≡ c.listeners.bare → open_of d.listeners ≡ open_of c.listeners → held d ≡ held c
held_same c d ew eb eo = held_of (walks_at d.listeners) (walks_at c.listeners) d.listeners.bare c.listeners.bare (open_of d.listeners) (open_of c.listeners) ew eb eo

-- one step of the loops over expressions and pairs, with what was pushed
pub all_pushed : (d0 d sc i : ℕ) (ps : List Expr) (p : Expr) (done now : List ViewTree) (v : ViewTree) (s t : State) (x : Run (List ViewTree)) → now ≡ done ++ v ∷ [] → i < length ps → p ≡ get_or ps i p → d ≡ d0
    → acted (does (64 - d)) sc (tree p) s ≡ (t, Ok v)
    → acted_all (does (64 - d0)) sc done (trees_from (map tree (drop i ps))) s ≡ x → acted_all (does (64 - d0)) sc now (trees_from (map tree (drop (i + 1) ps))) t ≡ x
all_pushed d0 d sc i ps p done now v s t x en h e ed run inv = rw en (all_kept d0 d sc i ps p done v s t x h e ed run inv)

pub pairs_put : (d0 d sc i : ℕ) (ps : List Pair) (p : Pair) (done now : List Field) (f : Field) (s t : State) (x : Run (List Field)) → now ≡ insert_entry bytes_eq done f.0 f.1 → i < length ps → p ≡ get_or ps i p → d ≡ d0
    → acted_pair (does (64 - d)) sc (pair_tree p) s ≡ (t, Ok f)
    → acted_pairs (does (64 - d0)) sc done (pairs_from (map pair_tree (drop i ps))) s ≡ x → acted_pairs (does (64 - d0)) sc now (pairs_from (map pair_tree (drop (i + 1) ps))) t ≡ x
pairs_put d0 d sc i ps p done now f s t x en h e ed run inv = rw en (pairs_kept d0 d sc i ps p done f s t x h e ed run inv)

pub ok_then : {T E : Type 0} {A B : Type 0} (r : Result T E) → OnOk r A → (A → B) → OnOk r B
ok_then (Ok v) h f = f h
ok_then (Err e) h f = tt

-- what is held gives its parts
pub walks_kept : (c d : Core) → held d ≡ held c → walks_at d.listeners ≡ walks_at c.listeners
walks_kept c d h = ap (λ (x : Held). x.walks) h

pub bare_kept : (c d : Core) → held d ≡ held c → d.listeners.bare ≡ c.listeners.bare
bare_kept c d h = ap (λ (x : Held). x.bare) h

pub open_kept : (c d : Core) → held d ≡ held c → open_of d.listeners ≡ open_of c.listeners
open_kept c d h = ap (λ (x : Held). x.count) h

pub inside_kept : (c d : Core) → held d ≡ held c → d.depth ≡ c.depth → open_of c.listeners < c.depth → open_of d.listeners < d.depth
inside_kept c d h e i =
    let q : open_of d.listeners ≡ open_of c.listeners = open_kept c d h in
    omega (arith, q, e, i)

-- fewer bodies than the most were entered
pub entered_less : (n : ℕ) → n < 100000 → nat_lt n 100000 ≡ true
entered_less n h = grind (arith, nat_tests)

-- The comparisons of `orderBy` are total preorders.
use Rattle.std.proofs.Common.{◌≡◌, ◌∙◌, Bool, true, false, List, [], ◌∷◌, refl, sym, ap, Ordering, Less, Equal, Greater}
use Rattle.std.specs.Cmp.{IsTotalOrder}
use Rattle.std.specs.Ordering.{on, then_cmp, ordering_then, nat_cmp, int_cmp, ordering_reverse}
use Rattle.std.proofs.lemmas.Cmp.{nat_cmp_total, int_cmp_total, nat_list_cmp_total, on_total, then_total, back_total}
use Rattle.ng_base.specs.Objects.{Object}
use Rattle.ng_base.specs.Views.{ViewTree}
use Rattle.ng_filters.specs.declared.predicates.Predicate.{Predicate}
use Rattle.ng_filters.specs.declared.keys.Key.{Key}
use Rattle.ng_filters.specs.Ordering.{key_cmp, turned, differ, key_at, keys_at, keys_cmp, by_predicate, by_predicates}

pub key_cmp_total : IsTotalOrder key_cmp
key_cmp_total = then_total (on_total (λ (k : Key). k.rank) nat_cmp_total) (then_total (on_total (λ (k : Key). k.number) int_cmp_total) (on_total (λ (k : Key). k.text) nat_list_cmp_total))

pub turned_total : {A : Type 0} {R : A → A → Ordering} (b : Bool) → IsTotalOrder R → IsTotalOrder (turned b R)
turned_total true o = back_total o
turned_total false o = o

equal_total : {A : Type 0} → IsTotalOrder {K = A} (λ x y. Equal)
equal_total = record { antisymm = λ x y. refl; trans = λ x y z h k. absurd (cc); congr = λ x y z h. refl }

-- items by one predicate, and by several
pub by_predicate_total : (objects : List Object) (reversed : Bool) (p : Predicate) → IsTotalOrder (by_predicate objects reversed p)
by_predicate_total objects reversed p = turned_total (differ reversed p.falling) (on_total (key_at objects p) key_cmp_total)

pub by_predicates_total : (objects : List Object) (reversed : Bool) (ps : List Predicate) → IsTotalOrder (by_predicates objects reversed ps)
by_predicates_total objects reversed [] = equal_total
by_predicates_total objects reversed (p ∷ ps) = then_total (by_predicate_total objects reversed p) (by_predicates_total objects reversed ps)

-- lists of keys
abbrev Pair : Type 0
Pair = Key × List Key

pair_cmp : Bool → Predicate → List Predicate → Pair → Pair → Ordering
pair_cmp reversed p ps = then_cmp (on (λ (x : Pair). x.0) (turned (differ reversed p.falling) key_cmp)) (on (λ (x : Pair). x.1) (keys_cmp reversed ps))

longer_total : (reversed : Bool) (p : Predicate) (ps : List Predicate) → IsTotalOrder (pair_cmp reversed p ps) → IsTotalOrder (keys_cmp reversed (p ∷ ps))
unfolding pair_cmp
longer_total reversed p ps pairs = record { antisymm = anti; trans = through; congr = alike }
  where
    anti : (x y : List Key) → keys_cmp reversed (p ∷ ps) x y ≡ ordering_reverse (keys_cmp reversed (p ∷ ps) y x)
    anti [] [] = refl
    anti [] (l ∷ ls) = refl
    anti (k ∷ ks) [] = refl
    anti (k ∷ ks) (l ∷ ls) = pairs.antisymm (k, ks) (l, ls)

    through : (x y z : List Key) → keys_cmp reversed (p ∷ ps) x y ≡ Less → keys_cmp reversed (p ∷ ps) y z ≡ Less → keys_cmp reversed (p ∷ ps) x z ≡ Less
    through [] [] z h i = absurd (cc)
    through [] (l ∷ ls) [] h i = absurd (cc)
    through [] (l ∷ ls) (m ∷ ms) h i = refl
    through (k ∷ ks) [] z h i = absurd (cc)
    through (k ∷ ks) (l ∷ ls) [] h i = absurd (cc)
    through (k ∷ ks) (l ∷ ls) (m ∷ ms) h i = pairs.trans (k, ks) (l, ls) (m, ms) h i

    alike : (x y z : List Key) → keys_cmp reversed (p ∷ ps) x y ≡ Equal → keys_cmp reversed (p ∷ ps) x z ≡ keys_cmp reversed (p ∷ ps) y z
    alike [] [] z h = refl
    alike [] (l ∷ ls) z h = absurd (cc)
    alike (k ∷ ks) [] z h = absurd (cc)
    alike (k ∷ ks) (l ∷ ls) [] h = refl
    alike (k ∷ ks) (l ∷ ls) (m ∷ ms) h = pairs.congr (k, ks) (l, ls) (m, ms) h

pub keys_cmp_total : (reversed : Bool) (ps : List Predicate) → IsTotalOrder (keys_cmp reversed ps)
unfolding pair_cmp
keys_cmp_total reversed [] = equal_total
keys_cmp_total reversed (p ∷ ps) = longer_total reversed p ps (then_total (on_total (λ (x : Pair). x.0) (turned_total (differ reversed p.falling) key_cmp_total)) (on_total (λ (x : Pair). x.1) (keys_cmp_total reversed ps)))

turned_on : (b : Bool) (f : ViewTree → Key) (t u : ViewTree) → turned b key_cmp (f t) (f u) ≡ turned b (on f key_cmp) t u
turned_on true f t u = refl
turned_on false f t u = refl

-- the keys of two items tell them apart as the predicates do
pub keys_decide : (objects : List Object) (reversed : Bool) (ps : List Predicate) (t u : ViewTree) → keys_cmp reversed ps (keys_at objects ps t) (keys_at objects ps u) ≡ by_predicates objects reversed ps t u
keys_decide objects reversed [] t u = refl
keys_decide objects reversed (p ∷ ps) t u =
    ap (λ o. ordering_then o (keys_cmp reversed ps (keys_at objects ps t) (keys_at objects ps u))) (turned_on (differ reversed p.falling) (key_at objects p) t u)
    ∙ ap (ordering_then (by_predicate objects reversed p t u)) (keys_decide objects reversed ps t u)

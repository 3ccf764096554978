-- Lists of views, read item by item.
use Rattle.std.proofs.Common.{◌≡◌, ◌∙◌, ◌+◌, ◌-◌, ◌<◌, ℕ, zero, suc, List, [], ◌∷◌, map, length, take, drop, slice_get, slice_index_or, Some, refl, sym, ap, subst, arith}
use Rattle.std.proofs.lemmas.List.{length-map}
use Rattle.ng_base.specs.Views.{ViewTree, prim}
use Rattle.ng_base.specs.ViewOf.{view_of}
use Rattle.ng_base.specs.declared.value.Value.{Value}
use Rattle.ng_base.specs.declared.view.View.{View}
use Rattle.ng_language.specs.Unfolding.{prims}
use Rattle.ng_value.proofs.ViewParts.{views_from-list, fields_from-list}

pub ruleset view_parts = (views_from-list, fields_from-list)

pub length-prims : (vs : List Value) → length (prims vs) ≡ length vs
length-prims [] = refl
length-prims (v ∷ vs) = ap suc (length-prims vs)

pub ruleset part_lengths = (length-prims, views_from-list, fields_from-list, length-map)

pub at_prims : (vs : List Value) (i : ℕ) (v : Value) → slice_get vs i ≡ Some v → drop i (prims vs) ≡ prim v ∷ drop (i + 1) (prims vs)
at_prims [] i v h = absurd (cc)
at_prims (x ∷ xs) zero v h = let e : x ≡ v = cc in ap (λ y. prim y ∷ prims xs) e
at_prims (x ∷ xs) (suc i) v h = let e : suc i + 1 ≡ suc (i + 1) = omega arith in rw e (at_prims xs i v h)

at_mapped : (vs : List View) (i : ℕ) (v : View) → i < length vs → v ≡ slice_index_or vs i v → drop i (map view_of vs) ≡ view_of v ∷ drop (i + 1) (map view_of vs)
at_mapped [] i v l h = absurd (omega arith)
at_mapped (x ∷ xs) zero v l h = let e : x ≡ v = sym h in ap (λ y. view_of y ∷ map view_of xs) e
at_mapped (x ∷ xs) (suc i) v l h = let e : suc i + 1 ≡ suc (i + 1) = omega arith in rw e (at_mapped xs i v (omega arith) h)

pub at_views : (vs : List View) (ts : List ViewTree) (i : ℕ) (v : View) → map view_of vs ≡ ts → i < length vs → v ≡ slice_index_or vs i v → drop i ts ≡ view_of v ∷ drop (i + 1) ts
at_views vs ts i v e l h = subst (λ us. drop i us ≡ view_of v ∷ drop (i + 1) us) e (at_mapped vs i v l h)

pub take_step : {A : Type 0} (xs : List A) (i end : ℕ) (x : A) → drop i xs ≡ x ∷ drop (i + 1) xs → i < end → take (end - i) (drop i xs) ≡ x ∷ take (end - (i + 1)) (drop (i + 1) xs)
take_step xs i end x h l =
    let e : end - i ≡ suc (end - (i + 1)) = omega arith in
    rw (e, h) refl

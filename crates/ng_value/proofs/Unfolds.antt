-- One step of the traversal.
use Rattle.std.proofs.Common.{◌≡◌, ◌+◌, ◌-◌, ℕ, zero, suc, List, [], ◌∷◌, ◌++◌, drop, refl, ap, Option, Some, None, slice_get, add-one, append_assoc, arith}
use Rattle.std.specs.Prelude.{Result, Ok, Err}
use Rattle.ng_base.specs.Objects.{Object}
use Rattle.ng_base.specs.Views.{ViewTree, prim}
use Rattle.ng_base.specs.declared.fault.Fault.{Fault}
use Rattle.ng_base.specs.declared.value.Value.{Value}
use Rattle.ng_language.specs.Unfolding.{Spent, unfold_within, unfold_view, unfold_items, prims}
use Rattle.ng_language.specs.declared.unfolding.Mode.{Mode}

at_item : (items : List Value) (i : ℕ) (v : Value) → slice_get items i ≡ Some v → drop i items ≡ v ∷ drop (suc i) items
at_item [] i v h = absurd (cc)
at_item (x ∷ xs) zero v h = let e : x ≡ v = cc in ap (λ y. y ∷ xs) e
at_item (x ∷ xs) (suc i) v h = at_item xs i v h

pub items_err : (go : ViewTree → ℕ → Spent ViewTree) (items : List Value) (i : ℕ) (v : Value) (done : List ViewTree) (left : ℕ) (e : Fault) → slice_get items i ≡ Some v → go (prim v) left ≡ Err e → unfold_items go (prims (drop i items)) done left ≡ Err e
items_err go items i v done left e h f = rw (at_item items i v h, f) refl

pub items_ok : (go : ViewTree → ℕ → Spent ViewTree) (items : List Value) (i : ℕ) (v : Value) (done : List ViewTree) (left : ℕ) (u : ViewTree) (rest : ℕ) → slice_get items i ≡ Some v → go (prim v) left ≡ Ok (u, rest)
    → unfold_items go (prims (drop i items)) done left ≡ unfold_items go (prims (drop (i + 1) items)) (done ++ u ∷ []) rest
items_ok go items i v done left u rest h f = rw (at_item items i v h, f, add-one) refl

-- a value through one level and one node
pub view_step : (levels left : ℕ) (objects : List Object) (m : Mode) (t : ViewTree) (A : Result (ViewTree × ℕ) Fault → Type 0) → (levels ≡ 0 → ⊥) → (left ≡ 0 → ⊥) → A (unfold_view m (unfold_within (levels - 1) objects) objects t (left - 1)) → A (unfold_within levels objects m t left)
view_step zero left objects m t A a b h = absurd (a refl)
view_step (suc k) zero objects m t A a b h = absurd (b refl)
view_step (suc k) (suc l) objects m t A a b h =
    let e : suc k - 1 ≡ k = omega arith in
    let f : suc l - 1 ≡ l = omega arith in
    rw (e, f) at h

-- an item behind those that were taken
pub items_next : (items : List Value) (i : ℕ) (v : Value) (done : List ViewTree) → slice_get items i ≡ Some v → (done ++ prim v ∷ []) ++ prims (drop (i + 1) items) ≡ done ++ prims (drop i items)
items_next items i v done h = rw (at_item items i v h, add-one) (append_assoc done (prim v ∷ []) (prims (drop (suc i) items)))

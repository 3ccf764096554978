-- What is noted of an instance stands.
use Rattle.std.proofs.Common.{◌≡◌, ℕ, Bool, true, false, [], ◌∷◌, Some, refl, subst, cond}
use Rattle.std.specs.BTreeMap.{is_at}
use Rattle.std.specs.List.{AllByRecursion}
use Rattle.std.specs.Ordering.{nat_cmp}
use Rattle.ng_instances.specs.Bindings.{Bound, Bounds, bound_in_table, BoundStands}

-- the scopes that are noted for a number are there
pub noted_stands : (count n : ℕ) (bs : Bounds) (b : Bound) → AllByRecursion (λ (e : ℕ × Bound). BoundStands count e.1) bs → bound_in_table n bs ≡ Some b → BoundStands count b
noted_stands count n [] b all at = absurd (cc)
noted_stands count n (e ∷ es) b all at = by_test (is_at (nat_cmp n) e.0) refl at (noted_stands count n es b all.1)
  where
    by_test : (t : Bool) → is_at (nat_cmp n) e.0 ≡ t → cond t (Some e.1) (bound_in_table n es) ≡ Some b → (bound_in_table n es ≡ Some b → BoundStands count b) → BoundStands count b
    by_test true is same more = let one : e.1 ≡ b = cc in subst (BoundStands count) one all.0
    by_test false is same more = more same

-- What all of a list have, each has.
use Rattle.std.proofs.Common.{◌≡◌, ℕ, Bool, true, false, cond, List, [], ◌∷◌, Some, refl, sym, subst}
use Rattle.std.specs.List.{AllByRecursion}
use Rattle.ng_instances.proofs.PathIs.{path_is}
use Rattle.ng_instances.specs.Instances.{Linked, Instances, is_path, linked_at}

pub all_at : (P : List ℕ → Linked → Type 0) (is : Instances) (p : List ℕ) (l : Linked) → AllByRecursion (λ (e : List ℕ × Linked). P e.0 e.1) is → linked_at p is ≡ Some l → P p l
all_at P [] p l h at = absurd (cc)
all_at P (e ∷ es) p l h at = by (is_path p e.0) refl (all_at P es p l h.1) at
  where
    by : (b : Bool) → is_path p e.0 ≡ b → (linked_at p es ≡ Some l → P p l) → cond b (Some e.1) (linked_at p es) ≡ Some l → P p l
    by true same more at =
        let here : e.1 ≡ l = cc in
        subst (λ (m : Linked). P p m) here (subst (λ (q : List ℕ). P q e.1) (sym (path_is p e.0 same)) h.0)
    by false off more at = more at

-- What is found among watchers where one keeps something.
use Rattle.std.proofs.Common.{◌≡◌, Bool, true, false, cond, [], ◌∷◌, Option, Some, refl, ap, sym}
use Rattle.ng_base.specs.declared.path.Key.{Key}
use Rattle.ng_base.specs.Views.{ViewTree}
use Rattle.ng_behaviour.specs.Keys.{is_key}
use Rattle.ng_watch.specs.Table.{Table, found, keeping, with_kept}
use Rattle.ng_build.proofs.Keys.{key_is, other_key}

-- at another key than that of the watcher that keeps something, the same is found
pub kept-other : (k q : Key) (s : Option ViewTree) (t : Table) → (q ≡ k → ⊥) → found q (with_kept k s t) ≡ found q t
kept-other k q s [] ne = refl
kept-other k q s (e ∷ es) ne = by_test (is_key k e.0) refl (kept-other k q s es ne)
  where
    by_test : (b : Bool) → is_key k e.0 ≡ b → found q (with_kept k s es) ≡ found q es → found q (cond b ((e.0, keeping s e.1) ∷ es) (e ∷ with_kept k s es)) ≡ cond (is_key q e.0) (Some e.1) (found q es)
    by_test true is more = let same : k ≡ e.0 = key_is k e.0 is in let apart : is_key q e.0 ≡ false = rw (← same) (other_key q k (λ g. ne (sym g))) in rw apart refl
    by_test false is more = ap (cond (is_key q e.0) (Some e.1)) more

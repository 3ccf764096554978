-- What a walk did, from what its calls ensure.
use Rattle.std.proofs.Common.{◌≡◌, ◌≢◌, ◌⊎◌, inl, inr, true, false, sym, subst, ap, ◌∙◌}
use Rattle.ng_digest.specs.Machine.{Machine, found_dirty}
use Rattle.ng_digest.specs.Laws.{InOrder}
use Rattle.ng_digest.specs.Place.{Place, advanced, after_test, is_remembered, found, stage_tested, OnTested}
use Rattle.ng_digest.specs.declared.rounds.Found.{Found}
use Rattle.ng_digest.specs.declared.rounds.Found.TheVariants.{Stopped, Fireable}
use Rattle.ng_digest.specs.declared.world.Tested.{Tested}
use Rattle.ng_digest.specs.declared.world.Tested.TheVariants.{Clean, Faulted}
use Rattle.ng_digest.specs.declared.world.Stage.TheVariants.{Passed, Through, Pending}
use Rattle.ng_digest.specs.Short.{has_more, Skips, at_remembered, at_dirty, passed_by}
use Rattle.ng_digest.proofs.Stages.{passed_after, through_after}

pub was_tested : (t : Tested) (P : Type 0) → (t ≡ Clean) ⊎ (t ≡ Faulted) → OnTested t P → P
was_tested t P (inl e) h = subst (λ u. OnTested u P) e h
was_tested t P (inr e) h = subst (λ u. OnTested u P) e h

module _ {S K : Type 0} (m : Machine S K) where
  pub dirty_found : (p q r : Place S K) → true ≡ has_more m p → InOrder m p.state → q ≡ advanced m p → found m q ≡ found_dirty → r ≡ after_test m q → Skips m p Fireable r
  dirty_found p q r e o a d t =
      subst (Skips m p Fireable) (sym (t ∙ ap (after_test m) a)) (at_dirty (sym e) o (subst (λ x. found m x ≡ found_dirty) a d))

  pub stop_found : (p q r : Place S K) → true ≡ has_more m p → InOrder m p.state → q ≡ advanced m p → is_remembered m q ≡ true → found m q ≢ found_dirty → r ≡ after_test m q → Skips m p Stopped r
  stop_found p q r e o a s n t =
      subst (Skips m p Stopped) (sym (t ∙ ap (after_test m) a)) (at_remembered (sym e) o (subst (λ x. is_remembered m x ≡ true) a s) (subst (λ x. found m x ≢ found_dirty) a n))

  pub passed_found : (p q r x : Place S K) (f : Found) → true ≡ has_more m p → InOrder m p.state → q ≡ advanced m p → is_remembered m q ≡ false → found m q ≢ found_dirty → r ≡ after_test m q → Skips m r f x → Skips m p f x
  passed_found p q r x f e o a s n t d =
      passed_by (sym e) o (subst (λ y. is_remembered m y ≡ false) a s) (subst (λ y. found m y ≢ found_dirty) a n) (subst (λ y. Skips m y f x) (t ∙ ap (after_test m) a) d)

  -- where the world stands after the test
  pub stage_dirty : (q r : Place S K) → found m q ≡ found_dirty → r ≡ after_test m q → r.stage ≡ Pending
  stage_dirty q r d t = ap (λ x. x.stage) t ∙ ap (stage_tested (is_remembered m q)) d

  pub stage_passed : (q r : Place S K) → is_remembered m q ≡ false → found m q ≢ found_dirty → r ≡ after_test m q → r.stage ≡ Passed
  stage_passed q r s n t = ap (λ x. x.stage) t ∙ passed_after (is_remembered m q) (found m q) n s

  pub stage_stopped : (q r : Place S K) → is_remembered m q ≡ true → found m q ≢ found_dirty → r ≡ after_test m q → r.stage ≡ Through
  stage_stopped q r s n t = ap (λ x. x.stage) t ∙ through_after (is_remembered m q) (found m q) n s

-- A walk over watchers that are clean, step by step, and one that is to end at the next watcher.
use Rattle.std.proofs.Common.{◌≡◌, ◌∙◌, ℕ, suc, true, false, true≢false, List, Option, None, Some, Result, Ok, ap, refl, sym, subst}
use Rattle.std.specs.Prelude.{IsSome}
use Rattle.ng_base.specs.Objects.{Object}
use Rattle.ng_base.specs.declared.fault.Fault.{Fault}
use Rattle.ng_base.specs.declared.path.Key.{Key}
use Rattle.ng_watch.proofs.Tables.{after_there, first_there}
use Rattle.ng_watch.specs.Seen.{Watcher}
use Rattle.ng_watch.specs.Table.{Table, found}
use Rattle.ng_watch.specs.Verdicts.{Judged, clean}
use Rattle.ng_watch.specs.Walks.{Arrival, at_watcher, Walks, came_to_end, came_to_watcher, passed_watcher, next_of, ends_at}
use Rattle.ng_page.specs.KnownClean.{IsClean}
use Rattle.ng_page.specs.PageLaws.{is_itself}

-- the next key has a watcher
next_there : (c : Option Key) (k : Key) (t : Table) → next_of c t ≡ Some k → IsSome (found k t)
next_there None k t e = first_there k t (sym e)
next_there (Some c) k t e = after_there c k t (sym e)

module _ (objects : List Object) (t : Table) (last c : Option Key) (k : Key) (is_clean : IsClean objects t k) (next : next_of c t ≡ Some k) where
  -- a walk comes to it
  pub comes : Walks objects t last c 0 (at_watcher k (Ok clean))
  comes = by_watcher (found k t) refl (next_there c k t next)
    where
      by_watcher : (o : Option Watcher) → found k t ≡ o → IsSome o → Walks objects t last c 0 (at_watcher k (Ok clean))
      by_watcher None f i = absurd (cc)
      by_watcher (Some w) f i = subst (λ (r : Result Judged Fault). Walks objects t last c 0 (at_watcher k r)) (is_clean w f) (came_to_watcher next f)

  -- or passes it
  pub goes_on : ends_at last k ≡ false → (n : ℕ) (a : Arrival) → Walks objects t last (Some k) n a → Walks objects t last c (suc n) a
  goes_on other n a d = by_watcher (found k t) refl (next_there c k t next)
    where
      by_watcher : (o : Option Watcher) → found k t ≡ o → IsSome o → Walks objects t last c (suc n) a
      by_watcher None f i = absurd (cc)
      by_watcher (Some w) f i = passed_watcher next f (is_clean w f) other d

-- a walk that is to end at the next watcher passes none, so it may stand in a walk to any end
pub alone : (objects : List Object) (t : Table) (last : Option Key) (k : Key) {c : Option Key} {n : ℕ} {a : Arrival} → next_of c t ≡ Some k → Walks objects t (Some k) c n a → Walks objects t last c 0 a
alone objects t last k next (came_to_end h) = came_to_end h
alone objects t last k next (came_to_watcher h f) = came_to_watcher h f
alone objects t last k next (passed_watcher {k = j} h f v o rest) =
    let yes : ends_at (Some k) j ≡ true = ap (λ l. ends_at l j) (sym next ∙ h) ∙ is_itself j in
    absurd (true≢false (sym yes ∙ o))

-- Keys that are passed on the way to one.
use Rattle.std.proofs.Common.{◌≡◌, ◌≢◌, ◌<◌, ◌+◌, ◌-◌, ◌^◌, ℕ, zero, suc, min, Bool, true, false, refl, sym, ap, ◌∙◌, subst, arith, Option, Some, None, Result, Ok, Err, is_some}
use Rattle.std.specs.Prelude.{IfOk, OnOk}
use Rattle.ng_base.specs.declared.fault.Memory.{Memory as Wanted}
use Rattle.ng_digest.specs.declared.log.Log.{Log}
use Rattle.ng_digest.specs.declared.rounds.Found.{Found}
use Rattle.ng_digest.specs.declared.rounds.Found.TheVariants.{Nothing}
use Rattle.ng_digest.specs.declared.world.Stage.{Stage}
use Rattle.ng_digest.specs.declared.world.Stage.TheVariants.{AtKey, Passed, Through}
use Rattle.ng_digest.specs.Laws.{HasLaws, InOrder}
use Rattle.ng_digest.specs.Log.{more64, many64, with_test, with_tests}
use Rattle.ng_digest.specs.Machine.{Machine, found_clean, found_dirty, next_key, ahead, is_same}
use Rattle.ng_digest.specs.Passing.{Passes, up_to_end, up_to_key, went_past}
use Rattle.ng_digest.specs.Place.{Place, at_next, advanced, found, after_test, is_remembered, state_tested, stage_tested}
use Rattle.ng_digest.specs.Progress.{Standing, place, came_to, passed}
use Rattle.ng_digest.specs.Short.{has_more, Skips, none_above, passed_by}
use Rattle.ng_digest.proofs.Counts.{log_next}
use Rattle.ng_digest.proofs.Keys.{fewer}

-- ---- counts

-- so many more at once are so many more one after another
pub many_more : (k n : ℕ) → n < 2 ^ 64 → min (n + k) (2 ^ 64 - 1) ≡ many64 k n
many_more zero n l = let same : min (n + zero) (2 ^ 64 - 1) ≡ n = omega arith in same
many_more (suc k) n l =
    let next : min (n + 1) (2 ^ 64 - 1) < 2 ^ 64 = omega arith in
    let same : min (n + suc k) (2 ^ 64 - 1) ≡ min (min (n + 1) (2 ^ 64 - 1) + k) (2 ^ 64 - 1) = omega arith in
    same ∙ many_more k (more64 n) next

below_both : (a b c : ℕ) → a < b → b < c → a < c
below_both a b c l h = omega (arith, l, h)

module _ {S K : Type 0} (m : Machine S K) where
  -- ---- what a walk says of where it went

  stage_key : (p : Place S K) (o : Option K) → is_some o ≡ true → (at_next p o).stage ≡ AtKey
  stage_key p None e = cc
  stage_key p (Some k) e = refl

  stage_end : (p : Place S K) (o : Option K) → is_some o ≡ false → (at_next p o).stage ≡ Through
  stage_end p None e = refl
  stage_end p (Some k) e = cc

  pub stage_came : {p q : Place S K} {more : Bool} → Passes m p more q → more ≡ true → q.stage ≡ AtKey
  stage_came (up_to_end e o) t = cc
  stage_came {p = p} (up_to_key e o) t = stage_key p (next_key m p.state p.cursor) e
  stage_came (went_past e o s n rest) t = stage_came rest t

  pub stage_ended : {p q : Place S K} {more : Bool} → Passes m p more q → more ≡ false → q.stage ≡ Through
  stage_ended {p = p} (up_to_end e o) f = stage_end p (next_key m p.state p.cursor) e
  stage_ended (up_to_key e o) f = cc
  stage_ended (went_past e o s n rest) f = stage_ended rest f

  -- tests alone are counted
  pub counts_passed : {p q : Place S K} {more : Bool} → Passes m p more q → (q.log.dirty_rounds ≡ p.log.dirty_rounds) × (q.log.fires ≡ p.log.fires)
  counts_passed {p = p} (up_to_end e o) = let h = log_next p (next_key m p.state p.cursor) in (ap (λ l. l.dirty_rounds) h, ap (λ l. l.fires) h)
  counts_passed {p = p} (up_to_key e o) = let h = log_next p (next_key m p.state p.cursor) in (ap (λ l. l.dirty_rounds) h, ap (λ l. l.fires) h)
  counts_passed {p = p} (went_past e o s n rest) =
      let h = log_next p (next_key m p.state p.cursor) in
      let r = counts_passed rest in
      (r.0 ∙ ap (λ l. l.dirty_rounds) h, r.1 ∙ ap (λ l. l.fires) h)

  -- one key further, and none is passed
  pub next_passes : (p q : Place S K) (more : Bool) → more ≡ is_some (next_key m p.state p.cursor) → q ≡ advanced m p → InOrder m p.state → Passes m p more q
  next_passes p q more answer step sorted = subst (Passes m p more) (sym step) (by_more more answer)
    where
      by_more : (b : Bool) → b ≡ is_some (next_key m p.state p.cursor) → Passes m p b (advanced m p)
      by_more true e = up_to_key (sym e) sorted
      by_more false e = up_to_end (sym e) sorted

  pub next_is_way : (p q : Place S K) (r : Result Bool Wanted) → IfOk r (λ more. more ≡ is_some (next_key m p.state p.cursor)) → OnOk r (q ≡ advanced m p) → OnOk r (InOrder m p.state) → IfOk r (λ more. Passes m p more q)
  next_is_way p q (Ok more) answer step sorted = next_passes p q more answer step sorted
  next_is_way p q (Err e) answer step sorted = tt

  -- ---- what goes on from there

  -- a walk whose keys are passed to the end found none that is dirty
  pub passed_none : {p q : Place S K} {more : Bool} → Passes m p more q → more ≡ false → Skips m p Nothing q
  passed_none (up_to_end e o) f = none_above e o
  passed_none (up_to_key e o) f = cc
  passed_none (went_past e o s n rest) f = passed_by e o s n (passed_none rest f)

  -- what a walk does from the key that it comes to, it does from its start
  pub passed_then : {p q r : Place S K} {more : Bool} {f : Found} → Passes m p more q → more ≡ true → ((x : Place S K) → true ≡ has_more m x → InOrder m x.state → q ≡ advanced m x → Skips m x f r) → Skips m p f r
  passed_then (up_to_end e o) t go = cc
  passed_then {p = p} (up_to_key e o) t go = go p (sym e) o refl
  passed_then (went_past e o s n rest) t go = passed_by e o s n (passed_then rest t go)

  -- and it leaves fewer keys ahead
  pub fewer_then : HasLaws m → {p q : Place S K} {more : Bool} → Passes m p more q → more ≡ true → (r : Place S K) → r ≡ after_test m q → found m q ≢ found_dirty → ahead m r.state r.cursor < ahead m p.state p.cursor
  fewer_then laws (up_to_end e o) t r s n = cc
  fewer_then laws {p = p} (up_to_key e o) t r s n = fewer m laws p (advanced m p) r o (sym e) refl s n
  fewer_then laws {p = p} (went_past e o same clean rest) t r s n =
      let next = after_test m (advanced m p) in
      below_both (ahead m r.state r.cursor) (ahead m next.state next.cursor) (ahead m p.state p.cursor) (fewer_then laws rest t r s n) (fewer m laws p (advanced m p) next o (sym e) refl refl clean)

-- ---- clean keys

-- Keys above a cursor that are clean in a state, and whose tests leave it as it is, so many, up to a cursor; none of them is
-- the remembered one. The key above that cursor is come to, if there is one
pub data Goes {S K : Type 0} (m : Machine S K) (s : S) (r : Option K) : Option K → ℕ → Option K → Option K → Type 0 where
  goes_to : {c o : Option K} → next_key m s c ≡ o → Goes m s r c zero c o
  goes_by : {c e o : Option K} {n : ℕ} {k : K} → next_key m s c ≡ Some k → m.verdict s k ≡ found_clean → m.tested s k ≡ s → is_same m (Some k) r ≡ false → Goes m s r (Some k) n e o → Goes m s r c (suc n) e o

module _ {S K : Type 0} (m : Machine S K) where
  abbrev at : S → Option K → Option K → Log → Stage → Place S K
  at s c r l g = record { state = s; cursor = c; remembered = r; log = l; stage = g }

  -- a clean test of which the state knows nothing
  passed_clean : (s : S) (c r : Option K) (l : Log) (g : Stage) (k : K) → next_key m s c ≡ Some k → m.verdict s k ≡ found_clean → m.tested s k ≡ s → is_same m (Some k) r ≡ false → after_test m (advanced m (at s c r l g)) ≡ at s (Some k) r (with_test l) Passed
  passed_clean s c r l g k e v t f =
      ap (λ o. after_test m (at_next (at s c r l g) o)) e
      ∙ ap (λ w. at (state_tested m s (Some k) w) (Some k) r (with_test l) (stage_tested (is_same m (Some k) r) w)) v
      ∙ ap (λ b. at (m.tested s k) (Some k) r (with_test l) (stage_tested b found_clean)) f
      ∙ ap (λ x. at x (Some k) r (with_test l) Passed) t

  to_next : (p : Place S K) (o : Option K) → next_key m p.state p.cursor ≡ o → InOrder m p.state → Passes m p (is_some o) (at_next p o)
  to_next p None h i = subst (λ x. Passes m p false (at_next p x)) h (up_to_end (ap is_some h) i)
  to_next p (Some k) h i = subst (λ x. Passes m p true (at_next p x)) h (up_to_key (ap is_some h) i)

  any_stage : (s : S) (e r : Option K) (l : Log) (g h : Stage) (o : Option K) → at_next (at s e r l g) o ≡ at_next (at s e r l h) o
  any_stage s e r l g h None = refl
  any_stage s e r l g h (Some k) = refl

  goes_on : (s : S) (r : Option K) → InOrder m s → {c e o : Option K} {n : ℕ} → Goes m s r c n e o → (l : Log) (g : Stage) → Passes m (at s c r l g) (is_some o) (at_next (at s e r (with_tests n l) g) o)
  goes_on s r i {c = c} {o = o} (goes_to h) l g = to_next (at s c r l g) o h i
  goes_on s r i {c = c} {e = e} {o = o} (goes_by {n = n} {k = k} h v t f rest) l g =
      let p = at s c r l g in
      let clean : found m (advanced m p) ≡ found_clean = ap (λ x. found m (at_next p x)) h ∙ v in
      let other : is_remembered m (advanced m p) ≡ false = ap (λ x. is_remembered m (at_next p x)) h ∙ f in
      let not_dirty : found m (advanced m p) ≢ found_dirty = λ d. let z : found_clean ≡ found_dirty = sym clean ∙ d in cc in
      let later = subst (Passes m (at s (Some k) r (with_test l) Passed) (is_some o)) (any_stage s e r (with_tests n (with_test l)) Passed g o) (goes_on s r i rest (with_test l) Passed) in
      went_past {p = p} (ap is_some h) i other not_dirty (subst (λ x. Passes m x (is_some o) (at_next (at s e r (with_tests n (with_test l)) g) o)) (sym (passed_clean s c r l g k h v t f)) later)

  came_place : (s : S) (p : Standing K) (o : Option K) → at_next (place s p) o ≡ place s (came_to o p)
  came_place s p None = refl
  came_place s p (Some k) = refl

  -- clean keys are passed, and the next one is come to
  pub goes_passes : (s : S) (p : Standing K) → InOrder m s → {e o : Option K} {n : ℕ} → Goes m s p.remembered p.cursor n e o → Passes m (place s p) (is_some o) (place s (came_to o (passed n e p)))
  goes_passes s p i {e = e} {o = o} {n = n} d = subst (Passes m (place s p) (is_some o)) (came_place s (passed n e p) o) (goes_on s p.remembered i d p.log p.stage)

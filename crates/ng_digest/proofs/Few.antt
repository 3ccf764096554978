-- After the last fire there are no more tests than live keys.
use Rattle.std.proofs.Common.{◌≡◌, ◌≢◌, ◌≤◌, ◌+◌, ◌-◌, ◌^◌, min, ℕ, suc, Bool, true, false, refl, sym, ap, ◌∙◌, subst, arith, Option, Some, None, List, [], ◌∷◌, is_some, nat_lt, ◌||◌, true≢false, cond, find, filter, length, ◌⊎◌, inl, inr, if◌then◌else◌}
use Rattle.std.specs.Cmp.{tied_itself}
use Rattle.std.specs.Ordering.{is_lt, is_eq}
use Rattle.std.specs.List.Sorted.{IsStrictlySortedBy}
use Rattle.std.proofs.lemmas.Bool.Decides.{nat_tests}
use Rattle.ng_digest.specs.declared.rounds.Found.{Found}
use Rattle.ng_digest.specs.declared.rounds.Found.TheVariants.{Nothing, Stopped, Fireable}
use Rattle.ng_digest.specs.declared.rounds.Walked.{Walked}
use Rattle.ng_digest.specs.declared.rounds.RoundEnd.TheVariants as round
use Rattle.ng_digest.specs.declared.rounds.End.TheVariants.{Settled}
use Rattle.ng_digest.specs.declared.log.Log.{Log}
use Rattle.ng_digest.specs.Log.{more32, more64, with_close}
use Rattle.ng_digest.specs.Machine.{Machine, found_dirty, above, next_key, is_same, adds_at}
use Rattle.ng_digest.specs.Laws.{HasLaws, InOrder}
use Rattle.ng_digest.specs.Place.{Place, at_next, found, after_test, after_fire, is_remembered, is_dirty, stage_closed}
use Rattle.ng_digest.specs.Short.{Drains, drained, too_many, ran_one, Skips, none_above, at_remembered, at_dirty, passed_by, Walks, walked_through, walk_stopped, walk_limited, fired_one, IsWhole, came_to_end, cut_short, Round, closed_clean, closed_dirty, Rounds, last_is_clean, one_more}
use Rattle.ng_digest.specs.Early.{IsIn}
use Rattle.ng_digest.proofs.Keys.{is_less, above_both, not_below, one_less}
use Rattle.ng_digest.proofs.Carried.{tested_is, none_passes, found_passes, found_live, least, equal}

filter_true : {K : Type 0} (ks : List K) → filter (λ _. true) ks ≡ ks
filter_true [] = refl
filter_true (x ∷ xs) = ap (λ l. x ∷ l) (filter_true xs)

module _ {S K : Type 0} (m : Machine S K) (laws : HasLaws m) where
  -- how many keys are above the cursor
  abbrev pub left : Option K → List K → ℕ
  left c ks = length (filter (above m c) ks)

  -- with a remembered key, the tests since the last fire are those of keys above it and, in the next round, of keys up
  -- to the cursor; and the cursor is not before it in the round of its fire
  abbrev pub Near : List K → Option K → Option K → ℕ → ℕ → Type 0
  Near ks c None tests fires = Unit {0}
  Near ks c (Some r) tests fires = IsIn r ks → (above m c r ≡ false → tests + left c ks ≤ left (Some r) ks) × (above m c r ≡ true → (tests + left c ks ≤ left (Some r) ks + length ks) × (fires ≡ 0))

  -- in a round without a fire so far its tests are those of keys up to the cursor
  abbrev pub Passed : List K → Option K → ℕ → ℕ → Type 0
  Passed ks c tests fires = fires ≡ 0 → tests + left c ks ≤ length ks

  near_step : (ks : List K) (c : Option K) (k r : K) (tests fires : ℕ) (b : Bool) → above m c r ≡ b → IsStrictlySortedBy m.order ks → find (above m c) ks ≡ Some k → is_eq (m.order k r) ≡ false → IsIn r ks → left c ks ≡ suc (left (Some k) ks) → above m (Some k) r ≡ false → (above m c r ≡ false → tests + left c ks ≤ left (Some r) ks) → more64 tests + left (Some k) ks ≤ left (Some r) ks
  near_step ks c k r tests fires false a o e other i one below h = let g = h a in let f : min (tests + 1) (2 ^ 64 - 1) ≤ tests + 1 = omega arith in omega arith
  near_step ks c k r tests fires true a o e other i one below h =
      elim (least m.order (above m c) k r ks o e i a) [
        | inl same ↦ absurd (true≢false (sym (ap is_eq (tied_itself laws.total k)) ∙ subst (λ x. is_eq (m.order k x) ≡ false) (sym same) other))
        | inr less ↦ absurd (true≢false (sym (ap is_lt less) ∙ below))
      ]

  near_clean : (ks : List K) (c : Option K) (k : K) (r : Option K) (tests fires : ℕ) → IsStrictlySortedBy m.order ks → find (above m c) ks ≡ Some k → is_same m (Some k) r ≡ false → Near ks c r tests fires → Near ks (Some k) r (more64 tests) fires
  near_clean ks c k None tests fires o e other h = tt
  near_clean ks c k (Some r) tests fires o e other h = λ i.
      let one = one_less m laws.total c k ks o e in
      let n = h i in (
        λ below. near_step ks c k r tests fires (above m c r) refl o e other i one below n.0,
        λ up.
            let g = n.1 (above_both m laws.total c k r (found_passes (above m c) k ks e) (is_less (m.order k r) up)) in
            let b = g.0 in
            let f : min (tests + 1) (2 ^ 64 - 1) ≤ tests + 1 = omega arith in
            (omega arith, g.1),
      )

  near_end : (ks : List K) (c r : Option K) (tests fires : ℕ) → find (above m c) ks ≡ None → Near ks c r tests fires → Near ks None r tests 0
  near_end ks c None tests fires e h = tt
  near_end ks c (Some r) tests fires e h = λ i.
      let n = (h i).0 (none_passes (above m c) r ks e i) in
      let all = ap length (filter_true ks) in
      (λ below. cc, λ up. (omega (arith, all), refl))

  near_fire : (ks : List K) (k : K) (added : Bool) (fires : ℕ) → Near ks (Some k) (cond added None (Some k)) 0 fires
  near_fire ks k true fires = tt
  near_fire ks k false fires = λ i. (λ below. omega arith, λ up. absurd (true≢false (sym up ∙ not_below m laws.total k)))

  near_stop : (ks : List K) (c : Option K) (k : K) (r : Option K) (tests fires : ℕ) → IsStrictlySortedBy m.order ks → find (above m c) ks ≡ Some k → is_same m (Some k) r ≡ true → Near ks c r tests fires → (more64 tests ≤ length ks) × (fires ≡ 0)
  near_stop ks c k None tests fires o e same h = cc
  near_stop ks c k (Some r) tests fires o e same h =
      let tie : k ≡ r = laws.exact k r (equal (m.order k r) same) in
      let one = one_less m laws.total c k ks o e in
      let n = (h (subst (λ x. IsIn x ks) tie (found_live (above m c) k ks e))).1 (subst (λ x. above m c x ≡ true) tie (found_passes (above m c) k ks e)) in
      let b = subst (λ x. tests + left c ks ≤ left (Some x) ks + length ks) (sym tie) n.0 in
      let f : min (tests + 1) (2 ^ 64 - 1) ≤ tests + 1 = omega arith in
      (omega arith, n.1)

  passed_clean : (ks : List K) (c : Option K) (k : K) (tests fires : ℕ) → IsStrictlySortedBy m.order ks → find (above m c) ks ≡ Some k → Passed ks c tests fires → Passed ks (Some k) (more64 tests) fires
  passed_clean ks c k tests fires o e h = λ z.
      let one = one_less m laws.total c k ks o e in
      let n = h z in
      let f : min (tests + 1) (2 ^ 64 - 1) ≤ tests + 1 = omega arith in
      omega arith

  -- what is counted at a place
  abbrev pub Counted : Place S K → Type 0
  Counted p = Near (m.keys p.state) p.cursor p.remembered p.log.tests_since_fire p.log.round_fires × Passed (m.keys p.state) p.cursor p.log.round_tests p.log.round_fires

  -- and between rounds: unless a task waits, which clears what is remembered
  abbrev pub Awaits : Place S K → Type 0
  Awaits p = Near (m.keys p.state) None p.remembered p.log.tests_since_fire 0 ⊎ (m.waits p.state ≡ true)

  abbrev pub AfterSkip : Found → Place S K → Type 0
  AfterSkip Nothing q = Near (m.keys q.state) None q.remembered q.log.tests_since_fire 0 × (q.log.round_fires ≡ 0 → q.log.round_tests ≤ length (m.keys q.state))
  AfterSkip Stopped q = (q.log.tests_since_fire ≤ length (m.keys q.state)) × (q.log.round_fires ≡ 0)
  AfterSkip Fireable q = (k : K) × (q.cursor ≡ Some k)

  none_few : (p : Place S K) (o : Option K) → next_key m p.state p.cursor ≡ o → is_some o ≡ false → Counted p → AfterSkip Nothing (at_next p o)
  none_few p None e s c = (near_end (m.keys p.state) p.cursor p.remembered p.log.tests_since_fire p.log.round_fires e c.0, λ z. let n = c.1 z in omega arith)
  none_few p (Some k) e s c = cc

  stop_few : (p : Place S K) (o : Option K) → next_key m p.state p.cursor ≡ o → is_some o ≡ true → InOrder m p.state → is_remembered m (at_next p o) ≡ true → found m (at_next p o) ≢ found_dirty → Counted p → AfterSkip Stopped (after_test m (at_next p o))
  stop_few p None e s o same n c = cc
  stop_few p (Some k) e s o same n c =
      let is = tested_is m p.state k (m.verdict p.state k) n in
      let few = near_stop (m.keys p.state) p.cursor k p.remembered p.log.tests_since_fire p.log.round_fires o e same c.0 in
      let keys = ap m.keys is ∙ laws.same_keys p.state k n in
      (subst (λ l. more64 p.log.tests_since_fire ≤ length l) (sym keys) few.0, few.1)

  clean_few : (p : Place S K) (o : Option K) → next_key m p.state p.cursor ≡ o → is_some o ≡ true → InOrder m p.state → is_remembered m (at_next p o) ≡ false → found m (at_next p o) ≢ found_dirty → Counted p → Counted (after_test m (at_next p o))
  clean_few p None e s o other n c = cc
  clean_few p (Some k) e s o other n c =
      let is = tested_is m p.state k (m.verdict p.state k) n in
      let keys = ap m.keys is ∙ laws.same_keys p.state k n in
      subst (λ l. Near l (Some k) p.remembered (more64 p.log.tests_since_fire) p.log.round_fires × Passed l (Some k) (more64 p.log.round_tests) p.log.round_fires) (sym keys)
      (near_clean (m.keys p.state) p.cursor k p.remembered p.log.tests_since_fire p.log.round_fires o e other c.0, passed_clean (m.keys p.state) p.cursor k p.log.round_tests p.log.round_fires o e c.1)

  dirty_few : (p : Place S K) (o : Option K) → is_some o ≡ true → AfterSkip Fireable (after_test m (at_next p o))
  dirty_few p None s = cc
  dirty_few p (Some k) s = (k, refl)

  skips_few : {p q : Place S K} {f : Found} → Skips m p f q → Counted p → AfterSkip f q
  skips_few {p = p} (none_above e o) c = none_few p (next_key m p.state p.cursor) refl e c
  skips_few {p = p} (at_remembered e o s n) c = stop_few p (next_key m p.state p.cursor) refl e o s n c
  skips_few {p = p} (at_dirty e o d) c = dirty_few p (next_key m p.state p.cursor) e
  skips_few {p = p} (passed_by e o s n rest) c = skips_few rest (clean_few p (next_key m p.state p.cursor) refl e o s n c)

  fired_few : (q : Place S K) (k : K) → q.cursor ≡ Some k → Counted (after_fire m q)
  fired_few q k e =
      let ks = m.keys (after_fire m q).state in (
        subst (λ c. Near ks c (cond (adds_at m q.state q.cursor) None c) 0 (more32 q.log.round_fires)) (sym e) (near_fire ks k (adds_at m q.state q.cursor) (more32 q.log.round_fires)),
        λ z. let h : min (q.log.round_fires + 1) (2 ^ 32 - 1) ≡ 0 = z in absurd (omega arith),
      )

  -- the tests after the last fire, of a walk that was whole
  abbrev pub told : Bool → Log → ℕ
  told cut l = if cut then l.tests_since_fire else l.round_tests

  abbrev pub AfterWalk : Bool → Place S K → Type 0
  AfterWalk cut q = (q.log.round_fires ≡ 0 → told cut q.log ≤ length (m.keys q.state)) × (is_dirty m q ≡ true → Awaits q)

  waits_then : (n : ℕ) (w : Bool) → (nat_lt 0 n || w) ≡ true → n ≡ 0 → w ≡ true
  waits_then n w e z = grind (arith, nat_tests)

  walks_few : {p q : Place S K} {e : Walked} {cut : Bool} → Walks m p e q → IsWhole e cut → Counted p → AfterWalk cut q
  walks_few (walked_through d) came_to_end c = let s = skips_few d c in (s.1, λ _. inl s.0)
  walks_few {q = q} (walk_stopped d) cut_short c = let s = skips_few d c in (λ _. s.0, λ w. inr (waits_then q.log.round_fires (m.waits q.state) w s.1))
  walks_few (walk_limited d h) i c = elim i [ ]
  walks_few (fired_one {q = q} d h w) i c = let s = skips_few d c in walks_few w i (fired_few q s.0 s.1)

  -- a round begins
  abbrev pub Starts : Place S K → Type 0
  Starts p = (p.cursor ≡ None) × (p.log.round_fires ≡ 0) × (p.log.round_tests ≡ 0)

  start_few : (p : Place S K) → Starts p → Near (m.keys p.state) None p.remembered p.log.tests_since_fire 0 → Counted p
  start_few p s n =
      let ks = m.keys p.state in
      let all = ap length (filter_true ks) in
      let some = ap (λ c. left c ks) s.0 in (
        subst (λ c. Near ks c p.remembered p.log.tests_since_fire p.log.round_fires) (sym s.0) (subst (λ f. Near ks None p.remembered p.log.tests_since_fire f) (sym s.1) n),
        λ z. let t = s.2 in omega (arith, all, some),
      )

  drains_few : {p q : Place S K} {over : Bool} → Drains m p over q → over ≡ false → Starts p → Awaits p → Counted q
  drains_few {p = p} (drained e) o s (inl n) = start_few p s n
  drains_few (drained e) o s (inr w) = absurd (true≢false (sym w ∙ e))
  drains_few (too_many e h) o s a = cc
  drains_few (ran_one e h d) o s a = drains_few d o s (inl tt)

  round_few : {p q : Place S K} → Round m p round.Busy q → Awaits p → Awaits q
  round_few (closed_dirty {r = r} d w i h) a =
      let t = (walks_few w i (drains_few d refl (refl, refl, refl) a)).1 h in
      subst (λ b. Awaits (record r { log = with_close b r.log; stage = stage_closed b })) (sym h) t

  not_fired : (n : ℕ) (w : Bool) → (nat_lt 0 n || w) ≡ false → n ≡ 0
  not_fired n w e = grind (arith, nat_tests)

  quiet_few : {p q : Place S K} {cut : Bool} → Round m p (round.Quiet cut) q → Awaits p → told cut q.log ≤ length (m.keys q.state)
  quiet_few {cut = cut} (closed_clean {r = r} d w i h) a =
      let t = (walks_few w i (drains_few d refl (refl, refl, refl) a)).0 (not_fired r.log.round_fires (m.waits r.state) h) in
      subst (λ b. told cut (with_close b r.log) ≤ length (m.keys r.state)) (sym h) t

  pub rounds_few : {p q : Place S K} {cut : Bool} → Rounds m p (Settled cut) q → Awaits p → told cut q.log ≤ length (m.keys q.state)
  rounds_few (last_is_clean d) a = quiet_few d a
  rounds_few (one_more d h rest) a = rounds_few rest (round_few d a)

  pub at_start_few : (p : Place S K) → p.remembered ≡ None → Awaits p
  at_start_few p f = inl (subst (λ r. Near (m.keys p.state) None r p.log.tests_since_fire 0) (sym f) tt)

-- A digest comes to an end, the one that stops early and so the plain one: a walk has one key less ahead after each test, and
-- fires, tasks and dirty rounds are limited.
use Rattle.std.proofs.Common.{◌≡◌, ◌≢◌, ◌<◌, ◌≤◌, ◌+◌, ℕ, zero, suc, Bool, true, false, refl, sym, ap, subst, ◌∙◌, arith, Option, Some, None, filter, length}
use Rattle.std.specs.Prelude.{Result, Ok, Err, is_some}
use Rattle.std.specs.Cmp.{IsTotalOrder}
use Rattle.ng_base.specs.declared.fault.Fault.{Fault}
use Rattle.ng_digest.specs.declared.log.Log.{Log}
use Rattle.ng_digest.specs.declared.log.Report.{Report}
use Rattle.ng_digest.specs.declared.rounds.Found.{Found}
use Rattle.ng_digest.specs.declared.rounds.Found.TheVariants.{Nothing, Stopped, Fireable}
use Rattle.ng_digest.specs.declared.rounds.Walked.{Walked}
use Rattle.ng_digest.specs.declared.rounds.Walked.TheVariants as walk
use Rattle.ng_digest.specs.declared.rounds.RoundEnd.TheVariants as round
use Rattle.ng_digest.specs.declared.rounds.End.TheVariants.{Settled, Infdig, FireLimit, AsyncLimit}
use Rattle.ng_digest.specs.declared.rounds.DigestFault.{DigestFault}
use Rattle.ng_digest.specs.declared.rounds.DigestFault.TheVariants as fault
use Rattle.ng_digest.specs.declared.world.Stage.TheVariants.{AtKey}
use Rattle.ng_digest.specs.Laws.{InOrder}
use Rattle.ng_digest.specs.Log.{more32, with_close, report_of}
use Rattle.ng_digest.specs.Machine.{Machine, Verdict, found_clean, found_dirty, found_faulted, above, next_key, ahead, fired_at}
use Rattle.ng_digest.specs.Place.{Place, at_next, advanced, found, state_tested, after_task, after_test, after_fire, begun, is_remembered, is_dirty, closed, posted, given_up}
use Rattle.ng_digest.specs.Short.{has_more, waiting, Drains, drained, too_many, ran_one, Skips, none_above, at_remembered, at_dirty, passed_by, Walks, walked_through, walk_stopped, walk_limited, fired_one, IsWhole, came_to_end, cut_short, Round, many_tasks, many_fires, closed_clean, closed_dirty, Rounds, last_is_clean, over_fires, over_tasks, eleventh_is_dirty, one_more, Digests, gives_report, gives_faulted, gives_infdig, gives_fire_limit, gives_async_limit}
use Rattle.ng_digest.proofs.Keys.{falls}

-- what is counted once more, and stays below a limit
one_fire_less : (a c b : ℕ) → c ≡ a → a + suc b ≡ 1000000 → more32 c + b ≡ 1000000
one_fire_less a c b h e = omega (arith, h, e)

one_task_less : (a b : ℕ) → a + suc b ≡ 10000 → more32 a + b ≡ 10000
one_task_less a b e = omega (arith, e)

one_round_less : (a b n : ℕ) → a ≡ b → b + suc n ≡ 10 → more32 a + n ≡ 10
one_round_less a b n e h = omega (arith, e, h)

eleven : (a b : ℕ) → a ≡ b → b + 0 ≡ 10 → 11 ≤ more32 a
eleven a b e h = omega (arith, e, h)

below_eleven : (a n : ℕ) → a + n ≡ 10 → a < 11
below_eleven a n e = omega (arith, e)

-- an answer that isn't want of memory
abbrev pub IsSure : Result Report DigestFault → Type 0
IsSure (Ok r) = Unit {0}
IsSure (Err fault.Infdig) = Unit {0}
IsSure (Err fault.FireLimit) = Unit {0}
IsSure (Err fault.AsyncLimit) = Unit {0}
IsSure (Err (fault.Faulted first count)) = Unit {0}
IsSure (Err (fault.Memory e)) = ⊥

-- the digest that stops early comes to an end, in a good state
abbrev pub ShortEnds : {S K : Type 0} → Machine S K → (S → Type 0) → Place S K → Type 0
ShortEnds {S} {K} m Good p = (answer : Result Report DigestFault) × (end : Place S K) × Digests m p answer end × IsSure answer × Good end.state

module _ {S K : Type 0} (m : Machine S K) (total : IsTotalOrder m.order) (Good : S → Type 0) (sorted : (s : S) → Good s → InOrder m s) (same_keys : (s : S) (k : K) → m.keys (m.tested s k) ≡ m.keys s)
    (good_tested : (s : S) (k : K) → Good s → Good (m.tested s k)) (good_fired : (s : S) (k : K) → Good s → Good (m.fired s k)) (good_ran : (s : S) → Good s → Good (m.ran s)) (good_settled : (s : S) → Good s → Good (m.settled s)) (good_failed : (s : S) → Good s → Good (m.failed s)) where
  -- as many fires and tasks are left
  abbrev Ready : ℕ → ℕ → Place S K → Type 0
  Ready b t p = (p.log.fires + b ≡ 1000000) × (p.log.tasks + t ≡ 10000) × Good p.state

  -- ---- from one key to the next

  -- a place after tests
  pub record Tested (p q : Place S K) : Type 0 where
    pub rounds : q.log.dirty_rounds ≡ p.log.dirty_rounds
    pub fires : q.log.fires ≡ p.log.fires
    pub tasks : q.log.tasks ≡ p.log.tasks
    pub good : Good q.state

  abbrev SkipEnds : Place S K → Type 0
  SkipEnds p = (f : Found) × (q : Place S K) × Skips m p f q × Tested p q

  abbrev Skipping : ℕ → Type 0
  Skipping n = (p : Place S K) → Good p.state → ahead m p.state p.cursor ≡ n → SkipEnds p

  -- the place at a key
  abbrev at_key : Place S K → K → Place S K
  at_key p k = record p { cursor = Some k; stage = AtKey }

  one_less : (n : ℕ) (s : S) (c : Option K) (k : K) → InOrder m s → next_key m s c ≡ Some k → ahead m s c ≡ suc n → ahead m s (Some k) ≡ n
  one_less n s c k o h e = let f = falls m total s c k o h in omega (arith, f, e)

  not_none : (s : S) (c : Option K) (k : K) → InOrder m s → next_key m s c ≡ Some k → ahead m s c ≡ 0 → ⊥
  not_none s c k o h e = let f = falls m total s c k o h in omega (arith, f, e)

  good_after : (s : S) (k : K) (v : Verdict) → Good s → Good (state_tested m s (Some k) v)
  good_after s k found_dirty g = g
  good_after s k found_clean g = good_tested s k g
  good_after s k found_faulted g = good_tested s k g

  keys_after : (s : S) (k : K) (v : Verdict) → m.keys (state_tested m s (Some k) v) ≡ m.keys s
  keys_after s k found_dirty = refl
  keys_after s k found_clean = same_keys s k
  keys_after s k found_faulted = same_keys s k

  tested_here : (p : Place S K) (k : K) → Good p.state → Tested p (after_test m (at_key p k))
  tested_here p k g = record { rounds = refl; fires = refl; tasks = refl; good = good_after p.state k (m.verdict p.state k) g }

  more_here : (p : Place S K) (k : K) → next_key m p.state p.cursor ≡ Some k → has_more m p ≡ true
  more_here p k h = ap is_some h

  arrived : (p : Place S K) (k : K) → next_key m p.state p.cursor ≡ Some k → at_key p k ≡ advanced m p
  arrived p k h = sym (ap (at_next p) h)

  dirty_here : (p : Place S K) (k : K) → next_key m p.state p.cursor ≡ Some k → InOrder m p.state → m.verdict p.state k ≡ found_dirty → Skips m p Fireable (after_test m (at_key p k))
  dirty_here p k h o v =
      subst (λ a. Skips m p Fireable (after_test m a)) (sym (arrived p k h))
      (at_dirty (more_here p k h) o (subst (λ a. found m a ≡ found_dirty) (arrived p k h) v))

  stopped_here : (p : Place S K) (k : K) → next_key m p.state p.cursor ≡ Some k → InOrder m p.state → m.verdict p.state k ≢ found_dirty → is_remembered m (at_key p k) ≡ true → Skips m p Stopped (after_test m (at_key p k))
  stopped_here p k h o n r =
      subst (λ a. Skips m p Stopped (after_test m a)) (sym (arrived p k h))
      (at_remembered (more_here p k h) o (subst (λ a. is_remembered m a ≡ true) (arrived p k h) r) (subst (λ a. found m a ≢ found_dirty) (arrived p k h) n))

  passed_here : (p : Place S K) (k : K) (f : Found) (q : Place S K) → next_key m p.state p.cursor ≡ Some k → InOrder m p.state → m.verdict p.state k ≢ found_dirty → is_remembered m (at_key p k) ≡ false → Skips m (after_test m (at_key p k)) f q → Skips m p f q
  passed_here p k f q h o n r rest =
      passed_by (more_here p k h) o (subst (λ a. is_remembered m a ≡ false) (arrived p k h) r) (subst (λ a. found m a ≢ found_dirty) (arrived p k h) n)
      (subst (λ a. Skips m (after_test m a) f q) (arrived p k h) rest)

  none_here : (p : Place S K) → Good p.state → next_key m p.state p.cursor ≡ None → SkipEnds p
  none_here p g h = (Nothing, advanced m p, none_above (ap is_some h) (sorted p.state g), subst (λ o. Tested p (at_next p o)) (sym h) (record { rounds = refl; fires = refl; tasks = refl; good = g }))

  on_from : (p q r : Place S K) → Tested p q → Tested q r → Tested p r
  on_from p q r h i = record { rounds = i.rounds ∙ h.rounds; fires = i.fires ∙ h.fires; tasks = i.tasks ∙ h.tasks; good = i.good }

  pass_on : (p : Place S K) (k : K) → Good p.state → next_key m p.state p.cursor ≡ Some k → m.verdict p.state k ≢ found_dirty → is_remembered m (at_key p k) ≡ false → SkipEnds (after_test m (at_key p k)) → SkipEnds p
  pass_on p k g h n r (f, q, s, t) = (f, q, passed_here p k f q h (sorted p.state g) n r s, on_from p (after_test m (at_key p k)) q (tested_here p k g) t)

  from_memory : (n : ℕ) → Skipping n → (p : Place S K) (k : K) → Good p.state → next_key m p.state p.cursor ≡ Some k → ahead m p.state (Some k) ≡ n → m.verdict p.state k ≢ found_dirty → (b : Bool) → is_remembered m (at_key p k) ≡ b → SkipEnds p
  from_memory n rest p k g h e v true r = (Stopped, after_test m (at_key p k), stopped_here p k h (sorted p.state g) v r, tested_here p k g)
  from_memory n rest p k g h e v false r =
      let u = state_tested m p.state (Some k) (m.verdict p.state k) in
      let same : ahead m u (Some k) ≡ ahead m p.state (Some k) = ap (λ ks. length (filter (above m (Some k)) ks)) (keys_after p.state k (m.verdict p.state k)) in
      pass_on p k g h v r (rest (after_test m (at_key p k)) (good_after p.state k (m.verdict p.state k) g) (same ∙ e))

  from_verdict : (n : ℕ) → Skipping n → (p : Place S K) (k : K) → Good p.state → next_key m p.state p.cursor ≡ Some k → ahead m p.state (Some k) ≡ n → (v : Verdict) → m.verdict p.state k ≡ v → SkipEnds p
  from_verdict n rest p k g h e found_dirty v = (Fireable, after_test m (at_key p k), dirty_here p k h (sorted p.state g) v, tested_here p k g)
  from_verdict n rest p k g h e found_clean v = from_memory n rest p k g h e (λ d. let x : found_clean ≡ found_dirty = sym v ∙ d in cc) (is_remembered m (at_key p k)) refl
  from_verdict n rest p k g h e found_faulted v = from_memory n rest p k g h e (λ d. let x : found_faulted ≡ found_dirty = sym v ∙ d in cc) (is_remembered m (at_key p k)) refl

  last_skip : (p : Place S K) → Good p.state → ahead m p.state p.cursor ≡ 0 → (o : Option K) → next_key m p.state p.cursor ≡ o → SkipEnds p
  last_skip p g e None h = none_here p g h
  last_skip p g e (Some k) h = absurd (not_none p.state p.cursor k (sorted p.state g) h e)

  from_next : (n : ℕ) → Skipping n → (p : Place S K) → Good p.state → ahead m p.state p.cursor ≡ suc n → (o : Option K) → next_key m p.state p.cursor ≡ o → SkipEnds p
  from_next n rest p g e None h = none_here p g h
  from_next n rest p g e (Some k) h = from_verdict n rest p k g h (one_less n p.state p.cursor k (sorted p.state g) h e) (m.verdict p.state k) refl

  skip_all : (n : ℕ) → Skipping n
  skip_all zero p g e = last_skip p g e (next_key m p.state p.cursor) refl
  skip_all (suc n) p g e = from_next n (skip_all n) p g e (next_key m p.state p.cursor) refl

  -- ---- a walk

  abbrev WalkEnds : Place S K → Type 0
  WalkEnds p = (e : Walked) × (q : Place S K) × Walks m p e q × (q.log.dirty_rounds ≡ p.log.dirty_rounds) × (b : ℕ) × (t : ℕ) × Ready b t q

  ready_on : (b t : ℕ) (p q : Place S K) → Ready b t p → Tested p q → Ready b t q
  ready_on b t p q r h = (ap (λ n. n + b) h.fires ∙ r.0, ap (λ n. n + t) h.tasks ∙ r.1, h.good)

  good_fire : (s : S) (c : Option K) → Good s → Good (fired_at m s c)
  good_fire s None g = g
  good_fire s (Some k) g = good_fired s k g

  fire_on : (p q : Place S K) → Skips m p Fireable q → Tested p q → q.log.fires < 1000000 → WalkEnds (after_fire m q) → WalkEnds p
  fire_on p q s h l (e, r, w, d, b, t, ready) = (e, r, fired_one s l w, d ∙ h.rounds, b, t, ready)

  no_fire : (t : ℕ) (p : Place S K) → Ready 0 t p → SkipEnds p → WalkEnds p
  no_fire t p r (Nothing, q, s, h) = (walk.ToEnd, q, walked_through s, h.rounds, 0, t, ready_on 0 t p q r h)
  no_fire t p r (Stopped, q, s, h) = (walk.Stopped, q, walk_stopped s, h.rounds, 0, t, ready_on 0 t p q r h)
  no_fire t p r (Fireable, q, s, h) = let i = (ready_on 0 t p q r h).0 in (walk.Limit, q, walk_limited s (omega (arith, i)), h.rounds, 0, t, ready_on 0 t p q r h)

  one_fire : (b t : ℕ) → ((p : Place S K) → Ready b t p → WalkEnds p) → (p : Place S K) → Ready (suc b) t p → SkipEnds p → WalkEnds p
  one_fire b t rest p r (Nothing, q, s, h) = (walk.ToEnd, q, walked_through s, h.rounds, suc b, t, ready_on (suc b) t p q r h)
  one_fire b t rest p r (Stopped, q, s, h) = (walk.Stopped, q, walk_stopped s, h.rounds, suc b, t, ready_on (suc b) t p q r h)
  one_fire b t rest p r (Fireable, q, s, h) =
      let i = ready_on (suc b) t p q r h in
      let few = i.0 in
      fire_on p q s h (omega (arith, few)) (rest (after_fire m q) (one_fire_less q.log.fires q.log.fires b refl few, i.1, good_fire q.state q.cursor h.good))

  walk_all : (b t : ℕ) (p : Place S K) → Ready b t p → WalkEnds p
  walk_all zero t p r = no_fire t p r (skip_all (ahead m p.state p.cursor) p r.2 refl)
  walk_all (suc b) t p r = one_fire b t (λ q. walk_all b t q) p r (skip_all (ahead m p.state p.cursor) p r.2 refl)

  -- ---- tasks

  abbrev DrainEnds : Place S K → Type 0
  DrainEnds p = (over : Bool) × (q : Place S K) × Drains m p over q × (q.log.dirty_rounds ≡ p.log.dirty_rounds) × (b : ℕ) × (t : ℕ) × Ready b t q

  run_on : (p : Place S K) → waiting m p ≡ true → p.log.tasks < 10000 → DrainEnds (after_task true m p) → DrainEnds p
  run_on p w l (over, q, d, e, b, t, r) = (over, q, ran_one w l d, e, b, t, r)

  none_waits : (b t : ℕ) (p : Place S K) → Ready b t p → waiting m p ≡ false → DrainEnds p
  none_waits b t p r w = (false, p, drained w, refl, b, t, r)

  last_task : (b : ℕ) (p : Place S K) → Ready b 0 p → (x : Bool) → waiting m p ≡ x → DrainEnds p
  last_task b p r true w = let i = r.1 in (true, p, too_many w (omega (arith, i)), refl, b, 0, r)
  last_task b p r false w = none_waits b 0 p r w

  one_task : (b t : ℕ) → ((p : Place S K) → Ready b t p → DrainEnds p) → (p : Place S K) → Ready b (suc t) p → (x : Bool) → waiting m p ≡ x → DrainEnds p
  one_task b t rest p r true w = let i = r.1 in run_on p w (omega (arith, i)) (rest (after_task true m p) (r.0, one_task_less p.log.tasks t i, good_ran p.state r.2))
  one_task b t rest p r false w = none_waits b (suc t) p r w

  drain_all : (b t : ℕ) (p : Place S K) → Ready b t p → DrainEnds p
  drain_all b zero p r = last_task b p r (waiting m p) refl
  drain_all b (suc t) p r = one_task b t (λ q. drain_all b t q) p r (waiting m p) refl

  -- ---- rounds

  data RoundsEnd (p : Place S K) : Type 0 where
    well : {q : Place S K} {cut : Bool} → Rounds m p (Settled cut) q → Good q.state → RoundsEnd p
    many_rounds : {q : Place S K} → Rounds m p Infdig q → Good q.state → RoundsEnd p
    all_fires : {q : Place S K} → Rounds m p FireLimit q → Good q.state → RoundsEnd p
    all_tasks : {q : Place S K} → Rounds m p AsyncLimit q → Good q.state → RoundsEnd p

  more_rounds : (p q : Place S K) → Round m p round.Busy q → q.log.dirty_rounds < 11 → RoundsEnd q → RoundsEnd p
  more_rounds p q r l (well h g) = well (one_more r l h) g
  more_rounds p q r l (many_rounds h g) = many_rounds (one_more r l h) g
  more_rounds p q r l (all_fires h g) = all_fires (one_more r l h) g
  more_rounds p q r l (all_tasks h g) = all_tasks (one_more r l h) g

  abbrev Rounding : ℕ → Type 0
  Rounding n = (b t : ℕ) (p : Place S K) → Ready b t p → p.log.dirty_rounds + n ≡ 10 → RoundsEnd p

  closed_fires : (x : Bool) (l : Log) → (with_close x l).fires ≡ l.fires
  closed_fires true l = refl
  closed_fires false l = refl

  closed_tasks : (x : Bool) (l : Log) → (with_close x l).tasks ≡ l.tasks
  closed_tasks true l = refl
  closed_tasks false l = refl

  ready_closed : (b t : ℕ) (r : Place S K) → Ready b t r → Ready b t (closed m r)
  ready_closed b t r h = (ap (λ n. n + b) (closed_fires (is_dirty m r) r.log) ∙ h.0, ap (λ n. n + t) (closed_tasks (is_dirty m r) r.log) ∙ h.1, h.2)

  counted_round : (r : Place S K) → is_dirty m r ≡ true → (closed m r).log.dirty_rounds ≡ more32 r.log.dirty_rounds
  counted_round r x = ap (λ y. (with_close y r.log).dirty_rounds) x

  -- what comes after a round that came to its end
  abbrev Closing : ℕ → Type 0
  Closing n = (b t : ℕ) (p q r : Place S K) (e : Walked) (cut : Bool) → Ready b t r → Drains m (begun p) false q → Walks m q e r → IsWhole e cut → r.log.dirty_rounds ≡ p.log.dirty_rounds → p.log.dirty_rounds + n ≡ 10 → (x : Bool) → is_dirty m r ≡ x
      → RoundsEnd p

  last_close : Closing 0
  last_close b t p q r e cut good d w i f g false x = well (last_is_clean (closed_clean d w i x)) good.2
  last_close b t p q r e cut good d w i f g true x =
      many_rounds (eleventh_is_dirty (closed_dirty d w i x) (subst (λ n. 11 ≤ n) (sym (counted_round r x)) (eleven r.log.dirty_rounds p.log.dirty_rounds f g))) good.2

  close : (n : ℕ) → Rounding n → Closing (suc n)
  close n rest b t p q r e cut good d w i f g false x = well (last_is_clean (closed_clean d w i x)) good.2
  close n rest b t p q r e cut good d w i f g true x =
      let few : (closed m r).log.dirty_rounds + n ≡ 10 = ap (λ k. k + n) (counted_round r x) ∙ one_round_less r.log.dirty_rounds p.log.dirty_rounds n f g in
      more_rounds p (closed m r) (closed_dirty d w i x) (below_eleven (closed m r).log.dirty_rounds n few) (rest b t (closed m r) (ready_closed b t r good) few)

  after_walk : (n : ℕ) → Closing n → (p q : Place S K) → Drains m (begun p) false q → q.log.dirty_rounds ≡ p.log.dirty_rounds → p.log.dirty_rounds + n ≡ 10 → WalkEnds q → RoundsEnd p
  after_walk n closing p q d e f (walk.Limit, r, w, g, b, t, good) = all_fires (over_fires (many_fires d w)) good.2
  after_walk n closing p q d e f (walk.ToEnd, r, w, g, b, t, good) = closing b t p q r walk.ToEnd false good d w came_to_end (g ∙ e) f (is_dirty m r) refl
  after_walk n closing p q d e f (walk.Stopped, r, w, g, b, t, good) = closing b t p q r walk.Stopped true good d w cut_short (g ∙ e) f (is_dirty m r) refl

  after_drain : (n : ℕ) → Closing n → (p : Place S K) → p.log.dirty_rounds + n ≡ 10 → DrainEnds (begun p) → RoundsEnd p
  after_drain n closing p f (true, q, d, e, b, t, good) = all_tasks (over_tasks (many_tasks d)) good.2
  after_drain n closing p f (false, q, d, e, b, t, good) = after_walk n closing p q d e f (walk_all b t q good)

  rounds_end : (n : ℕ) → Rounding n
  rounds_end zero b t p r f = after_drain zero last_close p f (drain_all b t (begun p) r)
  rounds_end (suc n) b t p r f = after_drain (suc n) (close n (rounds_end n)) p f (drain_all b t (begun p) r)

  -- ---- the digest

  handed_or : (p q : Place S K) (cut : Bool) → Rounds m p (Settled cut) q → Good q.state → (o : Option (Fault × ℕ)) → m.handed (m.settled q.state) ≡ o → ShortEnds m Good p
  handed_or p q cut r g None h = (Ok (report_of q.log cut), posted m q, gives_report r h, tt, good_settled q.state g)
  handed_or p q cut r g (Some f) h = (Err (fault.Faulted f.0 f.1), posted m q, gives_faulted r h, tt, good_settled q.state g)

  after_rounds : (p : Place S K) → RoundsEnd p → ShortEnds m Good p
  after_rounds p (well {q = q} {cut = cut} r g) = handed_or p q cut r g (m.handed (m.settled q.state)) refl
  after_rounds p (many_rounds {q = q} r g) = (Err fault.Infdig, given_up m q, gives_infdig r, tt, good_failed q.state g)
  after_rounds p (all_fires {q = q} r g) = (Err fault.FireLimit, given_up m q, gives_fire_limit r, tt, good_failed q.state g)
  after_rounds p (all_tasks {q = q} r g) = (Err fault.AsyncLimit, given_up m q, gives_async_limit r, tt, good_failed q.state g)

  pub short_ends : (p : Place S K) → Ready 1000000 10000 p → p.log.dirty_rounds ≡ 0 → ShortEnds m Good p
  short_ends p r e = after_rounds p (rounds_end 10 1000000 10000 p r (omega (arith, e)))

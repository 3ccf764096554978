-- The short digest ends where the plain one does.
use Rattle.std.proofs.Common.{◌≡◌, ◌≢◌, ◌<◌, ◌≤◌, Bool, true, false, refl, sym, ap, subst, Option, Some, None, Result, is_some}
use Rattle.std.specs.List.Sorted.{IsStrictlySortedBy}
use Rattle.ng_digest.specs.declared.log.Report.{Report}
use Rattle.ng_digest.specs.declared.rounds.Found.{Found}
use Rattle.ng_digest.specs.declared.rounds.Found.TheVariants.{Nothing, Stopped, Fireable}
use Rattle.ng_digest.specs.declared.rounds.Walked.{Walked}
use Rattle.ng_digest.specs.declared.rounds.Walked.TheVariants as walk
use Rattle.ng_digest.specs.declared.rounds.RoundEnd.{RoundEnd}
use Rattle.ng_digest.specs.declared.rounds.RoundEnd.TheVariants as round
use Rattle.ng_digest.specs.declared.rounds.End.{End}
use Rattle.ng_digest.specs.declared.rounds.End.TheVariants.{Settled, Infdig, FireLimit, AsyncLimit}
use Rattle.ng_digest.specs.declared.rounds.DigestFault.{DigestFault}
use Rattle.ng_digest.specs.Log.{zero_log, with_close}
use Rattle.ng_digest.specs.Machine.{Machine, found_dirty, next_key}
use Rattle.ng_digest.specs.Laws.{HasLaws, InOrder}
use Rattle.ng_digest.specs.Place.{Place, at_next, advanced, found, state_tested, after_test, after_fire, is_remembered, stage_closed}
use Rattle.ng_digest.specs.Causes.{Unless}
use Rattle.ng_digest.specs.Short.{Drains, drained, too_many, ran_one, Skips, none_above, at_remembered, at_dirty, passed_by, Walks, walked_through, walk_stopped, walk_limited, fired_one, IsWhole, came_to_end, cut_short, Round, many_tasks, many_fires, closed_clean, closed_dirty, Rounds, last_is_clean, over_fires, over_tasks, eleventh_is_dirty, one_more, Digests, gives_report, gives_faulted, gives_infdig, gives_fire_limit, gives_async_limit, gives_memory}
use Rattle.ng_digest.specs.Plain.{Plain, at_first, with_state, PlainDrains, plain_drained, plain_too_many, plain_ran, PlainWalks, plain_end, plain_clean, plain_limit, plain_dirty, PlainRound, plain_many_tasks, plain_many_fires, plain_quiet, plain_busy, PlainRounds, plain_last, plain_over_fires, plain_over_tasks, plain_eleventh, plain_more, PlainDigests, plain_ok, plain_faulted, plain_infdig, plain_fire_limit, plain_async_limit}
use Rattle.ng_digest.specs.Early.{IsCarried, plain_of, plain_answer}
use Rattle.ng_digest.proofs.Carried.{tested_is, carried_clean, carried_end, carried_fire, carried_stop, carried_on, quiet_walk}

-- an end of the plain digest, which never stops early
abbrev pub uncut_round : RoundEnd → RoundEnd
uncut_round (round.Quiet cut) = round.Quiet false
uncut_round round.Busy = round.Busy
uncut_round round.FireLimit = round.FireLimit
uncut_round round.AsyncLimit = round.AsyncLimit

abbrev pub uncut : End → End
uncut (Settled cut) = Settled false
uncut Infdig = Infdig
uncut FireLimit = FireLimit
uncut AsyncLimit = AsyncLimit

abbrev pub is_limit : Walked → Bool
is_limit walk.ToEnd = false
is_limit walk.Stopped = false
is_limit walk.Limit = true

module _ {S K : Type 0} (m : Machine S K) (laws : HasLaws m) where
  -- a place at which the early stop is carried
  abbrev pub Carries : Place S K → Type 0
  Carries p = IsCarried m p.state p.remembered p.cursor

  abbrev pub CarriesOn : Place S K → Type 0
  CarriesOn p = IsCarried m p.state p.remembered None

  pub drains_plain : {p q : Place S K} {over : Bool} → Drains m p over q → Carries p → PlainDrains m (plain_of p) over (plain_of q) × (q.cursor ≡ p.cursor) × Carries q
  drains_plain (drained e) c = (plain_drained e, refl, c)
  drains_plain (too_many e h) c = (plain_too_many e h, refl, c)
  drains_plain (ran_one e h d) c = let r = drains_plain d tt in (plain_ran e h r.0, r.1, r.2)

  -- what a search for a dirty key was in the plain walk
  abbrev pub Skipped : Place S K → Found → Place S K → Type 0
  Skipped p Nothing q = PlainWalks m (plain_of p) p.cursor false (plain_of q) × CarriesOn q
  Skipped p Stopped q = PlainWalks m (plain_of p) p.cursor false (plain_of q) × CarriesOn q
  Skipped p Fireable q = (1000000 ≤ q.log.fires → PlainWalks m (plain_of p) p.cursor true (plain_of q)) × ((over : Bool) (r : Plain S) → q.log.fires < 1000000 → PlainWalks m (plain_of (after_fire m q)) q.cursor over r → PlainWalks m (plain_of p) p.cursor over r) × Carries (after_fire m q)

  none_then : (p : Place S K) (o : Option K) → next_key m p.state p.cursor ≡ o → is_some o ≡ false → Carries p → Skipped p Nothing (at_next p o)
  none_then p None e s c = (plain_end e, carried_end m laws p.state p.remembered p.cursor e c)
  none_then p (Some k) e s c = cc

  stop_then : (p : Place S K) (o : Option K) → next_key m p.state p.cursor ≡ o → is_some o ≡ true → InOrder m p.state → is_remembered m (at_next p o) ≡ true → found m (at_next p o) ≢ found_dirty → Carries p → Skipped p Stopped (after_test m (at_next p o))
  stop_then p None e s o same n c = cc
  stop_then p (Some k) e s o same n c =
      let is = tested_is m p.state k (m.verdict p.state k) n in
      let known = carried_stop m laws p.state p.remembered p.cursor k e n same c in
      let sorted = subst (IsStrictlySortedBy m.order) (sym (laws.same_keys p.state k n)) o in
      let walked = plain_clean {p = plain_of p} e n (quiet_walk m laws (with_state (plain_of p) (m.tested p.state k)) (Some k) sorted known) in (
        subst (λ x. PlainWalks m (plain_of p) p.cursor false (with_state (plain_of p) x)) (sym is) walked,
        subst (λ x. IsCarried m x p.remembered None) (sym is) (carried_on m laws p.state p.remembered p.cursor k e n same c),
      )

  dirty_then : (p : Place S K) (o : Option K) → next_key m p.state p.cursor ≡ o → is_some o ≡ true → found m (at_next p o) ≡ found_dirty → Skipped p Fireable (after_test m (at_next p o))
  dirty_then p None e s d = cc
  dirty_then p (Some k) e s d =
      let is = ap (state_tested m p.state (Some k)) d in (
        λ h. subst (λ x. PlainWalks m (plain_of p) p.cursor true (with_state (plain_of p) x)) (sym is) (plain_limit {p = plain_of p} e d h),
        λ over r h w. plain_dirty {p = plain_of p} e d h (subst (λ x. PlainWalks m (plain_of (after_fire m (record (after_test m (at_next p (Some k))) { state = x }))) (Some k) over r) is w),
        carried_fire m laws (m.fired (state_tested m p.state (Some k) (m.verdict p.state k)) k) (m.adds (state_tested m p.state (Some k) (m.verdict p.state k)) k) k,
      )

  pub clean_then : (p : Place S K) (o : Option K) → next_key m p.state p.cursor ≡ o → is_some o ≡ true → InOrder m p.state → found m (at_next p o) ≢ found_dirty → Carries p → Carries (after_test m (at_next p o)) × ((over : Bool) (r : Plain S) → PlainWalks m (plain_of (after_test m (at_next p o))) (at_next p o).cursor over r → PlainWalks m (plain_of p) p.cursor over r)
  clean_then p None e s o n c = cc
  clean_then p (Some k) e s o n c =
      let is = tested_is m p.state k (m.verdict p.state k) n in (
        subst (λ x. IsCarried m x p.remembered (Some k)) (sym is) (carried_clean m laws p.state p.remembered p.cursor k o e n c),
        λ over r w. plain_clean {p = plain_of p} e n (subst (λ x. PlainWalks m (with_state (plain_of p) x) (Some k) over r) is w),
      )

  prefixed : (p q r : Place S K) (f : Found) → ((over : Bool) (x : Plain S) → PlainWalks m (plain_of q) q.cursor over x → PlainWalks m (plain_of p) p.cursor over x) → Skipped q f r → Skipped p f r
  prefixed p q r Nothing b s = (b _ _ s.0, s.1)
  prefixed p q r Stopped b s = (b _ _ s.0, s.1)
  prefixed p q r Fireable b s = (λ h. b _ _ (s.0 h), λ over x h w. b _ _ (s.1 over x h w), s.2)

  pub skips_plain : {p q : Place S K} {f : Found} → Skips m p f q → Carries p → Skipped p f q
  skips_plain {p = p} (none_above e o) c = none_then p (next_key m p.state p.cursor) refl e c
  skips_plain {p = p} (at_remembered e o s n) c = stop_then p (next_key m p.state p.cursor) refl e o s n c
  skips_plain {p = p} (at_dirty e o d) c = dirty_then p (next_key m p.state p.cursor) refl e d
  skips_plain {p = p} {q = q} {f = f} (passed_by e o s n rest) c =
      let t = clean_then p (next_key m p.state p.cursor) refl e o n c in
      prefixed p (after_test m (advanced m p)) q f t.1 (skips_plain rest t.0)

  abbrev pub AfterWalk : Walked → Place S K → Type 0
  AfterWalk walk.Limit q = Unit {0}
  AfterWalk walk.ToEnd q = CarriesOn q
  AfterWalk walk.Stopped q = CarriesOn q

  pub walks_plain : {p q : Place S K} {e : Walked} → Walks m p e q → Carries p → PlainWalks m (plain_of p) p.cursor (is_limit e) (plain_of q) × AfterWalk e q
  walks_plain (walked_through d) c = skips_plain d c
  walks_plain (walk_stopped d) c = skips_plain d c
  walks_plain (walk_limited d h) c = ((skips_plain d c).0 h, tt)
  walks_plain (fired_one {q = q} d h w) c =
      let s = skips_plain d c in
      let r = walks_plain w s.2 in
      (s.1 _ _ h r.0, r.1)

  whole : (e : Walked) (cut : Bool) (q : Place S K) → IsWhole e cut → AfterWalk e q → (is_limit e ≡ false) × CarriesOn q
  whole e cut q came_to_end c = (refl, c)
  whole e cut q cut_short c = (refl, c)

  walks_whole : {p q : Place S K} {e : Walked} {cut : Bool} → Walks m p e q → IsWhole e cut → p.cursor ≡ None → Carries p → PlainWalks m (plain_of p) None false (plain_of q) × CarriesOn q
  walks_whole {p = p} {q = q} {e = e} {cut = cut} w i start c =
      let r = walks_plain w c in
      let o = whole e cut q i r.1 in
      (subst (λ b. PlainWalks m (plain_of p) None b (plain_of q)) o.0 (subst (λ k. PlainWalks m (plain_of p) k (is_limit e) (plain_of q)) start r.0), o.1)

  abbrev pub AfterRound : RoundEnd → Place S K → Type 0
  AfterRound round.Busy q = CarriesOn q
  AfterRound _ q = Unit {0}

  pub round_plain : {p q : Place S K} {e : RoundEnd} → Round m p e q → CarriesOn p → PlainRound m (plain_of p) (uncut_round e) (plain_of q) × AfterRound e q
  round_plain {p = p} (many_tasks d) c = let t = drains_plain d c in (plain_many_tasks {p = plain_of p} t.0, tt)
  round_plain {p = p} (many_fires {q = q} {r = r} d w) c =
      let t = drains_plain d c in
      let s = walks_plain w t.2 in
      (plain_many_fires {p = plain_of p} t.0 (subst (λ k. PlainWalks m (plain_of q) k true (plain_of r)) t.1 s.0), tt)
  round_plain {p = p} (closed_clean {r = r} d w i h) c =
      let t = drains_plain d c in
      let s = walks_whole w i t.1 t.2 in
      (subst (λ b. PlainRound m (plain_of p) (round.Quiet false) (plain_of (record r { log = with_close b r.log; stage = stage_closed b }))) (sym h) (plain_quiet {p = plain_of p} t.0 s.0 h), tt)
  round_plain {p = p} (closed_dirty {r = r} d w i h) c =
      let t = drains_plain d c in
      let s = walks_whole w i t.1 t.2 in
      (subst (λ b. PlainRound m (plain_of p) round.Busy (plain_of (record r { log = with_close b r.log; stage = stage_closed b }))) (sym h) (plain_busy {p = plain_of p} t.0 s.0 h), s.1)

  pub rounds_plain : {p q : Place S K} {e : End} → Rounds m p e q → CarriesOn p → PlainRounds m (plain_of p) (uncut e) (plain_of q)
  rounds_plain (last_is_clean d) c = plain_last (round_plain d c).0
  rounds_plain (over_fires d) c = plain_over_fires (round_plain d c).0
  rounds_plain (over_tasks d) c = plain_over_tasks (round_plain d c).0
  rounds_plain (eleventh_is_dirty d h) c = plain_eleventh (round_plain d c).0 h
  rounds_plain (one_more d h rest) c = let r = round_plain d c in plain_more r.0 h (rounds_plain rest r.1)

  at_start : (p : Place S K) → p.log ≡ zero_log → plain_of p ≡ at_first p.state
  at_start p z = ap (λ l. plain_of (record p { log = l })) z

  pub forgotten : (p : Place S K) → p.remembered ≡ None → CarriesOn p
  forgotten p f = subst (λ r. IsCarried m p.state r None) (sym f) tt

  from_start : {p q : Place S K} {e : End} → Rounds m p e q → p.log ≡ zero_log → p.remembered ≡ None → PlainRounds m (at_first p.state) (uncut e) (plain_of q)
  from_start {p = p} {q = q} {e = e} d z f = subst (λ x. PlainRounds m x (uncut e) (plain_of q)) (at_start p z) (rounds_plain d (forgotten p f))

  -- the same answer, rounds and fires, first fault and count, and the same state
  pub digest_plain : {p q : Place S K} {r : Result Report DigestFault} → Digests m p r q → p.log ≡ zero_log → p.remembered ≡ None → Unless r (PlainDigests m p.state (plain_answer r) (plain_of q))
  digest_plain (gives_report d h) z f = plain_ok (from_start d z f) h
  digest_plain (gives_faulted d h) z f = plain_faulted (from_start d z f) h
  digest_plain (gives_infdig d) z f = plain_infdig (from_start d z f)
  digest_plain (gives_fire_limit d) z f = plain_fire_limit (from_start d z f)
  digest_plain (gives_async_limit d) z f = plain_async_limit (from_start d z f)
  digest_plain gives_memory z f = tt

-- Once the rounds have settled each live key is known clean.
use Rattle.std.proofs.Common.{◌≡◌, ◌≢◌, ◌+◌, ◌-◌, ◌^◌, min, ℕ, Bool, true, false, refl, sym, subst, arith, Option, Some, None, Result, is_some, nat_lt, ◌||◌, zero-le}
use Rattle.std.proofs.lemmas.Bool.Decides.{nat_tests}
use Rattle.ng_digest.specs.declared.log.Report.{Report}
use Rattle.ng_digest.specs.declared.rounds.Found.{Found}
use Rattle.ng_digest.specs.declared.rounds.Found.TheVariants.{Nothing, Stopped, Fireable}
use Rattle.ng_digest.specs.declared.rounds.Walked.{Walked}
use Rattle.ng_digest.specs.declared.rounds.RoundEnd.TheVariants as round
use Rattle.ng_digest.specs.declared.rounds.End.TheVariants.{Settled}
use Rattle.ng_digest.specs.declared.rounds.DigestFault.{DigestFault}
use Rattle.ng_digest.specs.Log.{zero_log}
use Rattle.ng_digest.specs.Machine.{Machine, found_dirty, above, next_key}
use Rattle.ng_digest.specs.Laws.{HasLaws, InOrder}
use Rattle.ng_digest.specs.Place.{Place, at_next, found, after_test, after_fire, is_remembered}
use Rattle.ng_digest.specs.Short.{Skips, none_above, at_remembered, at_dirty, passed_by, Walks, walked_through, walk_stopped, walk_limited, fired_one, IsWhole, Round, closed_clean, Rounds, last_is_clean, one_more, Digests, gives_report, gives_faulted, gives_infdig, gives_fire_limit, gives_async_limit, gives_memory}
use Rattle.ng_digest.specs.Early.{IsLive, IsKnownClean, IsFresh, OnSettled}
use Rattle.ng_digest.proofs.Carried.{tested_is, known_passed, none_passes, carried_stop, was_live}
use Rattle.ng_digest.proofs.Few.{rounds_few, at_start_few}
use Rattle.ng_digest.proofs.Stop.{Carries, CarriesOn, drains_plain, skips_plain, round_plain, forgotten, clean_then}

not_fired : (n : ℕ) (w : Bool) → (nat_lt 0 n || w) ≡ false → n ≡ 0
not_fired n w e = grind (arith, nat_tests)

module _ {S K : Type 0} (m : Machine S K) (laws : HasLaws m) where
  -- in a round without a fire so far each live key that is passed is known clean
  abbrev pub PassedKnown : Place S K → Type 0
  PassedKnown p = p.log.round_fires ≡ 0 → (j : K) → IsLive m p.state j → above m p.cursor j ≡ false → IsKnownClean m p.state j

  abbrev pub AllKnown : S → Type 0
  AllKnown s = (j : K) → IsLive m s j → IsKnownClean m s j

  abbrev pub KnownThen : Found → Place S K → Type 0
  KnownThen Nothing q = q.log.round_fires ≡ 0 → AllKnown q.state
  KnownThen Stopped q = q.log.round_fires ≡ 0 → AllKnown q.state
  KnownThen Fireable q = Unit {0}

  none_known : (p : Place S K) (o : Option K) → next_key m p.state p.cursor ≡ o → is_some o ≡ false → PassedKnown p → KnownThen Nothing (at_next p o)
  none_known p None e s k = λ z j l. k z j l (none_passes (above m p.cursor) j (m.keys p.state) e l)
  none_known p (Some k) e s _ = cc

  split_known : (s : S) (k j : K) (b : Bool) → above m (Some k) j ≡ b → (above m (Some k) j ≡ true → IsKnownClean m s j) → (above m (Some k) j ≡ false → IsKnownClean m s j) → IsKnownClean m s j
  split_known s k j true e up down = up e
  split_known s k j false e up down = down e

  stop_known : (p : Place S K) (o : Option K) → next_key m p.state p.cursor ≡ o → is_some o ≡ true → InOrder m p.state → is_remembered m (at_next p o) ≡ true → found m (at_next p o) ≢ found_dirty → Carries m laws p → PassedKnown p → KnownThen Stopped (after_test m (at_next p o))
  stop_known p None e s o same n c k = cc
  stop_known p (Some k) e s o same n c passed =
      let is = tested_is m p.state k (m.verdict p.state k) n in
      λ z. subst AllKnown (sym is) (λ j l. split_known (m.tested p.state k) k j (above m (Some k) j) refl (carried_stop m laws p.state p.remembered p.cursor k e n same c j l) (λ a. let live = was_live m laws p.state k j n l in known_passed m laws p.state p.cursor k j o e n live a (passed z j live)))

  clean_known : (p : Place S K) (o : Option K) → next_key m p.state p.cursor ≡ o → is_some o ≡ true → InOrder m p.state → found m (at_next p o) ≢ found_dirty → PassedKnown p → PassedKnown (after_test m (at_next p o))
  clean_known p None e s o n k = cc
  clean_known p (Some k) e s o n passed =
      let is = tested_is m p.state k (m.verdict p.state k) n in
      subst (λ x. p.log.round_fires ≡ 0 → (j : K) → IsLive m x j → above m (Some k) j ≡ false → IsKnownClean m x j) (sym is) (λ z j l a. let live = was_live m laws p.state k j n l in known_passed m laws p.state p.cursor k j o e n live a (passed z j live))

  skips_known : {p q : Place S K} {f : Found} → Skips m p f q → Carries m laws p → PassedKnown p → KnownThen f q
  skips_known {p = p} (none_above e o) c k = none_known p (next_key m p.state p.cursor) refl e k
  skips_known {p = p} (at_remembered e o s n) c k = stop_known p (next_key m p.state p.cursor) refl e o s n c k
  skips_known (at_dirty e o d) c k = tt
  skips_known {p = p} (passed_by e o s n rest) c k = skips_known rest (clean_then m laws p (next_key m p.state p.cursor) refl e o n c).0 (clean_known p (next_key m p.state p.cursor) refl e o n k)

  fired_known : (q : Place S K) → PassedKnown (after_fire m q)
  fired_known q = λ z. let h : min (q.log.round_fires + 1) (2 ^ 32 - 1) ≡ 0 = z in absurd (omega arith)

  walks_known : {p q : Place S K} {e : Walked} {cut : Bool} → Walks m p e q → IsWhole e cut → Carries m laws p → PassedKnown p → q.log.round_fires ≡ 0 → AllKnown q.state
  walks_known (walked_through d) i c k = skips_known d c k
  walks_known (walk_stopped d) i c k = skips_known d c k
  walks_known (walk_limited d h) i c k = elim i [ ]
  walks_known (fired_one {q = q} d h w) i c k = walks_known w i (skips_plain m laws d c).2 (fired_known q)

  quiet_known : {p q : Place S K} {cut : Bool} → Round m p (round.Quiet cut) q → CarriesOn m laws p → AllKnown q.state
  quiet_known (closed_clean {q = x} {r = r} d w i h) c =
      let t = drains_plain m laws d c in
      walks_known w i t.2 (λ z j l a. let b = subst (λ y. above m y j ≡ false) t.1 a in cc) (not_fired r.log.round_fires (m.waits r.state) h)

  pub rounds_known : {p q : Place S K} {cut : Bool} → Rounds m p (Settled cut) q → CarriesOn m laws p → AllKnown q.state
  rounds_known (last_is_clean d) c = quiet_known d c
  rounds_known (one_more d h rest) c = rounds_known rest (round_plain m laws d c).1

  pub digest_fresh : {p q : Place S K} {r : Result Report DigestFault} → Digests m p r q → p.remembered ≡ None → p.log ≡ zero_log → OnSettled r (λ tests. IsFresh m tests q.state)
  digest_fresh {p = p} (gives_report {q = x} {cut = cut} d h) f z = (x.state, refl, rounds_known d (forgotten m laws p f), rounds_few m laws d (at_start_few m laws p f))
  digest_fresh {p = p} (gives_faulted {q = x} d h) f z = (x.state, refl, rounds_known d (forgotten m laws p f), zero-le)
  digest_fresh (gives_infdig d) f z = tt
  digest_fresh (gives_fire_limit d) f z = tt
  digest_fresh (gives_async_limit d) f z = tt
  digest_fresh gives_memory f z = tt

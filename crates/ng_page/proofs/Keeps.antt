-- What tests, fires and tasks keep, a digest keeps.
use Rattle.std.proofs.Common.{ℕ, Bool, Option, Result}
use Rattle.ng_digest.specs.declared.rounds.RoundEnd.{RoundEnd}
use Rattle.ng_digest.specs.declared.rounds.End.{End}
use Rattle.ng_digest.specs.declared.rounds.DigestFault.{DigestFault}
use Rattle.ng_digest.specs.Machine.{Machine}
use Rattle.ng_digest.specs.Plain.{Plain, PlainDrains, plain_drained, plain_too_many, plain_ran, PlainWalks, plain_end, plain_clean, plain_limit, plain_dirty, PlainRound, plain_many_tasks, plain_many_fires, plain_quiet, plain_busy, PlainRounds, plain_last, plain_over_fires, plain_over_tasks, plain_eleventh, plain_more, PlainDigests, plain_ok, plain_faulted, plain_infdig, plain_fire_limit, plain_async_limit}

-- each thing that is done in a digest keeps P
pub record KeepsEach {S K : Type 0} (m : Machine S K) (P : S → Type 0) : Type 0 where
  pub tests : (s : S) (k : K) → P s → P (m.tested s k)
  pub fires : (s : S) (k : K) → P s → P (m.fired s k)
  pub runs : (s : S) → P s → P (m.ran s)
  pub settles : (s : S) → P s → P (m.settled s)
  pub fails : (s : S) → P s → P (m.failed s)

module _ {S K : Type 0} (m : Machine S K) (P : S → Type 0) (each : KeepsEach m P) where
  drains : {p q : Plain S} {over : Bool} → PlainDrains m p over q → P p.state → P q.state
  drains (plain_drained w) h = h
  drains (plain_too_many w t) h = h
  drains {p = p} (plain_ran w t d) h = drains d (each.runs p.state h)

  walks : {p q : Plain S} {c : Option K} {over : Bool} → PlainWalks m p c over q → P p.state → P q.state
  walks (plain_end e) h = h
  walks {p = p} (plain_clean {k = k} e n w) h = walks w (each.tests p.state k h)
  walks (plain_limit e d l) h = h
  walks {p = p} (plain_dirty {k = k} e d l w) h = walks w (each.fires p.state k h)

  round : {p q : Plain S} {end : RoundEnd} → PlainRound m p end q → P p.state → P q.state
  round (plain_many_tasks d) h = drains d h
  round (plain_many_fires d w) h = walks w (drains d h)
  round (plain_quiet d w c) h = walks w (drains d h)
  round (plain_busy d w c) h = walks w (drains d h)

  rounds : {p q : Plain S} {end : End} → PlainRounds m p end q → P p.state → P q.state
  rounds (plain_last r) h = round r h
  rounds (plain_over_fires r) h = round r h
  rounds (plain_over_tasks r) h = round r h
  rounds (plain_eleventh r n) h = round r h
  rounds (plain_more r n rs) h = rounds rs (round r h)

  pub digest_keeps : {s : S} {r : Result (ℕ × ℕ) DigestFault} {p : Plain S} → PlainDigests m s r p → P s → P p.state
  digest_keeps (plain_ok {p = p} rs n) h = each.settles p.state (rounds rs h)
  digest_keeps (plain_faulted {p = p} rs n) h = each.settles p.state (rounds rs h)
  digest_keeps (plain_infdig {p = p} rs) h = each.fails p.state (rounds rs h)
  digest_keeps (plain_fire_limit {p = p} rs) h = each.fails p.state (rounds rs h)
  digest_keeps (plain_async_limit {p = p} rs) h = each.fails p.state (rounds rs h)

-- what the rounds keep, the end of a digest may turn into more
module _ {S K : Type 0} (m : Machine S K) (P Q : S → Type 0) (each : KeepsEach m P) (settles : (s : S) → P s → Q (m.settled s)) (fails : (s : S) → P s → Q (m.failed s)) where
  pub digest_ends : {s : S} {r : Result (ℕ × ℕ) DigestFault} {p : Plain S} → PlainDigests m s r p → P s → Q p.state
  digest_ends (plain_ok {p = p} rs n) h = settles p.state (rounds m P each rs h)
  digest_ends (plain_faulted {p = p} rs n) h = settles p.state (rounds m P each rs h)
  digest_ends (plain_infdig {p = p} rs) h = fails p.state (rounds m P each rs h)
  digest_ends (plain_fire_limit {p = p} rs) h = fails p.state (rounds m P each rs h)
  digest_ends (plain_async_limit {p = p} rs) h = fails p.state (rounds m P each rs h)

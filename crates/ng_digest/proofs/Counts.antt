-- What the calls of a digest leave of its counts, and where it stands after them.
use Rattle.std.proofs.Common.{◌≡◌, ◌<◌, ◌≤◌, ◌+◌, ◌-◌, ◌^◌, min, Bool, true, refl, sym, ap, ◌∙◌, arith, Option, Some, None, true≢false}
use Rattle.ng_digest.specs.declared.log.Log.{Log}
use Rattle.ng_digest.specs.declared.world.Stage.TheVariants.{Between, Draining, Pending, Calm}
use Rattle.ng_digest.specs.declared.rounds.Found.{Found}
use Rattle.ng_digest.specs.declared.rounds.Found.TheVariants.{Fireable}
use Rattle.ng_digest.specs.declared.rounds.Walked.{Walked}
use Rattle.ng_digest.specs.declared.rounds.Walked.TheVariants as walk
use Rattle.ng_digest.specs.declared.rounds.RoundEnd.{RoundEnd}
use Rattle.ng_digest.specs.declared.rounds.RoundEnd.TheVariants as round
use Rattle.ng_digest.specs.declared.rounds.End.{End}
use Rattle.ng_digest.specs.declared.rounds.End.TheVariants.{Settled, Infdig, FireLimit, AsyncLimit}
use Rattle.ng_digest.specs.Log.{more32, with_close}
use Rattle.ng_digest.specs.Machine.{Machine, next_key}
use Rattle.ng_digest.specs.Place.{Place, at_next, advanced, is_remembered, stage_closed, stage_tested}
use Rattle.ng_digest.specs.Short.{Drains, drained, too_many, ran_one, Skips, none_above, at_remembered, at_dirty, passed_by, Walks, walked_through, walk_stopped, walk_limited, fired_one, Round, many_tasks, many_fires, closed_clean, closed_dirty, Rounds, last_is_clean, over_fires, over_tasks, eleventh_is_dirty, one_more}

-- all of a log but its tests
pub record SameCounts (a b : Log) : Type 0 where
  pub rounds : a.rounds ≡ b.rounds
  pub dirty_rounds : a.dirty_rounds ≡ b.dirty_rounds
  pub fires : a.fires ≡ b.fires
  pub round_fires : a.round_fires ≡ b.round_fires
  pub tasks : a.tasks ≡ b.tasks

pub log_next : {S K : Type 0} (p : Place S K) (o : Option K) → (at_next p o).log ≡ p.log
log_next p None = refl
log_next p (Some k) = refl

module _ {S K : Type 0} (m : Machine S K) where
  pub same_skipped : {p q : Place S K} {f : Found} → Skips m p f q → SameCounts q.log p.log
  same_skipped {p = p} (none_above e o) = let h = log_next p (next_key m p.state p.cursor) in record { rounds = ap (λ l. l.rounds) h; dirty_rounds = ap (λ l. l.dirty_rounds) h; fires = ap (λ l. l.fires) h; round_fires = ap (λ l. l.round_fires) h; tasks = ap (λ l. l.tasks) h }
  same_skipped {p = p} (at_remembered e o s n) = let h = log_next p (next_key m p.state p.cursor) in record { rounds = ap (λ l. l.rounds) h; dirty_rounds = ap (λ l. l.dirty_rounds) h; fires = ap (λ l. l.fires) h; round_fires = ap (λ l. l.round_fires) h; tasks = ap (λ l. l.tasks) h }
  same_skipped {p = p} (at_dirty e o d) = let h = log_next p (next_key m p.state p.cursor) in record { rounds = ap (λ l. l.rounds) h; dirty_rounds = ap (λ l. l.dirty_rounds) h; fires = ap (λ l. l.fires) h; round_fires = ap (λ l. l.round_fires) h; tasks = ap (λ l. l.tasks) h }
  same_skipped {p = p} (passed_by e o s n d) =
      let h = log_next p (next_key m p.state p.cursor) in
      let r = same_skipped d in
      record { rounds = r.rounds ∙ ap (λ l. l.rounds) h; dirty_rounds = r.dirty_rounds ∙ ap (λ l. l.dirty_rounds) h; fires = r.fires ∙ ap (λ l. l.fires) h; round_fires = r.round_fires ∙ ap (λ l. l.round_fires) h; tasks = r.tasks ∙ ap (λ l. l.tasks) h }

  -- a dirty key is to be fired
  pub pending : {p q : Place S K} → Skips m p Fireable q → q.stage ≡ Pending
  pending {p = p} (at_dirty e o d) = ap (stage_tested (is_remembered m (advanced m p))) d
  pending (passed_by e o s n d) = pending d

  pub record Drained (p q : Place S K) (ended : Bool) : Type 0 where
    pub dirty_rounds : q.log.dirty_rounds ≡ p.log.dirty_rounds
    pub fires : q.log.fires ≡ p.log.fires
    pub few : p.log.tasks ≤ 10000 → q.log.tasks ≤ 10000
    pub stage : q.stage ≡ p.stage
    pub over : ended ≡ true → p.log.tasks ≤ 10000 → (q.log.tasks ≡ 10000) × (m.waits q.state ≡ true)

  pub what_drained : {p q : Place S K} {over : Bool} → Drains m p over q → Drained p q over
  what_drained (drained e) = record { dirty_rounds = refl; fires = refl; few = λ h. h; stage = refl; over = λ h. absurd (true≢false (sym h)) }
  what_drained (too_many e h) = record { dirty_rounds = refl; fires = refl; few = λ f. f; stage = refl; over = λ _ f. (omega arith, e) }
  what_drained {p = p} (ran_one e h d) =
      let r = what_drained d in
      let one : min (p.log.tasks + 1) (2 ^ 32 - 1) ≤ 10000 = omega arith in
      record { dirty_rounds = r.dirty_rounds; fires = r.fires; few = λ _. r.few one; stage = r.stage; over = λ o _. r.over o one }

  pub record Walked_ (p q : Place S K) (e : Walked) : Type 0 where
    pub dirty_rounds : q.log.dirty_rounds ≡ p.log.dirty_rounds
    pub tasks : q.log.tasks ≡ p.log.tasks
    pub few : p.log.fires ≤ 1000000 → q.log.fires ≤ 1000000
    pub limit : e ≡ walk.Limit → p.log.fires ≤ 1000000 → (q.log.fires ≡ 1000000) × (q.stage ≡ Pending)

  pub what_walked : {p q : Place S K} {e : Walked} → Walks m p e q → Walked_ p q e
  what_walked (walked_through d) = let s = same_skipped d in record { dirty_rounds = s.dirty_rounds; tasks = s.tasks; few = λ h. omega (arith, s.fires); limit = λ e. cc }
  what_walked (walk_stopped d) = let s = same_skipped d in record { dirty_rounds = s.dirty_rounds; tasks = s.tasks; few = λ h. omega (arith, s.fires); limit = λ e. cc }
  what_walked (walk_limited d h) = let s = same_skipped d in record { dirty_rounds = s.dirty_rounds; tasks = s.tasks; few = λ f. omega (arith, s.fires); limit = λ _ f. (omega (arith, s.fires), pending d) }
  what_walked (fired_one {q = q} d h w) =
      let s = same_skipped d in
      let r = what_walked w in
      let one : min (q.log.fires + 1) (2 ^ 32 - 1) ≤ 1000000 = omega arith in
      record { dirty_rounds = r.dirty_rounds ∙ s.dirty_rounds; tasks = r.tasks ∙ s.tasks; few = λ _. r.few one; limit = λ e _. r.limit e one }

  abbrev pub RoundWent : RoundEnd → Place S K → Place S K → Type 0
  RoundWent round.AsyncLimit p q = (q.log.dirty_rounds ≡ p.log.dirty_rounds) × (q.log.tasks ≡ 10000) × (q.stage ≡ Draining) × (m.waits q.state ≡ true)
  RoundWent round.FireLimit p q = (q.log.dirty_rounds ≡ p.log.dirty_rounds) × (q.log.fires ≡ 1000000) × (q.stage ≡ Pending)
  RoundWent (round.Quiet cut) p q = (q.log.dirty_rounds ≡ p.log.dirty_rounds) × (q.stage ≡ Calm)
  RoundWent round.Busy p q = (q.log.dirty_rounds ≡ more32 p.log.dirty_rounds) × (q.stage ≡ Between) × (q.log.tasks ≤ 10000) × (q.log.fires ≤ 1000000)

  pub what_round : {p q : Place S K} {e : RoundEnd} → Round m p e q → p.log.tasks ≤ 10000 → p.log.fires ≤ 1000000 → RoundWent e p q
  what_round (many_tasks d) t f = let r = what_drained d in let o = r.over refl t in (r.dirty_rounds, o.0, r.stage, o.1)
  what_round (many_fires d w) t f =
      let r = what_drained d in
      let s = what_walked w in
      let l = s.limit refl (omega (arith, r.fires)) in
      (s.dirty_rounds ∙ r.dirty_rounds, l.0, l.1)
  what_round (closed_clean {r = x} d w _ c) t f =
      let r = what_drained d in
      let s = what_walked w in
      (ap (λ b. (with_close b x.log).dirty_rounds) c ∙ s.dirty_rounds ∙ r.dirty_rounds, ap stage_closed c)
  what_round (closed_dirty {r = x} d w _ c) t f =
      let r = what_drained d in
      let s = what_walked w in
      let l = ap (λ b. with_close b x.log) c in
      let few = r.few t in
      (ap (λ y. y.dirty_rounds) l ∙ ap more32 (s.dirty_rounds ∙ r.dirty_rounds), ap stage_closed c, omega (arith, s.tasks, ap (λ y. y.tasks) l), (let g = s.few (omega (arith, r.fires)) in omega (arith, ap (λ y. y.fires) l)))

  abbrev pub Went : End → Place S K → Type 0
  Went (Settled cut) q = (q.log.dirty_rounds < 11) × (q.stage ≡ Calm)
  Went Infdig q = (q.log.dirty_rounds ≡ 11) × (q.stage ≡ Between)
  Went FireLimit q = (q.log.dirty_rounds < 11) × (q.log.fires ≡ 1000000) × (q.stage ≡ Pending)
  Went AsyncLimit q = (q.log.dirty_rounds < 11) × (q.log.tasks ≡ 10000) × (q.stage ≡ Draining) × (m.waits q.state ≡ true)

  pub what_went : {p q : Place S K} {e : End} → Rounds m p e q → p.log.dirty_rounds < 11 → p.log.tasks ≤ 10000 → p.log.fires ≤ 1000000 → Went e q
  what_went (last_is_clean d) n t f = let r = what_round d t f in (omega (arith, r.0), r.1)
  what_went (over_fires d) n t f = let r = what_round d t f in (omega (arith, r.0), r.1, r.2)
  what_went (over_tasks d) n t f = let r = what_round d t f in (omega (arith, r.0), r.1, r.2, r.3)
  what_went {p = p} (eleventh_is_dirty {q = q} d h) n t f =
      let r = what_round d t f in
      let one : q.log.dirty_rounds ≡ min (p.log.dirty_rounds + 1) (2 ^ 32 - 1) = r.0 in
      (omega arith, r.1)
  what_went (one_more d h rest) n t f = let r = what_round d t f in what_went rest h r.2 r.3

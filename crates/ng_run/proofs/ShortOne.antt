-- The digest that stops early has one report.
use Rattle.std.proofs.Common.{◌≡◌, Bool, true, false, refl, sym, ap, ◌∙◌, subst, arith, Ok, true≢false}
use Rattle.ng_digest.specs.Log.{report_of}
use Rattle.ng_digest.specs.Machine.{Machine}
use Rattle.ng_digest.specs.Place.{Place, after_fire, closed, is_dirty}
use Rattle.ng_digest.specs.Short.{Drains, drained, too_many, ran_one, Skips, none_above, at_remembered, at_dirty, passed_by, Walks, walked_through, walk_stopped, walk_limited, fired_one, IsWhole, came_to_end, cut_short, Round, many_tasks, many_fires, closed_clean, closed_dirty, Rounds, last_is_clean, over_fires, over_tasks, eleventh_is_dirty, one_more, Digests, gives_report}
use Rattle.ng_digest.specs.declared.log.Report.{Report}
use Rattle.ng_digest.specs.declared.rounds.End.{End}
use Rattle.ng_digest.specs.declared.rounds.End.TheVariants.{Settled}
use Rattle.ng_digest.specs.declared.rounds.Found.{Found}
use Rattle.ng_digest.specs.declared.rounds.RoundEnd.{RoundEnd}
use Rattle.ng_digest.specs.declared.rounds.RoundEnd.TheVariants.{Quiet}
use Rattle.ng_digest.specs.declared.rounds.Walked.{Walked}

both : (b : Bool) → b ≡ true → b ≡ false → ⊥
both b t f = true≢false (sym t ∙ f)

module _ {S K : Type 0} (m : Machine S K) where
  drain_one : {p q r : Place S K} {o u : Bool} → Drains m p o q → Drains m p u r → (o ≡ u) × (q ≡ r)
  drain_one (drained e) (drained f) = (refl, refl)
  drain_one (drained e) (too_many f g) = absurd (both _ f e)
  drain_one (drained e) (ran_one f g b) = absurd (both _ f e)
  drain_one (too_many e h) (drained f) = absurd (both _ e f)
  drain_one (too_many e h) (too_many f g) = (refl, refl)
  drain_one (too_many e h) (ran_one f g b) = absurd (omega arith)
  drain_one (ran_one e h a) (drained f) = absurd (both _ e f)
  drain_one (ran_one e h a) (too_many f g) = absurd (omega arith)
  drain_one (ran_one e h a) (ran_one f g b) = drain_one a b

  skip_one : {p q r : Place S K} {x y : Found} → Skips m p x q → Skips m p y r → (x ≡ y) × (q ≡ r)
  skip_one (none_above e o) (none_above f u) = (refl, refl)
  skip_one (none_above e o) (at_remembered f u s n) = absurd (both _ f e)
  skip_one (none_above e o) (at_dirty f u d) = absurd (both _ f e)
  skip_one (none_above e o) (passed_by f u s n b) = absurd (both _ f e)
  skip_one (at_remembered e o t k) (none_above f u) = absurd (both _ e f)
  skip_one (at_remembered e o t k) (at_remembered f u s n) = (refl, refl)
  skip_one (at_remembered e o t k) (at_dirty f u d) = absurd (k d)
  skip_one (at_remembered e o t k) (passed_by f u s n b) = absurd (both _ t s)
  skip_one (at_dirty e o c) (none_above f u) = absurd (both _ e f)
  skip_one (at_dirty e o c) (at_remembered f u s n) = absurd (n c)
  skip_one (at_dirty e o c) (at_dirty f u d) = (refl, refl)
  skip_one (at_dirty e o c) (passed_by f u s n b) = absurd (n c)
  skip_one (passed_by e o t k a) (none_above f u) = absurd (both _ e f)
  skip_one (passed_by e o t k a) (at_remembered f u s n) = absurd (both _ s t)
  skip_one (passed_by e o t k a) (at_dirty f u d) = absurd (k d)
  skip_one (passed_by e o t k a) (passed_by f u s n b) = skip_one a b

  walk_one : {p q r : Place S K} {x y : Walked} → Walks m p x q → Walks m p y r → (x ≡ y) × (q ≡ r)
  walk_one (walked_through a) (walked_through b) = (refl, (skip_one a b).1)
  walk_one (walked_through a) (walk_stopped b) = let h = (skip_one a b).0 in absurd cc
  walk_one (walked_through a) (walk_limited b l) = let h = (skip_one a b).0 in absurd cc
  walk_one (walked_through a) (fired_one b l w) = let h = (skip_one a b).0 in absurd cc
  walk_one (walk_stopped a) (walked_through b) = let h = (skip_one a b).0 in absurd cc
  walk_one (walk_stopped a) (walk_stopped b) = (refl, (skip_one a b).1)
  walk_one (walk_stopped a) (walk_limited b l) = let h = (skip_one a b).0 in absurd cc
  walk_one (walk_stopped a) (fired_one b l w) = let h = (skip_one a b).0 in absurd cc
  walk_one (walk_limited a k) (walked_through b) = let h = (skip_one a b).0 in absurd cc
  walk_one (walk_limited a k) (walk_stopped b) = let h = (skip_one a b).0 in absurd cc
  walk_one (walk_limited a k) (walk_limited b l) = (refl, (skip_one a b).1)
  walk_one (walk_limited a k) (fired_one b l w) = let i = ap (λ (z : Place S K). z.log.fires) (skip_one a b).1 in absurd (omega arith)
  walk_one (fired_one a k v) (walked_through b) = let h = (skip_one a b).0 in absurd cc
  walk_one (fired_one a k v) (walk_stopped b) = let h = (skip_one a b).0 in absurd cc
  walk_one (fired_one a k v) (walk_limited b l) = let i = ap (λ (z : Place S K). z.log.fires) (skip_one a b).1 in absurd (omega arith)
  walk_one {r = r} {y = y} (fired_one a k v) (fired_one b l w) = walk_one v (subst (λ z. Walks m (after_fire m z) y r) (sym (skip_one a b).1) w)

  -- the tasks and the walk of a round
  walk_after : {p q r s t : Place S K} {x y : Walked} → Drains m p false q → Walks m q x s → Drains m p false r → Walks m r y t → (x ≡ y) × (s ≡ t)
  walk_after {t = t} {y = y} a v b w = walk_one v (subst (λ z. Walks m z y t) (sym (drain_one a b).1) w)

  whole_one : {x y : Walked} {c d : Bool} → IsWhole x c → IsWhole y d → x ≡ y → c ≡ d
  whole_one came_to_end came_to_end e = refl
  whole_one came_to_end cut_short e = absurd cc
  whole_one cut_short came_to_end e = absurd cc
  whole_one cut_short cut_short e = refl

  limit_or_whole : {x y : Walked} {c : Bool} → IsWhole y c → Walked.Limit ≡ x → x ≡ y → ⊥
  limit_or_whole came_to_end e f = cc
  limit_or_whole cut_short e f = cc

  round_one : {p q r : Place S K} {x y : RoundEnd} → Round m p x q → Round m p y r → (x ≡ y) × (q ≡ r)
  round_one (many_tasks a) (many_tasks b) = (refl, (drain_one a b).1)
  round_one (many_tasks a) (many_fires b w) = absurd (true≢false (drain_one a b).0)
  round_one (many_tasks a) (closed_clean b w i d) = absurd (true≢false (drain_one a b).0)
  round_one (many_tasks a) (closed_dirty b w i d) = absurd (true≢false (drain_one a b).0)
  round_one (many_fires a v) (many_tasks b) = absurd (true≢false (drain_one b a).0)
  round_one (many_fires a v) (many_fires b w) = (refl, (walk_after a v b w).1)
  round_one (many_fires a v) (closed_clean b w i d) = absurd (limit_or_whole i refl (walk_after a v b w).0)
  round_one (many_fires a v) (closed_dirty b w i d) = absurd (limit_or_whole i refl (walk_after a v b w).0)
  round_one (closed_clean a v h c) (many_tasks b) = absurd (true≢false (drain_one b a).0)
  round_one (closed_clean a v h c) (many_fires b w) = absurd (limit_or_whole h refl (walk_after b w a v).0)
  round_one (closed_clean a v h c) (closed_clean b w i d) = let one = walk_after a v b w in (ap Quiet (whole_one h i one.0), ap (closed m) one.1)
  round_one (closed_clean a v h c) (closed_dirty b w i d) = absurd (both _ d (sym (ap (is_dirty m) (walk_after a v b w).1) ∙ c))
  round_one (closed_dirty a v h c) (many_tasks b) = absurd (true≢false (drain_one b a).0)
  round_one (closed_dirty a v h c) (many_fires b w) = absurd (limit_or_whole h refl (walk_after b w a v).0)
  round_one (closed_dirty a v h c) (closed_clean b w i d) = absurd (both _ c (ap (is_dirty m) (walk_after a v b w).1 ∙ d))
  round_one (closed_dirty a v h c) (closed_dirty b w i d) = (refl, ap (closed m) (walk_after a v b w).1)

  quiet_one : (c d : Bool) → Quiet c ≡ Quiet d → Settled c ≡ Settled d
  quiet_one c d e = cc

  rounds_one : {p q r : Place S K} {x y : End} → Rounds m p x q → Rounds m p y r → (x ≡ y) × (q ≡ r)
  rounds_one (last_is_clean a) (last_is_clean b) = (quiet_one _ _ (round_one a b).0, (round_one a b).1)
  rounds_one (last_is_clean a) (over_fires b) = let h = (round_one a b).0 in absurd cc
  rounds_one (last_is_clean a) (over_tasks b) = let h = (round_one a b).0 in absurd cc
  rounds_one (last_is_clean a) (eleventh_is_dirty b g) = let h = (round_one a b).0 in absurd cc
  rounds_one (last_is_clean a) (one_more b g w) = let h = (round_one a b).0 in absurd cc
  rounds_one (over_fires a) (last_is_clean b) = let h = (round_one a b).0 in absurd cc
  rounds_one (over_fires a) (over_fires b) = (refl, (round_one a b).1)
  rounds_one (over_fires a) (over_tasks b) = let h = (round_one a b).0 in absurd cc
  rounds_one (over_fires a) (eleventh_is_dirty b g) = let h = (round_one a b).0 in absurd cc
  rounds_one (over_fires a) (one_more b g w) = let h = (round_one a b).0 in absurd cc
  rounds_one (over_tasks a) (last_is_clean b) = let h = (round_one a b).0 in absurd cc
  rounds_one (over_tasks a) (over_fires b) = let h = (round_one a b).0 in absurd cc
  rounds_one (over_tasks a) (over_tasks b) = (refl, (round_one a b).1)
  rounds_one (over_tasks a) (eleventh_is_dirty b g) = let h = (round_one a b).0 in absurd cc
  rounds_one (over_tasks a) (one_more b g w) = let h = (round_one a b).0 in absurd cc
  rounds_one (eleventh_is_dirty a h) (last_is_clean b) = let i = (round_one a b).0 in absurd cc
  rounds_one (eleventh_is_dirty a h) (over_fires b) = let i = (round_one a b).0 in absurd cc
  rounds_one (eleventh_is_dirty a h) (over_tasks b) = let i = (round_one a b).0 in absurd cc
  rounds_one (eleventh_is_dirty a h) (eleventh_is_dirty b g) = (refl, (round_one a b).1)
  rounds_one (eleventh_is_dirty a h) (one_more b g w) = let i = ap (λ (z : Place S K). z.log.dirty_rounds) (round_one a b).1 in absurd (omega arith)
  rounds_one (one_more a h v) (last_is_clean b) = let i = (round_one a b).0 in absurd cc
  rounds_one (one_more a h v) (over_fires b) = let i = (round_one a b).0 in absurd cc
  rounds_one (one_more a h v) (over_tasks b) = let i = (round_one a b).0 in absurd cc
  rounds_one (one_more a h v) (eleventh_is_dirty b g) = let i = ap (λ (z : Place S K). z.log.dirty_rounds) (round_one a b).1 in absurd (omega arith)
  rounds_one {r = r} {y = y} (one_more a h v) (one_more b g w) = rounds_one v (subst (λ z. Rounds m z y r) (sym (round_one a b).1) w)

  cut_one : (c d : Bool) → Settled c ≡ Settled d → c ≡ d
  cut_one c d e = cc

  pub report_one : {p q r : Place S K} {x y : Report} → Digests m p (Ok x) q → Digests m p (Ok y) r → x ≡ y
  report_one (gives_report {q = s} {cut = c} a h) (gives_report {q = t} {cut = d} b g) =
      let one = rounds_one a b in
      ap (λ (z : Place S K). report_of z.log c) one.1 ∙ ap (report_of t.log) (cut_one c d one.0)

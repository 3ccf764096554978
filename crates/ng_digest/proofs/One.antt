-- The plain digest has one answer and ends in one state.
use Rattle.std.proofs.Common.{◌≡◌, ℕ, Bool, true, false, refl, sym, ap, ◌∙◌, subst, arith, Option, Some, None, Result, Ok, Err, true≢false, unwrap_or}
use Rattle.ng_base.specs.declared.fault.Fault.{Fault}
use Rattle.ng_digest.specs.declared.rounds.RoundEnd.{RoundEnd}
use Rattle.ng_digest.specs.declared.rounds.End.{End}
use Rattle.ng_digest.specs.declared.rounds.DigestFault.{DigestFault}
use Rattle.ng_digest.specs.declared.rounds.DigestFault.TheVariants as fault
use Rattle.ng_digest.specs.Machine.{Machine, found_dirty}
use Rattle.ng_digest.specs.Plain.{Plain, with_state, plain_fire, was_dirty, count_dirty, PlainDrains, plain_drained, plain_too_many, plain_ran, PlainWalks, plain_end, plain_clean, plain_limit, plain_dirty, PlainRound, plain_many_tasks, plain_many_fires, plain_quiet, plain_busy, PlainRounds, plain_last, plain_over_fires, plain_over_tasks, plain_eleventh, plain_more, PlainDigests, plain_ok, plain_faulted, plain_infdig, plain_fire_limit, plain_async_limit}

both : (b : Bool) → b ≡ true → b ≡ false → ⊥
both b t f = true≢false (sym t ∙ f)

module _ {S K : Type 0} (m : Machine S K) where
  drain_one : {p q r : Plain S} {o u : Bool} → PlainDrains m p o q → PlainDrains m p u r → (o ≡ u) × (q ≡ r)
  drain_one (plain_drained e) (plain_drained f) = (refl, refl)
  drain_one (plain_drained e) (plain_too_many f g) = absurd (both _ f e)
  drain_one (plain_drained e) (plain_ran f g b) = absurd (both _ f e)
  drain_one (plain_too_many e h) (plain_drained f) = absurd (both _ e f)
  drain_one (plain_too_many e h) (plain_too_many f g) = (refl, refl)
  drain_one (plain_too_many e h) (plain_ran f g b) = absurd (omega arith)
  drain_one (plain_ran e h a) (plain_drained f) = absurd (both _ e f)
  drain_one (plain_ran e h a) (plain_too_many f g) = absurd (omega arith)
  drain_one (plain_ran e h a) (plain_ran f g b) = drain_one a b

  one_key : (o : Option K) (k j : K) → o ≡ Some k → o ≡ Some j → j ≡ k
  one_key o k j e f = let h : Some j ≡ Some k = sym f ∙ e in cc

  no_key : (o : Option K) (k : K) → o ≡ None → o ≡ Some k → ⊥
  no_key o k e f = let h : None ≡ Some k = sym e ∙ f in cc

  walk_one : {p q r : Plain S} {c : Option K} {o u : Bool} → PlainWalks m p c o q → PlainWalks m p c u r → (o ≡ u) × (q ≡ r)
  walk_one (plain_end e) (plain_end f) = (refl, refl)
  walk_one (plain_end e) (plain_clean f n b) = absurd (no_key _ _ e f)
  walk_one (plain_end e) (plain_limit f d g) = absurd (no_key _ _ e f)
  walk_one (plain_end e) (plain_dirty f d g b) = absurd (no_key _ _ e f)
  walk_one (plain_clean e n a) (plain_end f) = absurd (no_key _ _ f e)
  walk_one {p = p} {r = r} {u = u} (plain_clean {k = k} e n a) (plain_clean {k = j} f l b) =
      walk_one a (subst (λ x. PlainWalks m (with_state p (m.tested p.state x)) (Some x) u r) (one_key _ k j e f) b)
  walk_one {p = p} (plain_clean {k = k} e n a) (plain_limit {k = j} f d g) = absurd (n (subst (λ x. m.verdict p.state x ≡ found_dirty) (one_key _ k j e f) d))
  walk_one {p = p} (plain_clean {k = k} e n a) (plain_dirty {k = j} f d g b) = absurd (n (subst (λ x. m.verdict p.state x ≡ found_dirty) (one_key _ k j e f) d))
  walk_one (plain_limit e d h) (plain_end f) = absurd (no_key _ _ f e)
  walk_one {p = p} (plain_limit {k = k} e d h) (plain_clean {k = j} f l b) = absurd (l (subst (λ x. m.verdict p.state x ≡ found_dirty) (one_key _ j k f e) d))
  walk_one (plain_limit e d h) (plain_limit f i g) = (refl, refl)
  walk_one (plain_limit e d h) (plain_dirty f i g b) = absurd (omega arith)
  walk_one (plain_dirty e d h a) (plain_end f) = absurd (no_key _ _ f e)
  walk_one {p = p} (plain_dirty {k = k} e d h a) (plain_clean {k = j} f l b) = absurd (l (subst (λ x. m.verdict p.state x ≡ found_dirty) (one_key _ j k f e) d))
  walk_one (plain_dirty e d h a) (plain_limit f i g) = absurd (omega arith)
  walk_one {p = p} {r = r} {u = u} (plain_dirty {k = k} e d h a) (plain_dirty {k = j} f i g b) =
      walk_one a (subst (λ x. PlainWalks m (plain_fire m p x) (Some x) u r) (one_key _ k j e f) b)

  -- the tasks and the walk of a round
  walk_after : {p q r x y : Plain S} {o u : Bool} → PlainDrains m p false q → PlainWalks m q None o x → PlainDrains m p false r → PlainWalks m r None u y → (o ≡ u) × (x ≡ y)
  walk_after {y = y} {u = u} a v b w = walk_one v (subst (λ s. PlainWalks m s None u y) (sym (drain_one a b).1) w)

  round_one : {p q r : Plain S} {e f : RoundEnd} → PlainRound m p e q → PlainRound m p f r → (e ≡ f) × (q ≡ r)
  round_one (plain_many_tasks a) (plain_many_tasks b) = (refl, (drain_one a b).1)
  round_one (plain_many_tasks a) (plain_many_fires b w) = absurd (true≢false (drain_one a b).0)
  round_one (plain_many_tasks a) (plain_quiet b w d) = absurd (true≢false (drain_one a b).0)
  round_one (plain_many_tasks a) (plain_busy b w d) = absurd (true≢false (drain_one a b).0)
  round_one (plain_many_fires a v) (plain_many_tasks b) = absurd (true≢false (drain_one b a).0)
  round_one (plain_many_fires a v) (plain_many_fires b w) = (refl, (walk_after a v b w).1)
  round_one (plain_many_fires a v) (plain_quiet b w d) = absurd (true≢false (walk_after a v b w).0)
  round_one (plain_many_fires a v) (plain_busy b w d) = absurd (true≢false (walk_after a v b w).0)
  round_one (plain_quiet a v c) (plain_many_tasks b) = absurd (true≢false (drain_one b a).0)
  round_one (plain_quiet a v c) (plain_many_fires b w) = absurd (true≢false (walk_after b w a v).0)
  round_one (plain_quiet a v c) (plain_quiet b w d) = (refl, (walk_after a v b w).1)
  round_one (plain_quiet a v c) (plain_busy b w d) = absurd (both _ d (sym (ap (was_dirty m) (walk_after a v b w).1) ∙ c))
  round_one (plain_busy a v c) (plain_many_tasks b) = absurd (true≢false (drain_one b a).0)
  round_one (plain_busy a v c) (plain_many_fires b w) = absurd (true≢false (walk_after b w a v).0)
  round_one (plain_busy a v c) (plain_quiet b w d) = absurd (both _ c (ap (was_dirty m) (walk_after a v b w).1 ∙ d))
  round_one (plain_busy a v c) (plain_busy b w d) = (refl, ap count_dirty (walk_after a v b w).1)

  rounds_one : {p q r : Plain S} {e f : End} → PlainRounds m p e q → PlainRounds m p f r → (e ≡ f) × (q ≡ r)
  rounds_one (plain_last a) (plain_last b) = (refl, (round_one a b).1)
  rounds_one (plain_last a) (plain_over_fires b) = let h = (round_one a b).0 in absurd cc
  rounds_one (plain_last a) (plain_over_tasks b) = let h = (round_one a b).0 in absurd cc
  rounds_one (plain_last a) (plain_eleventh b g) = let h = (round_one a b).0 in absurd cc
  rounds_one (plain_last a) (plain_more b g w) = let h = (round_one a b).0 in absurd cc
  rounds_one (plain_over_fires a) (plain_last b) = let h = (round_one a b).0 in absurd cc
  rounds_one (plain_over_fires a) (plain_over_fires b) = (refl, (round_one a b).1)
  rounds_one (plain_over_fires a) (plain_over_tasks b) = let h = (round_one a b).0 in absurd cc
  rounds_one (plain_over_fires a) (plain_eleventh b g) = let h = (round_one a b).0 in absurd cc
  rounds_one (plain_over_fires a) (plain_more b g w) = let h = (round_one a b).0 in absurd cc
  rounds_one (plain_over_tasks a) (plain_last b) = let h = (round_one a b).0 in absurd cc
  rounds_one (plain_over_tasks a) (plain_over_fires b) = let h = (round_one a b).0 in absurd cc
  rounds_one (plain_over_tasks a) (plain_over_tasks b) = (refl, (round_one a b).1)
  rounds_one (plain_over_tasks a) (plain_eleventh b g) = let h = (round_one a b).0 in absurd cc
  rounds_one (plain_over_tasks a) (plain_more b g w) = let h = (round_one a b).0 in absurd cc
  rounds_one (plain_eleventh a h) (plain_last b) = let i = (round_one a b).0 in absurd cc
  rounds_one (plain_eleventh a h) (plain_over_fires b) = let i = (round_one a b).0 in absurd cc
  rounds_one (plain_eleventh a h) (plain_over_tasks b) = let i = (round_one a b).0 in absurd cc
  rounds_one (plain_eleventh a h) (plain_eleventh b g) = (refl, (round_one a b).1)
  rounds_one (plain_eleventh a h) (plain_more b g w) = let i = ap (λ p. p.dirty_rounds) (round_one a b).1 in absurd (omega arith)
  rounds_one (plain_more a h v) (plain_last b) = let i = (round_one a b).0 in absurd cc
  rounds_one (plain_more a h v) (plain_over_fires b) = let i = (round_one a b).0 in absurd cc
  rounds_one (plain_more a h v) (plain_over_tasks b) = let i = (round_one a b).0 in absurd cc
  rounds_one (plain_more a h v) (plain_eleventh b g) = let i = ap (λ p. p.dirty_rounds) (round_one a b).1 in absurd (omega arith)
  rounds_one {r = r} {f = f} (plain_more a h v) (plain_more b g w) = rounds_one v (subst (λ s. PlainRounds m s f r) (sym (round_one a b).1) w)

  handed_same : (x y : Plain S) (o u : Option (Fault × ℕ)) → x ≡ y → m.handed (m.settled x.state) ≡ o → m.handed (m.settled y.state) ≡ u → o ≡ u
  handed_same x y o u e f g = sym f ∙ ap (λ p. m.handed (m.settled p.state)) e ∙ g

  settled_same : (x y : Plain S) → x ≡ y → with_state x (m.settled x.state) ≡ with_state y (m.settled y.state)
  settled_same x y e = ap (λ p. with_state p (m.settled p.state)) e

  failed_same : (x y : Plain S) → x ≡ y → with_state x (m.failed x.state) ≡ with_state y (m.failed y.state)
  failed_same x y e = ap (λ p. with_state p (m.failed p.state)) e

  pub digest_one : {s : S} {p q : Plain S} {r u : Result (ℕ × ℕ) DigestFault} → PlainDigests m s r p → PlainDigests m s u q → (r ≡ u) × (p ≡ q)
  digest_one (plain_ok {p = x} a h) (plain_ok {p = y} b g) = let e = (rounds_one a b).1 in (ap (λ p. Ok (p.rounds, p.fires)) e, settled_same x y e)
  digest_one (plain_ok {p = x} a h) (plain_faulted {p = y} b g) = let i = handed_same x y _ _ (rounds_one a b).1 h g in absurd cc
  digest_one (plain_ok a h) (plain_infdig b) = let i = (rounds_one a b).0 in absurd cc
  digest_one (plain_ok a h) (plain_fire_limit b) = let i = (rounds_one a b).0 in absurd cc
  digest_one (plain_ok a h) (plain_async_limit b) = let i = (rounds_one a b).0 in absurd cc
  digest_one (plain_faulted {p = x} a h) (plain_ok {p = y} b g) = let i = handed_same x y _ _ (rounds_one a b).1 h g in absurd cc
  digest_one (plain_faulted {p = x} {first = f} {count = n} a h) (plain_faulted {p = y} b g) =
      let e = (rounds_one a b).1 in
      (ap (λ o. let t = unwrap_or o (f, n) in Err (fault.Faulted t.0 t.1)) (handed_same x y _ _ e h g), settled_same x y e)
  digest_one (plain_faulted a h) (plain_infdig b) = let i = (rounds_one a b).0 in absurd cc
  digest_one (plain_faulted a h) (plain_fire_limit b) = let i = (rounds_one a b).0 in absurd cc
  digest_one (plain_faulted a h) (plain_async_limit b) = let i = (rounds_one a b).0 in absurd cc
  digest_one (plain_infdig a) (plain_ok b g) = let i = (rounds_one a b).0 in absurd cc
  digest_one (plain_infdig a) (plain_faulted b g) = let i = (rounds_one a b).0 in absurd cc
  digest_one (plain_infdig {p = x} a) (plain_infdig {p = y} b) = (refl, failed_same x y (rounds_one a b).1)
  digest_one (plain_infdig a) (plain_fire_limit b) = let i = (rounds_one a b).0 in absurd cc
  digest_one (plain_infdig a) (plain_async_limit b) = let i = (rounds_one a b).0 in absurd cc
  digest_one (plain_fire_limit a) (plain_ok b g) = let i = (rounds_one a b).0 in absurd cc
  digest_one (plain_fire_limit a) (plain_faulted b g) = let i = (rounds_one a b).0 in absurd cc
  digest_one (plain_fire_limit a) (plain_infdig b) = let i = (rounds_one a b).0 in absurd cc
  digest_one (plain_fire_limit {p = x} a) (plain_fire_limit {p = y} b) = (refl, failed_same x y (rounds_one a b).1)
  digest_one (plain_fire_limit a) (plain_async_limit b) = let i = (rounds_one a b).0 in absurd cc
  digest_one (plain_async_limit a) (plain_ok b g) = let i = (rounds_one a b).0 in absurd cc
  digest_one (plain_async_limit a) (plain_faulted b g) = let i = (rounds_one a b).0 in absurd cc
  digest_one (plain_async_limit a) (plain_infdig b) = let i = (rounds_one a b).0 in absurd cc
  digest_one (plain_async_limit a) (plain_fire_limit b) = let i = (rounds_one a b).0 in absurd cc
  digest_one (plain_async_limit {p = x} a) (plain_async_limit {p = y} b) = (refl, failed_same x y (rounds_one a b).1)

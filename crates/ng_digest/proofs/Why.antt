-- Each answer of a digest exactly by its cause.
use Rattle.std.proofs.Common.{◌≡◌, ◌↔◌, ℕ, refl, sym, ap, ◌∙◌, arith, Some, None, Result, Err, IsOk, IfOk, unwrap_or}
use Rattle.ng_base.specs.declared.fault.Fault.{Fault}
use Rattle.ng_digest.specs.declared.log.Report.{Report}
use Rattle.ng_digest.specs.declared.rounds.DigestFault.{DigestFault}
use Rattle.ng_digest.specs.declared.rounds.DigestFault.TheVariants as fault
use Rattle.ng_digest.specs.declared.rounds.End.{End}
use Rattle.ng_digest.specs.Log.{zero_log}
use Rattle.ng_digest.specs.Machine.{Machine}
use Rattle.ng_digest.specs.Laws.{HasLaws}
use Rattle.ng_digest.specs.Place.{Place}
use Rattle.ng_digest.specs.Causes.{Unless, IsOverFires, IsOverTasks, HasSettled, IsReport}
use Rattle.ng_digest.specs.Short.{Rounds, Digests, gives_report, gives_faulted, gives_infdig, gives_fire_limit, gives_async_limit, gives_memory}
use Rattle.ng_digest.proofs.Counts.{Went, what_went}

module _ {S K : Type 0} (m : Machine S K) where
  went : {p q : Place S K} {e : End} → Rounds m p e q → p.log ≡ zero_log → Went m e q
  went d z = what_went m d (omega (arith, ap (λ l. l.dirty_rounds) z)) (omega (arith, ap (λ l. l.tasks) z)) (omega (arith, ap (λ l. l.fires) z))

  pub why_infdig : {p q : Place S K} {r : Result Report DigestFault} → Digests m p r q → p.log ≡ zero_log → Unless r (r ≡ Err fault.Infdig ↔ q.log.dirty_rounds ≡ 11)
  why_infdig (gives_report d h) z = let w = went d z in (λ e. cc, λ e. absurd (omega arith))
  why_infdig (gives_faulted d h) z = let w = went d z in (λ e. cc, λ e. absurd (omega arith))
  why_infdig (gives_infdig d) z = let w = went d z in (λ e. w.0, λ e. refl)
  why_infdig (gives_fire_limit d) z = let w = went d z in (λ e. cc, λ e. absurd (omega arith))
  why_infdig (gives_async_limit d) z = let w = went d z in (λ e. cc, λ e. absurd (omega arith))
  why_infdig gives_memory z = tt

  pub why_fire_limit : {p q : Place S K} {r : Result Report DigestFault} → Digests m p r q → p.log ≡ zero_log → Unless r (r ≡ Err fault.FireLimit ↔ IsOverFires q)
  why_fire_limit (gives_report d h) z = (λ e. cc, λ e. let s = e.1 in cc)
  why_fire_limit (gives_faulted d h) z = (λ e. cc, λ e. let s = e.1 in cc)
  why_fire_limit (gives_infdig d) z = let w = went d z in (λ e. cc, λ e. let s = sym w.1 ∙ e.1 in cc)
  why_fire_limit (gives_fire_limit d) z = let w = went d z in (λ e. (w.1, w.2), λ e. refl)
  why_fire_limit (gives_async_limit d) z = let w = went d z in (λ e. cc, λ e. let s = sym w.2 ∙ e.1 in cc)
  why_fire_limit gives_memory z = tt

  pub why_async_limit : HasLaws m → {p q : Place S K} {r : Result Report DigestFault} → Digests m p r q → p.log ≡ zero_log → Unless r (r ≡ Err fault.AsyncLimit ↔ IsOverTasks m q)
  why_async_limit laws (gives_report d h) z = (λ e. cc, λ e. let s = e.1 in cc)
  why_async_limit laws (gives_faulted d h) z = (λ e. cc, λ e. let s = e.1 in cc)
  why_async_limit laws (gives_infdig d) z = let w = went d z in (λ e. cc, λ e. let s = sym w.1 ∙ e.1 in cc)
  why_async_limit laws (gives_fire_limit d) z = let w = went d z in (λ e. cc, λ e. let s = sym w.2 ∙ e.1 in cc)
  why_async_limit laws (gives_async_limit {q = x} d) z = let w = went d z in (λ e. (w.1, w.2, laws.tasks_stay x.state ∙ w.3), λ e. refl)
  why_async_limit laws gives_memory z = tt

  pub why_faulted : {p q : Place S K} {r : Result Report DigestFault} → Digests m p r q → p.log ≡ zero_log → Unless r ((first : Fault) (count : ℕ) → r ≡ Err (fault.Faulted first count) ↔ HasSettled m (Some (first, count)) q)
  why_faulted (gives_report d h) z = λ first count. (λ e. cc, λ e. let s = sym h ∙ e.1 in cc)
  why_faulted (gives_faulted {first = f} {count = n} d h) z = λ first count. (λ e. (refl, h ∙ (let a : f ≡ first = cc in let b : n ≡ count = cc in ap (λ x. Some (x, n)) a ∙ ap (λ y. Some (first, y)) b)), λ e. ap (λ o. let t = unwrap_or o (f, n) in Err (fault.Faulted t.0 t.1)) (sym h ∙ e.1))
  why_faulted (gives_infdig d) z = λ first count. let w = went d z in (λ e. cc, λ e. let s = sym w.1 ∙ e.0 in cc)
  why_faulted (gives_fire_limit d) z = λ first count. let w = went d z in (λ e. cc, λ e. let s = sym w.2 ∙ e.0 in cc)
  why_faulted (gives_async_limit d) z = λ first count. let w = went d z in (λ e. cc, λ e. let s = sym w.2 ∙ e.0 in cc)
  why_faulted gives_memory z = tt

  pub why_settled : {p q : Place S K} {r : Result Report DigestFault} → Digests m p r q → p.log ≡ zero_log → Unless r (IsOk r ↔ HasSettled m None q)
  why_settled (gives_report d h) z = (λ e. (refl, h), λ e. refl)
  why_settled (gives_faulted d h) z = (λ e. cc, λ e. let s = sym h ∙ e.1 in cc)
  why_settled (gives_infdig d) z = let w = went d z in (λ e. cc, λ e. let s = sym w.1 ∙ e.0 in cc)
  why_settled (gives_fire_limit d) z = let w = went d z in (λ e. cc, λ e. let s = sym w.2 ∙ e.0 in cc)
  why_settled (gives_async_limit d) z = let w = went d z in (λ e. cc, λ e. let s = sym w.2 ∙ e.0 in cc)
  why_settled gives_memory z = tt

  pub why_report : {p q : Place S K} {r : Result Report DigestFault} → Digests m p r q → IfOk r (λ report. IsReport report q.log)
  why_report (gives_report d h) = (refl, refl, refl)
  why_report (gives_faulted d h) = tt
  why_report (gives_infdig d) = tt
  why_report (gives_fire_limit d) = tt
  why_report (gives_async_limit d) = tt
  why_report gives_memory = tt

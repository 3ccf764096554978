-- Where a world stands after each call.
use Rattle.std.proofs.Common.{refl, ◌≡◌, ◌≢◌, ◌⊎◌, inl, inr, Bool, true, false, sym, subst, ap, ◌∙◌}
use Rattle.ng_digest.specs.Machine.{Machine, Verdict, found_clean, found_dirty, found_faulted}
use Rattle.ng_digest.specs.Place.{Place, MayAdvance, after_task, stage_tested, Answers}
use Rattle.ng_digest.specs.declared.world.Tested.{Tested}
use Rattle.ng_digest.specs.declared.world.Tested.TheVariants.{Clean, Faulted}
use Rattle.ng_digest.specs.declared.world.Stage.{Stage}
use Rattle.ng_digest.specs.declared.world.Stage.TheVariants.{Passed, Through}

pub may_advance : (s : Stage) (b : Bool) → s ≡ Passed → MayAdvance s b
may_advance s b e = subst (λ t. MayAdvance t b) (sym e) tt

-- a task ran where one waited
pub task_ran : {S K : Type 0} (m : Machine S K) (p q : Place S K) (ran : Bool) → ran ≡ m.waits p.state → m.waits p.state ≡ true → q ≡ after_task ran m p → q ≡ after_task true m p
task_ran m p q ran e w s = s ∙ ap (λ b. after_task b m p) (e ∙ w)

-- what was answered Clean or Faulted was not found dirty
pub not_dirty : (v : Verdict) (t : Tested) → (t ≡ Clean) ⊎ (t ≡ Faulted) → Answers v t → v ≢ found_dirty
not_dirty v t (inl e) a d = let h = subst (Answers v) e a in cc
not_dirty v t (inr e) a d = let h = subst (Answers v) e a in cc

-- a key that is not dirty is passed, unless it is the remembered one
pub passed_after : (same : Bool) (v : Verdict) → v ≢ found_dirty → same ≡ false → stage_tested same v ≡ Passed
passed_after same found_clean n f = ap (λ b. stage_tested b found_clean) f
passed_after same found_faulted n f = ap (λ b. stage_tested b found_faulted) f
passed_after same found_dirty n f = absurd (n refl)

pub through_after : (same : Bool) (v : Verdict) → v ≢ found_dirty → same ≡ true → stage_tested same v ≡ Through
through_after same found_clean n f = ap (λ b. stage_tested b found_clean) f
through_after same found_faulted n f = ap (λ b. stage_tested b found_faulted) f
through_after same found_dirty n f = absurd (n refl)

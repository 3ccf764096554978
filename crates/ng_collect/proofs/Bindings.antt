-- What the reader of bindings tells of a text.
use Rattle.std.proofs.Common.{◌≡◌, ℕ, List, Result, Ok, Err, refl, subst}
use Rattle.std.specs.Prelude.{IfOk, IfErr, MatchBool}
use Rattle.ng_base.specs.Meets.{Meets}
use Rattle.ng_base.specs.declared.fault.Memory.TheVariants.{Refused}
use Rattle.ng_bind.specs.Reading.{is_free}
use Rattle.ng_bind.specs.Written.{IsWritten}
use Rattle.ng_bind.specs.declared.spec.BindFault.{BindFault}
use Rattle.ng_bind.specs.declared.spec.BindFault.TheVariants as reading
use Rattle.ng_bind.specs.declared.spec.Spec.{Spec}
use Rattle.ng_collect.specs.Definitions.{IsBinding, judgement}

judged_at : (text : List ℕ) (r : Result Spec BindFault) → IfOk r (IsWritten text) → ((s : Spec) → IsWritten text s → Meets is_free (Ok s) r)
    → IfOk (judgement r) (λ b. MatchBool b (IsBinding text) (¬ IsBinding text))
judged_at text (Ok s) read written = (s, read)
judged_at text (Err reading.BadBinding) read written = λ (s, w). let e = written s w refl in absurd (cc)
judged_at text (Err (reading.Memory m)) read written = tt

pub judged_binding : (text shown : List ℕ) (r : Result Spec BindFault) → shown ≡ text → IfOk r (IsWritten shown) → ((s : Spec) → IsWritten shown s → Meets is_free (Ok s) r)
    → IfOk (judgement r) (λ b. MatchBool b (IsBinding text) (¬ IsBinding text))
judged_binding text shown r e read written =
    subst (λ t. IfOk (judgement r) (λ b. MatchBool b (IsBinding t) (¬ IsBinding t))) e (judged_at shown r read written)

pub judged_refused : (r : Result Spec BindFault) → IfErr (judgement r) (λ e. e ≡ Refused)
judged_refused (Ok s) = tt
judged_refused (Err reading.BadBinding) = tt
judged_refused (Err (reading.Memory m)) = refl

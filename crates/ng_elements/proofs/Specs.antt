-- What is read of the text of a binding.
use Rattle.std.proofs.Common.{◌≡◌, ℕ, List, None, Result, Ok, Err, refl, ap, sym, ◌∙◌}
use Rattle.std.specs.Prelude.{IfOk}
use Rattle.ng_base.specs.Meets.{Meets}
use Rattle.ng_bind.specs.Reading.{is_free, spec_in}
use Rattle.ng_bind.specs.Written.{IsWritten}
use Rattle.ng_bind.specs.declared.spec.BindFault.{BindFault}
use Rattle.ng_bind.specs.declared.spec.BindFault.TheVariants.{BadBinding, Memory}
use Rattle.ng_bind.specs.declared.spec.Spec.{Spec}
use Rattle.ng_bind.proofs.ReadWritten.{written_read, read_written}
use Rattle.ng_elements.specs.ReadOf.{IsSpec}
use Rattle.ng_elements.specs.Using.{spec_of}

pub spec_is : (t cs : List ℕ) (r : Result Spec BindFault) → cs ≡ t → IfOk r (IsWritten cs) → ((s : Spec) → IsWritten cs s → Meets is_free (Ok s) r) → IsSpec (spec_of (spec_in t)) r
spec_is t cs (Ok s) e read written = ap (λ x. spec_of (spec_in x)) (sym e) ∙ ap spec_of (written_read cs s read)
spec_is t cs (Err BadBinding) e read written = ap (λ x. spec_of (spec_in x)) (sym e) ∙ by (spec_in cs) refl
  where
    by : (x : Result Spec BindFault) → spec_in cs ≡ x → spec_of x ≡ None
    by (Ok s) is = let two : Ok s ≡ Err BadBinding = written s (read_written cs s is) refl in absurd (cc)
    by (Err f) is = refl
spec_is t cs (Err (Memory m)) e read written = tt

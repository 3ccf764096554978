-- What the rounds and what came after them make of a whole digest.
use Rattle.std.proofs.Common.{◌≡◌, sym, subst, ◌∙◌, Bool, Result, Ok, Err}
use Rattle.ng_digest.specs.declared.log.Report.{Report}
use Rattle.ng_digest.specs.declared.rounds.DigestFault.{DigestFault}
use Rattle.ng_digest.specs.declared.rounds.DigestFault.TheVariants as fault
use Rattle.ng_digest.specs.declared.rounds.End.TheVariants.{Settled}
use Rattle.ng_digest.specs.Log.{report_of}
use Rattle.ng_digest.specs.Machine.{Machine}
use Rattle.ng_digest.specs.Place.{Place, posted}
use Rattle.ng_digest.specs.Short.{Rounds, Digests, gives_report, gives_faulted, gives_memory}
use Rattle.ng_digest.specs.Ends.{Finishes}

module _ {S K : Type 0} (m : Machine S K) where
  pub finished : (p x q : Place S K) (cut : Bool) (report : Report) (r : Result Report DigestFault) → Rounds m p (Settled cut) x → report ≡ report_of x.log cut → Finishes m x report r q → Digests m p r q
  finished p x q cut report (Ok told) d e f =
      subst (λ y. Digests m p (Ok told) y) (sym f.1) (subst (λ y. Digests m p (Ok y) (posted m x)) (sym (f.0 ∙ e)) (gives_report {cut = cut} d f.2))
  finished p x q cut report (Err (fault.Faulted first count)) d e f =
      subst (λ y. Digests m p (Err (fault.Faulted first count)) y) (sym f.0) (gives_faulted {cut = cut} d f.1)
  finished p x q cut report (Err (fault.Memory n)) d e f = gives_memory
  finished p x q cut report (Err fault.Infdig) d e f = absurd f
  finished p x q cut report (Err fault.FireLimit) d e f = absurd f
  finished p x q cut report (Err fault.AsyncLimit) d e f = absurd f

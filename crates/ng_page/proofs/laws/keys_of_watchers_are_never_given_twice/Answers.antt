use Rattle.std.proofs.Common.{refl}
use Rattle.ng_changes.proofs.RisingPrograms.{does-rises}
use Rattle.ng_page.proofs.Lasting.{steps_last, linked_anew}
use Rattle.ng_page.proofs.laws.keys_of_watchers_are_never_given_twice.Goals as goal

pub returns : goal.returns
returns c = record {
  linked = linked_anew;
  declared = λ scope kind watched body s. (refl, refl);
  programs = λ room a c. (does-rises room a c).0;
  steps = (λ a s o t h. (steps_last.0 a s o t h).serial, λ x n s os t h. (steps_last.1 x n s os t h).serial);
}

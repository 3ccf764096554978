use Rattle.ng_pure.proofs.Whole.{pure_law}
use Rattle.ng_pure.proofs.laws.running_a_pure_program_is_evaluating_it.Goals as goal

pub returns : goal.returns
returns c = pure_law

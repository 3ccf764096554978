use Rattle.ng_laws.proofs.Cutting.{turns_are_cut}
use Rattle.ng_laws.proofs.Found.{each_has_turns}
use Rattle.ng_laws.proofs.holes.turns_are_cut.Goals as goal

pub returns-clause-cut : goal.returns-clause-cut
returns-clause-cut c = turns_are_cut

pub returns-clause-each : goal.returns-clause-each
returns-clause-each c = each_has_turns

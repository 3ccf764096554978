use Rattle.ng_act_laws.proofs.ActLaws.{name_law}
use Rattle.ng_act_laws.proofs.laws.bare_names_are_written_here.Goals as goal

pub returns : goal.returns
returns c = name_law

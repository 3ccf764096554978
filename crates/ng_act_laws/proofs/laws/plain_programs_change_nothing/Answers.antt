use Rattle.ng_act_laws.proofs.Plain.{plain_law}
use Rattle.ng_act_laws.proofs.laws.plain_programs_change_nothing.Goals as goal

pub returns : goal.returns
returns c = plain_law

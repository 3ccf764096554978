use Rattle.ng_act_laws.proofs.ActLaws.{gone_law}
use Rattle.ng_act_laws.proofs.laws.gone_listeners_stay_gone.Goals as goal

pub returns : goal.returns
returns c = gone_law

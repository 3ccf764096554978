use Rattle.ng_act_laws.proofs.Whole.{silent_law}
use Rattle.ng_act_laws.proofs.laws.destroyed_scopes_are_silent.Goals as goal

pub returns : goal.returns
returns c = silent_law

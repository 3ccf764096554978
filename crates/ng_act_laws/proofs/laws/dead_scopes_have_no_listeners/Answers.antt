use Rattle.ng_act_laws.proofs.Whole.{whole_law}
use Rattle.ng_act_laws.proofs.laws.dead_scopes_have_no_listeners.Goals as goal

pub returns : goal.returns
returns c = whole_law

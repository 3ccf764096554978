use Rattle.ng_act_laws.proofs.ActLaws.{destroy_law}
use Rattle.ng_act_laws.proofs.laws.destroyed_scopes_are_dead.Goals as goal

pub returns : goal.returns
returns c = destroy_law

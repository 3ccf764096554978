use Rattle.ng_act_laws.proofs.Copied.{event_law}
use Rattle.ng_act_laws.proofs.laws.each_listener_has_one_turn.Goals as goal

pub returns : goal.returns
returns c = event_law

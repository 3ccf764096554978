use Rattle.ng_act_laws.proofs.Whole.{watch_law}
use Rattle.ng_act_laws.proofs.laws.watches_leave_with_their_scope.Goals as goal

pub returns : goal.returns
returns c = watch_law

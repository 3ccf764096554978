use Rattle.ng_link.proofs.BodiesChanged.{bodies_changed}
use Rattle.ng_link.proofs.laws.bodies_changed.Goals as goal

pub returns : goal.returns
returns c = bodies_changed

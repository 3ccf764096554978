use Rattle.ng_drawing.proofs.FreshInstances.{fresh_instance}
use Rattle.ng_drawing.proofs.laws.fresh_instance_is_rendering.Goals as goal

pub returns : goal.returns
returns c = λ objects scopes i h. fresh_instance objects scopes i h

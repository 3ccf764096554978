use Rattle.ng_drawing.proofs.Fresh.{fresh_parts}
use Rattle.ng_drawing.proofs.laws.fresh_drawing_is_rendering.Goals as goal

pub returns : goal.returns
returns c = λ look groups now groups_now parts fresh full. fresh_parts look now fresh groups groups_now full parts

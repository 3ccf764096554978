use Rattle.ng_drawing.proofs.Counted.{drawn_nodes}
use Rattle.ng_drawing.proofs.laws.drawing_has_its_nodes.Goals as goal

pub returns : goal.returns
returns c = drawn_nodes

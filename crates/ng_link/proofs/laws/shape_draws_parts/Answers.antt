use Rattle.ng_link.proofs.LinkedLooks.{shape_draws}
use Rattle.ng_link.proofs.laws.shape_draws_parts.Goals as goal

pub returns : goal.returns
returns c = λ keys v n groups ps. shape_draws keys v groups n ps

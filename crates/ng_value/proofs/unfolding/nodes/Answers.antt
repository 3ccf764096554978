use Rattle.std.proofs.Common.{refl}
use Rattle.ng_language.specs.Unfolding.{node_limit}
use Rattle.ng_value.proofs.unfolding.nodes.Goals as goal

pub returns : goal.returns
unfolding node_limit
returns c = refl

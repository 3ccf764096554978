use Rattle.ng_behaviour.proofs.ScopeLaws.{tree_law}
use Rattle.ng_behaviour.proofs.laws.trees_stay_trees.Goals as goal

pub returns : goal.returns
returns c = tree_law

use Rattle.ng_dom.proofs.Touching.{same_set}
use Rattle.ng_dom.proofs.nodes.drop_attribute.Goals as goal

pub returns-in-Some-clause-same : goal.returns-in-Some-clause-same
returns-in-Some-clause-same c = same_set c.args.nodes.now c.args.n c.in-Some.node.now c.drop_attribute.new.node c.in-Some.ensures.value c.drop_attribute.ensures.home

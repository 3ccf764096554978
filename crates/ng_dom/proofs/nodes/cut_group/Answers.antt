use Rattle.ng_dom.proofs.Touching.{same_set}
use Rattle.ng_dom.proofs.nodes.cut_group.Goals as goal

pub returns-in-Some-clause-same : goal.returns-in-Some-clause-same
returns-in-Some-clause-same c = same_set c.args.nodes.now c.args.anchor c.in-Some.node.now c.cut_group.new.node c.in-Some.ensures.value c.cut_group.ensures.home

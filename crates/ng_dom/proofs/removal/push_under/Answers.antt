use Rattle.ng_dom.specs.Removal.{is_under}
use Rattle.ng_dom.specs.Kept.{rooms_of}
use Rattle.ng_dom.proofs.Removing.{chosen-step}
use Rattle.ng_dom.proofs.removal.push_under.Goals as goal

pub loop-n-preserved : goal.loop-n-preserved
loop-n-preserved c = chosen-step (is_under (rooms_of c.args.nodes.now) c.args.parent) c.args.names.now c.loop-n.n-index 0 _ _ _ c.loop-n-test.true c.loop-n.invariant c.in_ok-push_one.ensures

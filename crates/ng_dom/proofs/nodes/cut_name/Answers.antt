use Rattle.ng_dom.specs.Removal.{shape_without}
use Rattle.ng_dom.proofs.Runs.{on_ok}
use Rattle.ng_dom.proofs.Touching.{same_set, rooms_set}
use Rattle.ng_dom.proofs.nodes.cut_name.Goals as goal

pub returns-in-Some-clause-rooms : goal.returns-in-Some-clause-rooms
returns-in-Some-clause-rooms c = on_ok c.cut_name.result (λ is q. rooms_set c.args.nodes.now c.args.parent c.in-Some.node.now c.cut_name.new.node c.in-Some.ensures.value (shape_without c.args.n) is q) c.cut_name.ensures.room

pub returns-in-Some-clause-same : goal.returns-in-Some-clause-same
returns-in-Some-clause-same c = same_set c.args.nodes.now c.args.parent c.in-Some.node.now c.cut_name.new.node c.in-Some.ensures.value c.cut_name.ensures.home

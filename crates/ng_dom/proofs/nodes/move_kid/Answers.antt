use Rattle.ng_dom.specs.Rooms.{shape_with_kids}
use Rattle.ng_dom.specs.Lists.{moved_to}
use Rattle.ng_dom.proofs.Runs.{on_ok}
use Rattle.ng_dom.proofs.Touching.{same_set, rooms_set}
use Rattle.ng_dom.proofs.nodes.move_kid.Goals as goal

pub returns-in-Some-clause-rooms : goal.returns-in-Some-clause-rooms
returns-in-Some-clause-rooms c = on_ok c.move_kid.result (λ is q. rooms_set c.args.nodes.now c.args.parent c.in-Some.node.now c.move_kid.new.node c.in-Some.ensures.value (shape_with_kids (moved_to c.args.i c.args.n)) is q) c.move_kid.ensures.room

pub returns-in-Some-clause-same : goal.returns-in-Some-clause-same
returns-in-Some-clause-same c = same_set c.args.nodes.now c.args.parent c.in-Some.node.now c.move_kid.new.node c.in-Some.ensures.value c.move_kid.ensures.home

use Rattle.ng_dom.specs.Rooms.{shape_with_groups}
use Rattle.ng_dom.specs.Lists.{lists_at}
use Rattle.ng_dom.proofs.Runs.{on_ok}
use Rattle.ng_dom.proofs.Touching.{same_set, rooms_set}
use Rattle.ng_dom.proofs.nodes.pick_groups.Goals as goal

pub returns-in-Some-clause-rooms : goal.returns-in-Some-clause-rooms
returns-in-Some-clause-rooms c = on_ok c.pick_groups.result (λ is q. rooms_set c.args.nodes.now c.args.anchor c.in-Some.node.now c.pick_groups.new.node c.in-Some.ensures.value (shape_with_groups (lists_at c.args.order.now)) is q) c.pick_groups.ensures.room

pub returns-in-Some-clause-same : goal.returns-in-Some-clause-same
returns-in-Some-clause-same c = same_set c.args.nodes.now c.args.anchor c.in-Some.node.now c.pick_groups.new.node c.in-Some.ensures.value c.pick_groups.ensures.home

use Rattle.ng_dom.specs.Rooms.{shape_with_groups}
use Rattle.ng_dom.specs.Lists.{put_at}
use Rattle.ng_dom.proofs.Runs.{on_ok}
use Rattle.ng_dom.proofs.Touching.{same_set, rooms_set}
use Rattle.ng_dom.proofs.nodes.put_group.Goals as goal

pub returns-in-Some-clause-rooms : goal.returns-in-Some-clause-rooms
returns-in-Some-clause-rooms c = on_ok c.put_group.result (λ is q. rooms_set c.args.nodes.now c.args.anchor c.in-Some.node.now c.put_group.new.node c.in-Some.ensures.value (shape_with_groups (put_at c.args.i c.args.group.items)) is q) c.put_group.ensures.room

pub returns-in-Some-clause-same : goal.returns-in-Some-clause-same
returns-in-Some-clause-same c = same_set c.args.nodes.now c.args.anchor c.in-Some.node.now c.put_group.new.node c.in-Some.ensures.value c.put_group.ensures.home

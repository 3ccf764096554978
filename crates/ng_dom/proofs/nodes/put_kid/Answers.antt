use Rattle.ng_dom.specs.Rooms.{shape_with_kids}
use Rattle.ng_dom.specs.Lists.{put_at}
use Rattle.ng_dom.proofs.Runs.{on_ok}
use Rattle.ng_dom.proofs.Touching.{same_set, rooms_set, rooms_kept, on_err}
use Rattle.ng_dom.proofs.nodes.put_kid.Goals as goal

pub returns-in-Some-clause-rooms : goal.returns-in-Some-clause-rooms
returns-in-Some-clause-rooms c = on_ok c.put_kid.result (λ is q. rooms_set c.args.nodes.now c.args.parent c.in-Some.node.now c.put_kid.new.node c.in-Some.ensures.value (shape_with_kids (put_at c.args.i c.args.n)) is q) c.put_kid.ensures.room

pub returns-in-Some-clause-same : goal.returns-in-Some-clause-same
returns-in-Some-clause-same c = same_set c.args.nodes.now c.args.parent c.in-Some.node.now c.put_kid.new.node c.in-Some.ensures.value c.put_kid.ensures.home

pub returns-in-Some-clause-err : goal.returns-in-Some-clause-err
returns-in-Some-clause-err c = on_err c.put_kid.result (λ is q. rooms_kept c.args.nodes.now c.args.parent c.in-Some.node.now c.put_kid.new.node c.in-Some.ensures.value is q) c.put_kid.ensures.err

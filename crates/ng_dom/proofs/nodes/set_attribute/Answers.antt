use Rattle.ng_dom.specs.Rooms.{shape_with_attributes}
use Rattle.ng_dom.specs.Editing.{attribute_set}
use Rattle.ng_dom.proofs.Runs.{on_ok}
use Rattle.ng_dom.proofs.Touching.{same_set, rooms_set}
use Rattle.ng_dom.proofs.nodes.set_attribute.Goals as goal

pub returns-in-Some-clause-rooms : goal.returns-in-Some-clause-rooms
returns-in-Some-clause-rooms c = on_ok c.set_attribute.result (λ is q. rooms_set c.args.nodes.now c.args.n c.in-Some.node.now c.set_attribute.new.node c.in-Some.ensures.value (shape_with_attributes (attribute_set c.args.name.now c.args.v)) is q) c.set_attribute.ensures.room

pub returns-in-Some-clause-same : goal.returns-in-Some-clause-same
returns-in-Some-clause-same c = same_set c.args.nodes.now c.args.n c.in-Some.node.now c.set_attribute.new.node c.in-Some.ensures.value c.set_attribute.ensures.home

use Rattle.ng_dom.specs.Document.{rooms}
use Rattle.ng_dom.proofs.Groups.{group_put}
use Rattle.ng_dom.proofs.dom.Dom.insert_group.Goals as goal

pub returns-clause-reads : goal.returns-clause-reads
returns-clause-reads c = λ piece e reads. group_put (rooms c.args.self.now) _ c.args.anchor.made.0 c.args.at c.args.group.nodes.items piece e reads c.in_ok-put_group.ensures.rooms

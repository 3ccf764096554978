use Rattle.ng_dom.specs.Document.{rooms}
use Rattle.ng_dom.proofs.Groups.{group_cut}
use Rattle.ng_dom.proofs.dom.Dom.cut_group.Goals as goal

pub returns-clause-reads : goal.returns-clause-reads
returns-clause-reads c = group_cut (rooms c.args.self.now) _ c.args.anchor.made.0 c.args.at c.cut_group.ensures.rooms

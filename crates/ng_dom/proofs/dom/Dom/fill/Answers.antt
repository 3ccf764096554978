use Rattle.ng_dom.specs.Document.{rooms}
use Rattle.ng_dom.proofs.Filling.{kids_filled}
use Rattle.ng_dom.proofs.dom.Dom.fill.Goals as goal

pub returns-clause-reads : goal.returns-clause-reads
returns-clause-reads c = λ piece e reads. kids_filled piece c.args.kids.nodes.items e (rooms c.args.self.now) _ c.args.n.made.0 reads c.fill.ensures.rooms

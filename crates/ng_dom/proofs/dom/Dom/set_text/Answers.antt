use Rattle.ng_dom.proofs.Changes.{text_reads}
use Rattle.ng_dom.specs.Document.{rooms}
use Rattle.ng_dom.proofs.dom.Dom.set_text.Goals as goal

pub returns-clause-reads : goal.returns-clause-reads
returns-clause-reads c = λ p f h. text_reads c.args.n.made.0 c.args.t (rooms c.args.self.now) _ c.tell.ensures.rooms p f h

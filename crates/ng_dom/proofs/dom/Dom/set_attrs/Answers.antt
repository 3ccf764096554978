use Rattle.ng_dom.proofs.Changes.{attributes_read}
use Rattle.ng_dom.specs.Document.{rooms}
use Rattle.ng_dom.proofs.dom.Dom.set_attrs.Goals as goal

pub returns-clause-reads : goal.returns-clause-reads
returns-clause-reads c = λ p f h. attributes_read (λ _. c.args.ats.entries) c.args.n.made.0 (rooms c.args.self.now) _ c.replace_attributes.ensures.rooms p f h

use Rattle.ng_dom.proofs.Changes.{attributes_read}
use Rattle.ng_dom.specs.Editing.{attribute_set}
use Rattle.ng_dom.specs.Document.{rooms}
use Rattle.ng_dom.proofs.dom.Dom.set_attr.Goals as goal

pub returns-clause-reads : goal.returns-clause-reads
returns-clause-reads c = λ p f h. attributes_read (attribute_set c.args.name.now c.args.v) c.args.n.made.0 (rooms c.args.self.now) _ c.in_ok-set_attribute.ensures.rooms p f h

use Rattle.std.proofs.Common.{ap, sym, ◌∙◌}
use Rattle.ng_dom.specs.Lists.{among}
use Rattle.ng_dom.specs.Document.{rooms}
use Rattle.ng_dom.proofs.Sparing.{spared, roots_gone}
use Rattle.ng_dom.proofs.dom.Dom.discard.Goals as goal

pub returns-clause-reads : goal.returns-clause-reads
returns-clause-reads c = λ p f h there spares.
    spared c.args.group.nodes.items (rooms c.args.self.now) (rooms c.take_out.new.self) c.in_ok-take_out.ensures.takes p f there spares h

pub returns-clause-gone : goal.returns-clause-gone
returns-clause-gone c = λ p piece e reads.
    let takes = c.in_ok-take_out.ensures.takes in
    roots_gone c.args.group.nodes.items (rooms c.args.self.now) (rooms c.take_out.new.self) takes p piece (λ q k. takes.gone q (ap (among q) (sym e) ∙ k)) reads

use Rattle.std.proofs.Common.{sym, ◌∙◌}
use Rattle.ng_dom.specs.Document.{rooms}
use Rattle.ng_dom.specs.Kept.{rooms_of}
use Rattle.ng_dom.proofs.Emptying.{emptied_reads, group_gone}
use Rattle.ng_dom.proofs.dom.Dom.empty_group.Goals as goal

pub returns-clause-reads : goal.returns-clause-reads
returns-clause-reads c = λ piece e reads apart p f ne h there.
    let took = c.empty_group-names in
    emptied_reads (rooms c.args.self.now) (rooms_of took.new.nodes) (rooms c.take_out.new.self) c.args.anchor.made.0 c.args.at took.result.items piece (e ∙ sym took.ensures.group) took.ensures.group reads took.ensures.rooms c.in_ok-take_out.ensures.takes apart p f ne h there

pub returns-clause-gone : goal.returns-clause-gone
returns-clause-gone c = λ piece e reads.
    let took = c.empty_group-names in
    group_gone (rooms c.args.self.now) (rooms_of took.new.nodes) (rooms c.take_out.new.self) c.args.anchor.made.0 c.args.at took.result.items piece (e ∙ sym took.ensures.group) took.ensures.group reads took.ensures.rooms c.in_ok-take_out.ensures.takes

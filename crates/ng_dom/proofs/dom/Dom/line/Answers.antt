use Rattle.std.proofs.Common.{None, subst, sym, ◌∙◌}
use Rattle.ng_dom.specs.Kept.{rooms_of}
use Rattle.ng_dom.specs.Paths.{StandsIn}
use Rattle.ng_dom.proofs.Once.{one_reading}
use Rattle.ng_dom.proofs.Adding.{room_below}
use Rattle.ng_dom.proofs.Lines.{line_met}
use Rattle.ng_dom.proofs.dom.Dom.line.Goals as goal

pub returns-clause-line : goal.returns-clause-line
returns-clause-line c = λ f shown.
    let d = c.args.self.now in
    let n = c.args.n.made.0 in
    let s = c.requires.stands in
    let r = rooms_of d.nodes in
    let same = one_reading r None s.forest f s.shows.1 shown.1 (sym s.shows.0 ∙ shown.0) in
    c.in_ok-line_up.ensures ∙ line_met r d.next n (room_below d.nodes d.next d.fresh) f shown.1 (subst (StandsIn n) same s.inside)

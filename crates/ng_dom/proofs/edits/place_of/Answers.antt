use Rattle.std.proofs.Common.{rules, sym, ◌∙◌}
use Rattle.ng_dom.proofs.Moving.{found_at}
use Rattle.ng_dom.proofs.edits.place_of.Goals as goal

pub returns-then-names-i : goal.returns-then-names-i
returns-then-names-i c =
    let at = found_at c.args.n c.loop-i.i c.args.names.now 0 c.loop-i-test.true (search rules) in
    (c.loop-i-test.true, sym c.loop-i.invariant.0 ∙ at.0, sym at.1 ∙ c.loop-i.invariant.1)

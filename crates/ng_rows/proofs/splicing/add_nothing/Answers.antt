use Rattle.std.proofs.Common.{◌∙◌, ◌-◌, sym, arith}
use Rattle.ng_rows.proofs.Spliced.{nothing_added, nothing_done}
use Rattle.ng_rows.proofs.splicing.add_nothing.Goals as goal

pub loop-left-preserved : goal.loop-left-preserved
loop-left-preserved c = nothing_added c.loop-left.sources c.push.new.self (c.loop-left.left - 1) c.loop-left.left (omega (arith, c.loop-left-test.true)) c.in_ok-push.ensures.ok ∙ c.loop-left.invariant

pub returns : goal.returns
returns c = sym (nothing_done c.loop-left.sources c.loop-left.left (omega (arith, c.loop-left-test.false))) ∙ c.loop-left.invariant

use Rattle.std.proofs.Common.{◌∙◌, sym, arith}
use Rattle.ng_rows.proofs.Spliced.{place_added, places_done}
use Rattle.ng_rows.proofs.splicing.numbers_between.Goals as goal

pub loop-i-preserved : goal.loop-i-preserved
loop-i-preserved c = place_added c.loop-i.numbers c.push.new.self c.loop-i.i c.args.end c.loop-i-test.true c.in_ok-push.ensures.ok ∙ c.loop-i.invariant

pub returns : goal.returns
returns c = sym (places_done c.loop-i.numbers c.loop-i.i c.args.end (omega (arith, c.loop-i-test.false))) ∙ c.loop-i.invariant

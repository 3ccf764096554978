use Rattle.std.proofs.Common.{◌∙◌, sym, arith}
use Rattle.ng_rows.proofs.Spliced.{source_added, sources_done}
use Rattle.ng_rows.proofs.splicing.add_sources.Goals as goal

pub loop-i-preserved : goal.loop-i-preserved
loop-i-preserved c = source_added c.loop-i.sources c.push.new.self c.loop-i.i c.args.end c.loop-i-test.true c.in_ok-push.ensures.ok ∙ c.loop-i.invariant

pub returns : goal.returns
returns c = sym (sources_done c.loop-i.sources c.loop-i.i c.args.end (omega (arith, c.loop-i-test.false))) ∙ c.loop-i.invariant

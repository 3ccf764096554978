use Rattle.std.proofs.Common.{arith, ◌∙◌}
use Rattle.ng_digest.proofs.Passing.{many_more}
use Rattle.ng_digest.proofs.log.with_more.Goals as goal

pub returns : goal.returns
returns c = c.saturating_add.ensures ∙ many_more c.args.more c.args.count (omega arith)

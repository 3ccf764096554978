use Rattle.std.proofs.Common.{◌∙◌}
use Rattle.ng_dom.proofs.Counting.{live_counted}
use Rattle.ng_dom.proofs.dom.Dom.live.Goals as goal

pub returns-clause-counts : goal.returns-clause-counts
returns-clause-counts c = λ f holds. c.len.ensures.value ∙ live_counted c.args.self.now f c.len.result c.len.ensures.kept holds

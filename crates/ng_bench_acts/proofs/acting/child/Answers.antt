use Rattle.ng_bench_acts.proofs.Children.{named_below}
use Rattle.ng_bench_acts.proofs.acting.child.Goals as goal

pub returns-in-Ok-clause-scopes : goal.returns-in-Ok-clause-scopes
returns-in-Ok-clause-scopes c = named_below _ _ _ _ _ c.in-Ok.scope c.in-Ok.ensures.answer c.in-Ok.ensures.scopes

use Rattle.ng_scopes.proofs.Others.{others-tried}
use Rattle.ng_scopes.proofs.objects.give.Goals as goal

pub returns-clause-others : goal.returns-clause-others
returns-clause-others c = others-tried c.set.result c.args.store.now c.set.new.self c.args.object.0 _ _ c.set.ensures.set c.set.ensures.unchanged

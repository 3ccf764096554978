use Rattle.ng_performing.proofs.Aimed.{fired_stands}
use Rattle.ng_performing.proofs.performing.fire.Goals as goal

pub dispatch-requires-clause-stands : goal.dispatch-requires-clause-stands
dispatch-requires-clause-stands c = λ unspent. fired_stands c.args.page.now c.requires c.args.target.now c.in-Some.node c.in-Some.ensures.found

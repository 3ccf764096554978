use Rattle.std.proofs.Common.{refl}
use Rattle.ng_link.specs.State as link
use Rattle.ng_page.proofs.PassOver.{alone}
use Rattle.ng_page.proofs.passing.arrived_told.Goals as goal

pub returns : goal.returns
returns c =
    let s = link.state_of c.args.engine.now.works in
    (refl, λ last. alone s.core.objects s.watchers last c.args.key.now c.requires.next c.in_ok-walk.ensures.way)

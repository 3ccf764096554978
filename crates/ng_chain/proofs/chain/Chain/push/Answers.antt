use Rattle.std.proofs.Common.{refl}
use Rattle.ng_chain.specs.Slots.{serials}
use Rattle.ng_chain.proofs.Sound.{sound-push}
use Rattle.ng_chain.proofs.Edits.{serials-push, standing-push}
use Rattle.ng_chain.proofs.chain.Chain.push.Goals as goal

pub invariant_of-self : goal.invariant_of-self
invariant_of-self g c =
    rw (c.in-Ok.ensures.items, serials-push c.self.inside.slots.items _)
    (sound-push (serials c.self.inside.slots.items) c.self.inside.last c.self.inside.walks c.self.inside.nexts c.self.invariant)

pub returns-in-Ok-clause-push : goal.returns-in-Ok-clause-push
returns-in-Ok-clause-push g c = rw (← c.self.view_is, c.in-Ok.ensures.items, standing-push c.self.inside.slots.items _) (refl, refl)

use Rattle.std.proofs.Common.{refl}
use Rattle.ng_chain.specs.Slots.{serials}
use Rattle.ng_chain.proofs.Sound.{sound-idle}
use Rattle.ng_chain.proofs.Edits.{ascends-filter, ends-filter, standing-filter}
use Rattle.ng_chain.proofs.chain.Chain.close_holes.Goals as goal

pub invariant_of-self : goal.invariant_of-self
invariant_of-self g c =
    rw c.close_holes.ensures (sound-idle (serials c.self.inside.slots.items) _ c.self.inside.last c.self.inside.walks c.self.inside.nexts c.self.invariant (c.is_idle.ensures.0 c.if-is_idle.true)
    (ascends-filter c.self.inside.slots.items _ 0 c.self.invariant.ascends)
    (ends-filter c.self.inside.slots.items _ c.self.inside.last c.self.invariant.ends))

pub returns-then-is_idle : goal.returns-then-is_idle
returns-then-is_idle g c = rw (← c.self.view_is, c.close_holes.ensures, standing-filter c.self.inside.slots.items) refl

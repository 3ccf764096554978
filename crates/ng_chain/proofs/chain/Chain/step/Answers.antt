use Rattle.std.proofs.Common.{arith, ap, ◌+◌}
use Rattle.ng_chain.specs.Slots.{serials}
use Rattle.ng_chain.proofs.Sound.{sound-walk, knows-step}
use Rattle.ng_chain.proofs.chain.Chain.step.Goals as goal

pub invariant_of-self : goal.invariant_of-self
invariant_of-self g c =
    sound-walk (serials c.self.inside.slots.items) c.self.inside.last c.self.inside.walks c.self.inside.nexts c.args.w.now.slot (c.in_ok-at.at + 1) _ c.self.invariant
    c.args.w.now.within
    (knows-step c.self.inside.slots.items c.in_ok-at.at c.index.result.now.serial c.in-Some.span.end c.self.inside.last c.index.result.now c.self.invariant.ascends c.self.invariant.ends (grind arith) (ap (λ s. s.serial) c.index.ensures))

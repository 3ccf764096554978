use Rattle.std.proofs.Common.{arith, sym}
use Rattle.ng_chain.specs.Slots.{serials}
use Rattle.ng_chain.proofs.Places.{standing-rising, passed-low}
use Rattle.ng_chain.proofs.Sound.{sound-walk}
use Rattle.ng_chain.proofs.chain.Chain.walk.Goals as goal

pub returns-in_err-slot-clause-rising : goal.returns-in_err-slot-clause-rising
returns-in_err-slot-clause-rising g c = rw (← c.self.view_is) (standing-rising c.self.inside.slots.items 0 0 c.self.inside.last (omega arith) c.self.invariant.ascends c.self.invariant.ends)

pub returns-clause-rising : goal.returns-clause-rising
returns-clause-rising g c = rw (← c.self.view_is) (standing-rising c.self.inside.slots.items 0 0 c.self.inside.last (omega arith) c.self.invariant.ascends c.self.invariant.ends)

pub invariant_of-self : goal.invariant_of-self
invariant_of-self g c =
    sound-walk (serials c.self.inside.slots.items) c.self.inside.last c.self.inside.walks c.self.inside.nexts c.in_ok-slot.slot 0 _ c.self.invariant
    (grind arith)
    (omega arith, sym (passed-low 0 0 (serials c.self.inside.slots.items) c.self.invariant.ascends (omega arith)))

use Rattle.std.proofs.Common.{ap}
use Rattle.ng_chain.specs.Slots.{serials}
use Rattle.ng_chain.proofs.Sound.{sound-new}
use Rattle.ng_chain.proofs.chain.Chain.new.Goals as goal

pub invariant_of-result : goal.invariant_of-result
invariant_of-result g c = sound-new (serials c.new.result.items) (ap serials c.new.ensures.items)

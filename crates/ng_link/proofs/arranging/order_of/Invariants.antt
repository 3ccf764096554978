use Rattle.std.proofs.Common.{map, take}
use Rattle.ng_link.specs.Arranging.{AreAt}
use Rattle.ng_instances.specs.InstanceOf.{body_of}
use Rattle.ng_link.proofs.arranging.order_of.Given as goal

abbrev pub invariant-loop-body : goal.invariant-loop-body
invariant-loop-body l = AreAt (map body_of l.old) l.order (map body_of (take l.body-index l.new))

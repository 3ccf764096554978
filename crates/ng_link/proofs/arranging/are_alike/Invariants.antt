use Rattle.std.proofs.Common.{◌≡◌, drop, map}
use Rattle.ng_link.specs.Arranging.{are_alike}
use Rattle.ng_instances.specs.InstanceOf.{body_of}
use Rattle.ng_link.proofs.arranging.are_alike.Given as goal

abbrev pub invariant-loop-i : goal.invariant-loop-i
invariant-loop-i l = are_alike (map body_of (drop l.i l.old)) (map body_of (drop l.i l.new)) ≡ are_alike (map body_of l.old) (map body_of l.new)

use Rattle.std.proofs.Common.{◌≡◌, map, drop}
use Rattle.ng_link.specs.Standing.{held_count}
use Rattle.ng_instances.specs.InstanceOf.{outlet_of}
use Rattle.ng_link.proofs.unlinking.look_for.Given as goal

abbrev pub invariant-loop-o : goal.invariant-loop-o
invariant-loop-o l = held_count l.p (map outlet_of (drop l.o l.outlets)) ≡ held_count l.p (map outlet_of l.outlets)

use Rattle.std.proofs.Common.{◌≡◌, ◌≤◌, length, map, drop}
use Rattle.ng_link.specs.Standing.{body_count}
use Rattle.ng_instances.specs.InstanceOf.{body_of}
use Rattle.ng_link.proofs.unlinking.last_place.Given as goal

abbrev pub invariant-loop-i : goal.invariant-loop-i
invariant-loop-i l = record {
  within : l.i ≤ length l.bodies;
  none : body_count l.p (map body_of (drop l.i l.bodies)) ≡ 0;
}

abbrev pub decreases-loop-i : goal.decreases-loop-i
decreases-loop-i l = l.i

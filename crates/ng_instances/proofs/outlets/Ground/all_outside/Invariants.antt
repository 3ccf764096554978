use Rattle.std.proofs.Common.{◌≡◌, ◌++◌, drop, map}
use Rattle.ng_parts.specs.ActsOf.{outside_of}
use Rattle.ng_instances.specs.BoundOf.{ground_of}
use Rattle.ng_instances.specs.Registering.{outside_in_ground}
use Rattle.ng_instances.proofs.outlets.Ground.all_outside.Given as goal

abbrev pub invariant-loop-outside : goal.invariant-loop-outside
invariant-loop-outside l =
    map (λ s. s.0) l.all.items ++ map (outside_in_ground (ground_of l.self)) (map outside_of (drop l.outside-index l.outsides)) ≡ map (outside_in_ground (ground_of l.self)) (map outside_of l.outsides)

use Rattle.std.proofs.Common.{◌≡◌, ◌++◌, drop, map}
use Rattle.ng_instances.specs.InstanceOf.{body_of}
use Rattle.ng_instances.proofs.filling.copied_bodies.Given as goal

abbrev pub invariant-loop-body : goal.invariant-loop-body
invariant-loop-body l = map body_of l.copies.items ++ map body_of (drop l.body-index l.bodies) ≡ map body_of l.bodies

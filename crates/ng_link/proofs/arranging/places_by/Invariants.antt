use Rattle.std.proofs.Common.{map}
use Rattle.ng_link.specs.Arranging.{ArePlaces}
use Rattle.ng_instances.specs.InstanceOf.{body_of}
use Rattle.ng_link.proofs.arranging.places_by.Given as goal

abbrev pub invariant-loop-i : goal.invariant-loop-i
invariant-loop-i l = ArePlaces (map body_of l.bodies) l.places.entries

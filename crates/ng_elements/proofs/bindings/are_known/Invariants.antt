use Rattle.std.proofs.Common.{◌≡◌, drop}
use Rattle.ng_elements.specs.ReadOf.{properties_of}
use Rattle.ng_elements.specs.Using.{are_known}
use Rattle.ng_elements.proofs.bindings.are_known.Given as goal

abbrev pub invariant-loop-property : goal.invariant-loop-property
invariant-loop-property l = are_known (properties_of (drop l.property-index l.properties)) ≡ are_known (properties_of l.properties)

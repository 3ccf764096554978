use Rattle.std.proofs.Common.{◌≡◌, drop}
use Rattle.ng_elements.specs.ReadOf.{properties_of}
use Rattle.ng_elements.specs.Using.{all_pure}
use Rattle.ng_elements.proofs.bindings.are_pure.Given as goal

abbrev pub invariant-loop-property : goal.invariant-loop-property
invariant-loop-property l = all_pure (properties_of (drop l.property-index l.properties)) ≡ all_pure (properties_of l.properties)

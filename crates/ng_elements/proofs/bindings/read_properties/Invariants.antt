use Rattle.std.proofs.Common.{◌≡◌, drop}
use Rattle.ng_elements.specs.ReadOf.{properties_of}
use Rattle.ng_elements.specs.Using.{properties_read}
use Rattle.ng_elements.proofs.bindings.read_properties.Given as goal

abbrev pub invariant-loop-spec : goal.invariant-loop-spec
invariant-loop-spec l = properties_read l.place l.attrs (properties_of l.properties.items) (drop l.spec-index l.specs) ≡ properties_read l.place l.attrs (properties_of l.initial.properties.items) l.specs

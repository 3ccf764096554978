use Rattle.std.proofs.Common.{◌≡◌, ◌++◌, map, drop}
use Rattle.ng_base.specs.ViewOf.{view_of}
use Rattle.ng_write.specs.Making.{value_in}
use Rattle.ng_core.proofs.binding.values_in.Given as goal

abbrev pub invariant-loop-v : goal.invariant-loop-v
invariant-loop-v l = l.values ++ map value_in (map view_of (drop l.v-index l.given)) ≡ map value_in (map view_of l.given)

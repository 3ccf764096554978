use Rattle.std.proofs.Common.{◌≡◌, ◌++◌, map, decimal}
use Rattle.ng_store.proofs.names.index_names.Given as goal

abbrev pub invariant-loop-i : goal.invariant-loop-i
invariant-loop-i l = l.names ++ map decimal l.i-iterator ≡ map decimal l.indices.keys

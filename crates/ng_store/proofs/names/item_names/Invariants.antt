use Rattle.std.proofs.Common.{◌≡◌, map, decimal}
use Rattle.std.specs.List.{range_with_len}
use Rattle.ng_store.proofs.names.item_names.Given as goal

abbrev pub invariant-loop-i : goal.invariant-loop-i
invariant-loop-i l = l.names ≡ map decimal (range_with_len 0 l.i)

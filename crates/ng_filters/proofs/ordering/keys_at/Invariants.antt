use Rattle.std.proofs.Common.{◌≡◌, ◌++◌, map, drop}
use Rattle.ng_filters.specs.Ordering.{keys_at}
use Rattle.ng_filters.specs.Seen.{seen}
use Rattle.ng_filters.proofs.ordering.keys_at.Given as goal

abbrev pub invariant-loop-p : goal.invariant-loop-p
invariant-loop-p l = l.done.items ++ keys_at l.store (drop l.p-index l.predicates) (seen l.v) ≡ keys_at l.store l.predicates (seen l.v)

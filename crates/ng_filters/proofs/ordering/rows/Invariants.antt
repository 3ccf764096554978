use Rattle.std.proofs.Common.{◌≡◌, ◌++◌, map, drop}
use Rattle.ng_filters.specs.Parts.{items}
use Rattle.ng_filters.specs.Seen.{seen, row_seen, with_keys}
use Rattle.ng_filters.proofs.ordering.rows.Given as goal

abbrev pub invariant-loop-i : goal.invariant-loop-i
invariant-loop-i l = map row_seen l.done.items ++ map (with_keys l.store l.predicates) (drop l.i (items l.store (seen l.v))) ≡ map (with_keys l.store l.predicates) (items l.store (seen l.v))

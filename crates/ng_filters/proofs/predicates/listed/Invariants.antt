use Rattle.std.proofs.Common.{◌≡◌, [], drop}
use Rattle.ng_filters.specs.Parts.{items}
use Rattle.ng_filters.specs.Ordering.{predicates_from}
use Rattle.ng_filters.specs.Seen.{seen}
use Rattle.ng_filters.proofs.predicates.listed.Given as goal

abbrev pub invariant-loop-i : goal.invariant-loop-i
invariant-loop-i l = predicates_from l.done.items (drop l.i (items l.store (seen l.v))) ≡ predicates_from [] (items l.store (seen l.v))

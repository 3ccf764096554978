use Rattle.std.proofs.Common.{◌≡◌, ◌++◌, drop}
use Rattle.ng_filters.specs.Parts.{items}
use Rattle.ng_filters.specs.Seen.{seen, views_seen}
use Rattle.ng_filters.proofs.matching.all_items.Given as goal

abbrev pub invariant-loop-i : goal.invariant-loop-i
invariant-loop-i l = views_seen l.done ++ drop l.i (items l.store (seen l.v)) ≡ items l.store (seen l.v)

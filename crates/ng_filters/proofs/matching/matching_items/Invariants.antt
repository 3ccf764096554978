use Rattle.std.proofs.Common.{◌≡◌, [], drop}
use Rattle.ng_filters.specs.Parts.{items}
use Rattle.ng_filters.specs.Matching.{matching_from}
use Rattle.ng_filters.specs.Seen.{seen, views_seen}
use Rattle.ng_filters.proofs.matching.matching_items.Given as goal

abbrev pub invariant-loop-i : goal.invariant-loop-i
invariant-loop-i l = matching_from l.store (seen l.p) (views_seen l.done) (drop l.i (items l.store (seen l.v))) ≡ matching_from l.store (seen l.p) [] (items l.store (seen l.v))

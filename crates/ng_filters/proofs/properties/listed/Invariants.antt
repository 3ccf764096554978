use Rattle.std.proofs.Common.{◌≡◌, ◌++◌, map, drop}
use Rattle.ng_base.specs.ViewOf.{view_of}
use Rattle.ng_filters.specs.Parts.{indexed}
use Rattle.ng_filters.specs.Seen.{field_seen}
use Rattle.ng_filters.proofs.properties.listed.Given as goal

abbrev pub invariant-loop-i : goal.invariant-loop-i
invariant-loop-i l = map field_seen l.done.items ++ indexed l.i (map view_of (drop l.i l.views)) ≡ indexed 0 (map view_of l.views)

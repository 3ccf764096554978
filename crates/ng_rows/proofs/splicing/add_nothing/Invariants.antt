use Rattle.std.proofs.Common.{◌≡◌, ◌++◌}
use Rattle.ng_rows.specs.Splices.{no_sources}
use Rattle.ng_rows.proofs.splicing.add_nothing.Given as goal

abbrev pub invariant-loop-left : goal.invariant-loop-left
invariant-loop-left l = l.sources ++ no_sources l.left ≡ l.initial.sources ++ no_sources l.count

abbrev pub decreases-loop-left : goal.decreases-loop-left
decreases-loop-left l = l.left

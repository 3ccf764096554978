use Rattle.std.proofs.Common.{◌≡◌, ◌-◌, ◌++◌}
use Rattle.ng_rows.specs.Splices.{sources_on}
use Rattle.ng_rows.proofs.splicing.add_sources.Given as goal

abbrev pub invariant-loop-i : goal.invariant-loop-i
invariant-loop-i l = l.sources ++ sources_on l.i (l.end - l.i) ≡ l.initial.sources ++ sources_on l.first (l.end - l.first)

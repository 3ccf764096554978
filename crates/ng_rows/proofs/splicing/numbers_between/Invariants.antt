use Rattle.std.proofs.Common.{◌≡◌, ◌-◌, ◌++◌}
use Rattle.ng_rows.specs.Splices.{places_on}
use Rattle.ng_rows.proofs.splicing.numbers_between.Given as goal

abbrev pub invariant-loop-i : goal.invariant-loop-i
invariant-loop-i l = l.numbers ++ places_on l.i (l.end - l.i) ≡ places_on l.first (l.end - l.first)

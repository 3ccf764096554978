use Rattle.std.proofs.Common.{◌≡◌, ◌++◌, length}
use Rattle.ng_filters.specs.Numbers.{grouped}
use Rattle.ng_filters.proofs.numbers.push_grouped.Given as goal

abbrev pub invariant-loop-c : goal.invariant-loop-c
invariant-loop-c l = record { left : l.left ≡ length l.reader; same : l.out ++ grouped l.reader ≡ l.initial.out ++ grouped l.initial.reader }

abbrev pub decreases-loop-c : goal.decreases-loop-c
decreases-loop-c l = length l.reader

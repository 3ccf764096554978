use Rattle.std.proofs.Common.{◌≡◌, ◌++◌}
use Rattle.ng_filters.specs.Numbers.{zeros}
use Rattle.ng_filters.proofs.numbers.push_zeros.Given as goal

abbrev pub invariant-loop-left : goal.invariant-loop-left
invariant-loop-left l = l.out ++ zeros l.left ≡ l.initial.out ++ zeros l.count

abbrev pub decreases-loop-left : goal.decreases-loop-left
decreases-loop-left l = l.left

use Rattle.std.proofs.Common.{◌≡◌, ◌++◌, take}
use Rattle.ng_filters.proofs.limits.front.Given as goal

abbrev pub invariant-loop-left : goal.invariant-loop-left
invariant-loop-left l = l.out ++ take l.left l.reader ≡ take l.initial.left l.initial.reader

abbrev pub decreases-loop-left : goal.decreases-loop-left
decreases-loop-left l = l.left

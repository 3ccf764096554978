use Rattle.std.proofs.Common.{◌≡◌, drop}
use Rattle.ng_filters.proofs.limits.past.Given as goal

abbrev pub invariant-loop-left : goal.invariant-loop-left
invariant-loop-left l = drop l.left l.reader ≡ drop l.initial.left l.initial.reader

abbrev pub decreases-loop-left : goal.decreases-loop-left
decreases-loop-left l = l.left

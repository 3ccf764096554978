use Rattle.std.proofs.Common.{◌≡◌, length}
use Rattle.ng_filters.specs.Ordering.{keys_cmp}
use Rattle.ng_filters.proofs.ordering.keys_cmp.Given as goal

abbrev pub invariant-loop-p : goal.invariant-loop-p
invariant-loop-p l = keys_cmp l.reversed l.wanted l.left l.right ≡ keys_cmp l.reversed l.predicates l.a l.b

abbrev pub decreases-loop-p : goal.decreases-loop-p
decreases-loop-p l = length l.wanted

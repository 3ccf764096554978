use Rattle.std.proofs.Common.{◌≡◌, ◌++◌, [], length}
use Rattle.ng_filters.specs.Ordering.{parts_in}
use Rattle.ng_filters.proofs.predicates.parts_in.Given as goal

abbrev pub invariant-loop-c : goal.invariant-loop-c
invariant-loop-c l = l.done ++ parts_in l.part l.reader ≡ parts_in [] l.initial.reader

abbrev pub decreases-loop-c : goal.decreases-loop-c
decreases-loop-c l = length l.reader

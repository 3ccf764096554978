use Rattle.std.proofs.Common.{◌≡◌, length}
use Rattle.ng_filters.specs.Casing.{lower}
use Rattle.ng_filters.specs.Matching.{contains}
use Rattle.ng_filters.proofs.primitives.contains.Given as goal

abbrev pub invariant-loop-rest : goal.invariant-loop-rest
invariant-loop-rest l = contains (lower l.left) (lower l.part) ≡ contains (lower l.initial.left) (lower l.part)

abbrev pub decreases-loop-rest : goal.decreases-loop-rest
decreases-loop-rest l = length l.left

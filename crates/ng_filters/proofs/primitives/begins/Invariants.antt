use Rattle.std.proofs.Common.{◌≡◌, length}
use Rattle.ng_filters.specs.Casing.{lower}
use Rattle.ng_filters.specs.Matching.{begins}
use Rattle.ng_filters.proofs.primitives.begins.Given as goal

abbrev pub invariant-loop-d : goal.invariant-loop-d
invariant-loop-d l = begins (lower l.left) (lower l.wanted) ≡ begins (lower l.text) (lower l.part)

abbrev pub decreases-loop-d : goal.decreases-loop-d
decreases-loop-d l = length l.wanted

use Rattle.std.proofs.Common.{◌≡◌, length, nat_cmp}
use Rattle.std.specs.Cmp.Lexicographic.{slice_cmp}
use Rattle.ng_filters.proofs.keys.text_cmp.Given as goal

abbrev pub invariant-loop-c : goal.invariant-loop-c
invariant-loop-c l = slice_cmp nat_cmp l.left l.right ≡ slice_cmp nat_cmp l.initial.left l.initial.right

abbrev pub decreases-loop-c : goal.decreases-loop-c
decreases-loop-c l = length l.left

use Rattle.std.proofs.Common.{◌≡◌, length, slice_get}
use Rattle.ng_members.proofs.members.char_at.Given as goal

abbrev pub invariant-loop-c : goal.invariant-loop-c
invariant-loop-c l = slice_get l.rest l.left ≡ slice_get l.t l.i

abbrev pub decreases-loop-c : goal.decreases-loop-c
decreases-loop-c l = length l.rest

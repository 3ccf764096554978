use Rattle.std.proofs.Common.{◌≡◌, length}
use Rattle.ng_base.specs.Trimming.{past}
use Rattle.ng_base.proofs.trimming.past.Given as goal

abbrev pub invariant-loop-c : goal.invariant-loop-c
invariant-loop-c g l = past g.C.Class.holds l.reader ≡ past g.C.Class.holds l.initial.reader

abbrev pub decreases-loop-c : goal.decreases-loop-c
decreases-loop-c g l = length l.reader

use Rattle.std.proofs.Common.{◌≡◌, length}
use Rattle.ng_base.specs.Trimming.{without_end}
use Rattle.ng_base.proofs.trimming.without_end.Given as goal

abbrev pub invariant-loop-c : goal.invariant-loop-c
invariant-loop-c g l = without_end g.C.Class.holds l.back ≡ without_end g.C.Class.holds l.initial.back

abbrev pub decreases-loop-c : goal.decreases-loop-c
decreases-loop-c g l = length l.back

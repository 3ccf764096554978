use Rattle.std.proofs.Common.{length}
use Rattle.ng_build.proofs.forgetting.+begins.Given as goal

abbrev pub decreases-begins : goal.decreases-begins
decreases-begins l = length l.u.now

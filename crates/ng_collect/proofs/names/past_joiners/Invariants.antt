use Rattle.std.proofs.Common.{◌≡◌, length}
use Rattle.ng_collect.specs.Names.{past_joiners}
use Rattle.ng_collect.proofs.names.past_joiners.Given as goal

abbrev pub invariant-loop-c : goal.invariant-loop-c
invariant-loop-c l = past_joiners l.name ≡ past_joiners l.initial.name

abbrev pub decreases-loop-c : goal.decreases-loop-c
decreases-loop-c l = length l.name

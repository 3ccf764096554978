use Rattle.std.proofs.Common.{◌≡◌, filter, not, length}
use Rattle.ng_behaviour.specs.Keys.{begins}
use Rattle.ng_build.proofs.forgetting.forget_on.Given as goal

abbrev pub invariant-loop-start : goal.invariant-loop-start
invariant-loop-start g l = filter (λ e. not (begins l.p e.0.path)) l.table.entries ≡ filter (λ e. not (begins l.p e.0.path)) l.initial.table.entries

abbrev pub decreases-loop-start : goal.decreases-loop-start
decreases-loop-start g l = length l.table.entries

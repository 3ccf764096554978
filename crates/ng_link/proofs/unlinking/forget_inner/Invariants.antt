use Rattle.std.proofs.Common.{◌≡◌, filter, not, length}
use Rattle.ng_behaviour.specs.Keys.{begins}
use Rattle.ng_link.proofs.unlinking.forget_inner.Given as goal

abbrev pub invariant-loop-path : goal.invariant-loop-path
invariant-loop-path l = filter (λ e. not (begins l.p e.0)) l.inner.entries ≡ filter (λ e. not (begins l.p e.0)) l.initial.inner.entries

abbrev pub decreases-loop-path : goal.decreases-loop-path
decreases-loop-path l = length l.inner.entries

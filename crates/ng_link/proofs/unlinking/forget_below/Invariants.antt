use Rattle.std.proofs.Common.{◌≡◌, filter, not, length}
use Rattle.ng_behaviour.specs.Keys.{begins}
use Rattle.ng_instances.specs.Instances.{owners_less}
use Rattle.ng_link.proofs.unlinking.forget_below.Given as goal

abbrev pub invariant-loop-path : goal.invariant-loop-path
invariant-loop-path l = record {
  instances : filter (λ e. not (begins l.p e.0)) l.instances.entries ≡ filter (λ e. not (begins l.p e.0)) l.initial.instances.entries;
  owners : owners_less (λ one. one.node) l.p l.instances.entries l.owners.entries ≡ owners_less (λ one. one.node) l.p l.initial.instances.entries l.initial.owners.entries;
}

abbrev pub decreases-loop-path : goal.decreases-loop-path
decreases-loop-path l = length l.instances.entries

use Rattle.std.proofs.Common.{◌≡◌, not}
use Rattle.std.specs.List.{filter}
use Rattle.ng_watch.specs.Chunks.{joined, IsCounted}
use Rattle.ng_behaviour.specs.Keys.{begins}
use Rattle.ng_watch.proofs.edits.drop_under.Given as goal

abbrev pub invariant-loop-at : goal.invariant-loop-at
invariant-loop-at l = record {
  counted : IsCounted l.left (joined l.chunks.items);
  others : filter (λ e. not (begins l.p e.0.path)) (joined l.chunks.items) ≡ filter (λ e. not (begins l.p e.0.path)) (joined l.initial.chunks.items);
}

abbrev pub decreases-loop-at : goal.decreases-loop-at
decreases-loop-at l = l.left

use Rattle.std.proofs.Common.{◌≡◌, ◌++◌, length}
use Rattle.std.specs.Prelude.{slice_get}
use Rattle.std.specs.List.{filter}
use Rattle.std.specs.Map.{keys_of}
use Rattle.ng_watch.specs.Chunks.{joined, after, row_at, NotBefore}
use Rattle.ng_behaviour.specs.Keys.{begins}
use Rattle.ng_watch.proofs.watchers.keys_under.Given as goal

abbrev pub invariant-loop-row : goal.invariant-loop-row
invariant-loop-row l = record {
  found : keys_of (filter (λ e. begins l.p e.0.path) (joined l.chunks)) ≡ l.keys.items ++ keys_of (filter (λ e. begins l.p e.0.path) (after l.chunks l.at.chunk l.at.row));
  behind : NotBefore l.p (after l.chunks l.at.chunk l.at.row);
  row : slice_get (after l.chunks l.at.chunk l.at.row) 0 ≡ row_at l.chunks l.at.chunk l.at.row;
}

abbrev pub decreases-loop-row : goal.decreases-loop-row
decreases-loop-row l = length (after l.chunks l.at.chunk l.at.row)

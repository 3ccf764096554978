use Rattle.std.proofs.Common.{◌≡◌, ◌≤◌, ◌+◌, ◌-◌, ℕ}
use Rattle.std.specs.Option.{option_copied}
use Rattle.ng_watch.specs.Chunks.{joined, row_at}
use Rattle.ng_watch.specs.Table.{watchers_of}
use Rattle.ng_watch.specs.Walks.{Arrival, Walks, next_of}
use Rattle.ng_watch.proofs.AtPlaces.{key_in}
use Rattle.ng_watch.proofs.walking.walk_on.Given as goal

abbrev pub invariant-rows : goal.invariant-rows
invariant-rows l = record {
  few : l.passed ≤ l.count;
  next : key_in (row_at l.chunks l.at.chunk l.at.row) ≡ next_of (option_copied l.cursor) (watchers_of (joined l.chunks));
  so_far : (n : ℕ) (a : Arrival) → Walks l.store (watchers_of (joined l.chunks)) (option_copied l.last) (option_copied l.cursor) n a → Walks l.store (watchers_of (joined l.chunks)) (option_copied l.last) (option_copied l.fn.from) (l.passed + n) a;
}

abbrev pub decreases-rows : goal.decreases-rows
decreases-rows l = l.count - l.passed

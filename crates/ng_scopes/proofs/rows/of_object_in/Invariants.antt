use Rattle.std.proofs.Common.{◌-◌, ◌<◌, ◌≤◌, ℕ, length}
use Rattle.ng_behaviour.specs.Scopes.{object_at}
use Rattle.ng_scopes.specs.Rows.{tree_of}
use Rattle.ng_scopes.proofs.rows.of_object_in.Given as goal

abbrev pub invariant-loop-low : goal.invariant-loop-low
invariant-loop-low l = record {
  ordered : l.low ≤ l.high;
  within : l.high ≤ length l.rows;
  below : (r : ℕ) → r < l.low → object_at (tree_of l.rows) r < l.object;
  above : (r : ℕ) → l.high ≤ r → r < length l.rows → l.object < object_at (tree_of l.rows) r;
}

abbrev pub decreases-loop-low : goal.decreases-loop-low
decreases-loop-low l = l.high - l.low

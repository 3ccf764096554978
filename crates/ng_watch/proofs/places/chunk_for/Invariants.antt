use Rattle.std.proofs.Common.{◌≡◌, ◌<◌, ◌≤◌, ◌-◌, false, length}
use Rattle.ng_watch.specs.Chunks.{front, chunk_at, key_from, is_passed, AllBelow}
use Rattle.ng_watch.proofs.places.chunk_for.Given as goal

abbrev pub invariant-loop-low : goal.invariant-loop-low
invariant-loop-low l = record {
  ordered : l.low ≤ l.high;
  bounded : l.high ≤ length l.chunks;
  from_low : l.low < l.high → l.low ≤ l.middle;
  below_high : l.low < l.high → l.middle < l.high;
  lower : AllBelow (key_from l.path l.serial) (front l.chunks l.low);
  upper : is_passed (key_from l.path l.serial) (chunk_at l.chunks l.high) ≡ false;
}

abbrev pub decreases-loop-low : goal.decreases-loop-low
decreases-loop-low l = l.high - l.low

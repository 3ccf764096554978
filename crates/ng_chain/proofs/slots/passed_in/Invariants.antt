use Rattle.std.proofs.Common.{◌-◌, ◌≤◌, length}
use Rattle.ng_chain.specs.Slots.{serials, passed}
use Rattle.ng_chain.proofs.slots.passed_in.Given as goal

abbrev pub invariant-loop-low : goal.invariant-loop-low
invariant-loop-low g l = record {
  ordered : l.low ≤ l.high;
  within : l.high ≤ length l.slots;
  least : l.low ≤ passed l.serial (serials l.slots);
  most : passed l.serial (serials l.slots) ≤ l.high;
}

abbrev pub decreases-loop-low : goal.decreases-loop-low
decreases-loop-low g l = l.high - l.low

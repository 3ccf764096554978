use Rattle.std.proofs.Common.{◌-◌, ◌≡◌, ◌<◌, ◌≤◌, ℕ, None, length}
use Rattle.ng_chain.specs.Walked.{found}
use Rattle.ng_chain.specs.Slots.{standing, serials, passed}
use Rattle.ng_chain.proofs.slots.next_in.Given as goal

abbrev pub invariant-loop-at : goal.invariant-loop-at
invariant-loop-at g l = record {
  from : l.next ≤ l.at;
  within : l.at ≤ length l.slots;
  none : (s : ℕ) → l.span.place < s → passed s (serials l.slots) ≤ l.at → found (standing l.slots) s ≡ None;
}

abbrev pub decreases-loop-at : goal.decreases-loop-at
decreases-loop-at g l = length l.slots - l.at

use Rattle.std.proofs.Common.{◌≡◌}
use Rattle.ng_digest.specs.Place.{MayAdvance}
use Rattle.ng_digest.specs.Machine.{ahead}
use Rattle.ng_digest.specs.Short.{Skips}
use Rattle.ng_digest.proofs.rounds.next_dirty.Given as goal

abbrev pub invariant-loop-w : goal.invariant-loop-w
invariant-loop-w g l =
    let m = g.W.World.moves in
    record {
      stage : MayAdvance (m.at l.w).stage (m.machine.waits (m.at l.w).state);
      holds : m.Holds l.w;
      rounds : (m.at l.w).log.dirty_rounds ≡ (m.at l.initial.w).log.dirty_rounds;
      fires : (m.at l.w).log.fires ≡ (m.at l.initial.w).log.fires;
      run : (found : _) (end : _) → Skips m.machine (m.at l.w) found end → Skips m.machine (m.at l.initial.w) found end;
    }

abbrev pub decreases-loop-w : goal.decreases-loop-w
decreases-loop-w g l =
    let m = g.W.World.moves in
    ahead m.machine (m.at l.w).state (m.at l.w).cursor

use Rattle.std.proofs.Common.{◌≡◌, ◌-◌}
use Rattle.ng_digest.specs.Place.{MayAdvance}
use Rattle.ng_digest.specs.Short.{Walks}
use Rattle.ng_digest.proofs.rounds.walk.Given as goal

abbrev pub invariant-loop-w : goal.invariant-loop-w
invariant-loop-w g l =
    let m = g.W.World.moves in
    record {
      stage : MayAdvance (m.at l.w).stage (m.machine.waits (m.at l.w).state);
      holds : m.Holds l.w;
      rounds : (m.at l.w).log.dirty_rounds ≡ (m.at l.initial.w).log.dirty_rounds;
      run : (walked : _) (end : _) → Walks m.machine (m.at l.w) walked end → Walks m.machine (m.at l.initial.w) walked end;
    }

abbrev pub decreases-loop-w : goal.decreases-loop-w
decreases-loop-w g l = 1000000 - (g.W.World.moves.at l.w).log.fires

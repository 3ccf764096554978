use Rattle.std.proofs.Common.{◌≡◌, ◌-◌, Bool}
use Rattle.ng_digest.specs.declared.world.Stage.TheVariants.{Draining}
use Rattle.ng_digest.specs.Short.{Drains}
use Rattle.ng_digest.proofs.rounds.drain.Given as goal

abbrev pub invariant-loop-w : goal.invariant-loop-w
invariant-loop-w g l =
    let m = g.W.World.moves in
    record {
      stage : (m.at l.w).stage ≡ Draining;
      holds : m.Holds l.w;
      rounds : (m.at l.w).log.dirty_rounds ≡ (m.at l.initial.w).log.dirty_rounds;
      run : (over : Bool) (end : _) → Drains m.machine (m.at l.w) over end → Drains m.machine (m.at l.initial.w) over end;
    }

abbrev pub decreases-loop-w : goal.decreases-loop-w
decreases-loop-w g l = 10000 - (g.W.World.moves.at l.w).log.tasks

use Rattle.std.proofs.Common.{◌≡◌, ◌≤◌, ◌-◌}
use Rattle.ng_digest.specs.declared.world.Stage.TheVariants.{Between}
use Rattle.ng_digest.specs.Short.{Rounds}
use Rattle.ng_digest.proofs.rounds.settle.Given as goal

abbrev pub invariant-rounds : goal.invariant-rounds
invariant-rounds g l =
    let m = g.W.World.moves in
    record {
      stage : (m.at l.w).stage ≡ Between;
      holds : m.Holds l.w;
      few : (m.at l.w).log.dirty_rounds ≤ 10;
      run : (how : _) (end : _) → Rounds m.machine (m.at l.w) how end → Rounds m.machine (m.at l.initial.w) how end;
    }

abbrev pub decreases-rounds : goal.decreases-rounds
decreases-rounds g l = 11 - (g.W.World.moves.at l.w).log.dirty_rounds

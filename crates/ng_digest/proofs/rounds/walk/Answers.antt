use Rattle.std.proofs.Common.{arith, ap, subst, rules}
use Rattle.ng_digest.specs.Short.{Walks, walked_through, walk_stopped, walk_limited, fired_one}
use Rattle.ng_digest.proofs.Stages.{may_advance}
use Rattle.ng_digest.proofs.rounds.walk.Goals as goal

pub returns-in-Nothing-clause-run : goal.returns-in-Nothing-clause-run
returns-in-Nothing-clause-run g c = c.loop-w.invariant.run _ _ (walked_through (search rules))

pub returns-in-Stopped-clause-run : goal.returns-in-Stopped-clause-run
returns-in-Stopped-clause-run g c = c.loop-w.invariant.run _ _ (walk_stopped (search rules))

pub returns-then-log-ge-MANY_FIRES-clause-run : goal.returns-then-log-ge-MANY_FIRES-clause-run
returns-then-log-ge-MANY_FIRES-clause-run g c = c.loop-w.invariant.run _ _ (walk_limited (search rules) (grind arith))

pub loop-w-preserved : goal.loop-w-preserved
loop-w-preserved g c =
    let m = g.W.World.moves in
    let fired = c.in_ok-fire.ensures.step in
    record {
      stage = may_advance _ _ (ap (λ p. p.stage) fired);
      holds = c.in_ok-fire.ensures.holds;
      rounds = grind (arith, ap (λ p. p.log) fired);
      run = λ walked end d. c.loop-w.invariant.run walked end (fired_one {q = m.at c.next_dirty.new.w} (search rules) (grind arith) (subst (λ p. Walks m.machine p walked end) fired d));
    }

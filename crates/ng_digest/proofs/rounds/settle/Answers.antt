use Rattle.std.proofs.Common.{arith, rules}
use Rattle.ng_digest.specs.Short.{last_is_clean, over_fires, over_tasks, eleventh_is_dirty, one_more}
use Rattle.ng_digest.proofs.rounds.settle.Goals as goal

pub returns-in-Quiet-clause-run : goal.returns-in-Quiet-clause-run
returns-in-Quiet-clause-run g c = c.rounds.invariant.run _ _ (last_is_clean (search rules))

pub returns-in-FireLimit-clause-run : goal.returns-in-FireLimit-clause-run
returns-in-FireLimit-clause-run g c = c.rounds.invariant.run _ _ (over_fires (search rules))

pub returns-in-AsyncLimit-clause-run : goal.returns-in-AsyncLimit-clause-run
returns-in-AsyncLimit-clause-run g c = c.rounds.invariant.run _ _ (over_tasks (search rules))

pub returns-then-log-ge-MANY_ROUNDS-clause-run : goal.returns-then-log-ge-MANY_ROUNDS-clause-run
returns-then-log-ge-MANY_ROUNDS-clause-run g c = c.rounds.invariant.run _ _ (eleventh_is_dirty (search rules) (grind arith))

pub rounds-preserved : goal.rounds-preserved
rounds-preserved g c = record {
  stage = search rules;
  holds = search rules;
  few = grind arith;
  run = λ how end d. c.rounds.invariant.run how end (one_more {q = g.W.World.moves.at c.round.new.w} (search rules) (grind arith) d);
}

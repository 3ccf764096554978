use Rattle.std.proofs.Common.{arith, sym, ◌∙◌, ap, subst}
use Rattle.ng_digest.specs.Short.{Drains, drained, too_many, ran_one}
use Rattle.ng_digest.proofs.Stages.{task_ran}
use Rattle.ng_digest.proofs.rounds.drain.Goals as goal

pub returns-then-log-ge-MANY_TASKS-clause-run : goal.returns-then-log-ge-MANY_TASKS-clause-run
returns-then-log-ge-MANY_TASKS-clause-run g c =
    c.loop-w.invariant.run _ _ (too_many (grind arith) (grind arith))

pub loop-w-preserved : goal.loop-w-preserved
loop-w-preserved g c =
    let m = g.W.World.moves in
    let waited = sym c.waits.ensures ∙ c.loop-w-test.true in
    let stepped = task_ran m.machine _ _ _ c.in_ok-_ran.ensures.answer waited c.in_ok-_ran.ensures.step in
    record {
      stage = ap (λ p. p.stage) stepped ∙ c.loop-w.invariant.stage;
      holds = c.in_ok-_ran.ensures.holds;
      rounds = grind (arith, ap (λ p. p.log) stepped);
      run = λ over end d. c.loop-w.invariant.run over end (ran_one waited (grind arith) (subst (λ p. Drains m.machine p over end) stepped d));
    }

pub returns-clause-run : goal.returns-clause-run
returns-clause-run g c = c.loop-w.invariant.run _ _ (drained (grind arith))

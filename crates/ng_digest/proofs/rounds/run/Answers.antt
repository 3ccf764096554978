use Rattle.std.proofs.Common.{sym, subst, ap, ◌∙◌, rules, Err}
use Rattle.ng_digest.specs.declared.rounds.DigestFault.TheVariants as fault
use Rattle.ng_digest.specs.Log.{report_of}
use Rattle.ng_digest.specs.Short.{Digests, gives_infdig, gives_fire_limit, gives_async_limit, gives_memory}
use Rattle.ng_digest.proofs.Finishes.{finished}
use Rattle.ng_digest.proofs.rounds.run.Goals as goal

pub returns-in-Err-clause-run : goal.returns-in-Err-clause-run
returns-in-Err-clause-run g c = gives_memory

pub returns-in-Settled-clause-run : goal.returns-in-Settled-clause-run
returns-in-Settled-clause-run g c =
    let m = g.W.World.moves in
    finished m.machine _ (m.at c.settle.new.w) _ c.in-Settled.stopped _ c.finish.result (search rules) (c.report-report.ensures ∙ ap (λ l. report_of l c.in-Settled.stopped) c.log.ensures) c.finish.ensures.end

pub returns-in-Infdig-clause-run : goal.returns-in-Infdig-clause-run
returns-in-Infdig-clause-run g c =
    let m = g.W.World.moves in
    subst (Digests m.machine (m.at c.args.w.now) (Err fault.Infdig)) (sym c.fail.ensures.step) (gives_infdig {q = m.at c.settle.new.w} (search rules))

pub returns-in-FireLimit-clause-run : goal.returns-in-FireLimit-clause-run
returns-in-FireLimit-clause-run g c =
    let m = g.W.World.moves in
    subst (Digests m.machine (m.at c.args.w.now) (Err fault.FireLimit)) (sym c.fail-in-FireLimit.ensures.step) (gives_fire_limit {q = m.at c.settle.new.w} (search rules))

pub returns-in-AsyncLimit-clause-run : goal.returns-in-AsyncLimit-clause-run
returns-in-AsyncLimit-clause-run g c =
    let m = g.W.World.moves in
    subst (Digests m.machine (m.at c.args.w.now) (Err fault.AsyncLimit)) (sym c.fail-in-AsyncLimit.ensures.step) (gives_async_limit {q = m.at c.settle.new.w} (search rules))

use Rattle.std.proofs.Common.{subst}
use Rattle.ng_act.specs.Asked.{a_body}
use Rattle.ng_core.specs.Frames.{Acts, state_of}
use Rattle.ng_act.specs.Running.{as_value_run, same}
use Rattle.ng_core.specs.State.{Run}
use Rattle.ng_base.specs.Views.{ViewTree}
use Rattle.ng_changes.proofs.Runs.{asked_is}
use Rattle.ng_parse.specs.ProgramOf.{program}
use Rattle.ng_settling.proofs.tasks.run_first.Goals as goal

pub returns-clause-run : goal.returns-clause-run
returns-clause-run c =
    subst (λ (r : Run ViewTree). Acts same c.act_body.result (state_of c.act_body.new.core) (as_value_run r))
    (asked_is (a_body c.args.scope.0 c.args.locals (program c.args.p.now)) (state_of c.args.core.now) c.args.core.now.depth c.requires.idle) c.act_body.ensures.run

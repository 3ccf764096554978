use Rattle.std.proofs.Common.{◌≡◌, ℕ, Ok, sym, subst}
use Rattle.ng_core.specs.Frames as cores
use Rattle.ng_core.specs.Frames.{Acts}
use Rattle.ng_act.specs.Running.{same}
use Rattle.ng_core.specs.State.{Run}
use Rattle.ng_parse.specs.ProgramOf.{program}
use Rattle.ng_commands.specs.Handling.{event_of, handler_run}
use Rattle.ng_commands.specs.HandlingOf.{number, event_seen, happening_seen}
use Rattle.ng_commands.proofs.Programs.{bound_ok}
use Rattle.ng_commands.proofs.handling.handling.Goals as goal

pub returns-clause-run : goal.returns-clause-run
returns-clause-run c =
    let x = happening_seen c.args.happening in
    let first : Run ℕ = event_of x (event_seen c.args.event.now) (cores.state_of c.args.core.now) in
    let given : first ≡ (cores.state_of c.event_of-made.new.core, Ok c.in_ok-made.field-0.0) = subst (λ r. Acts number r (cores.state_of c.event_of-made.new.core) first) c.in_ok-made.was c.event_of-made.ensures.run in
    subst (Acts same c.run_handler.result (cores.state_of c.run_handler.new.core))
    (sym (bound_ok first (cores.state_of c.event_of-made.new.core) c.in_ok-made.field-0.0 (λ o d. handler_run c.args.scope.0 o (program c.args.p.now) d) given)) c.run_handler.ensures.run

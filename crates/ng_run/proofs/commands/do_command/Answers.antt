use Rattle.std.proofs.Common.{ap, ◌∙◌, subst, Ok}
use Rattle.ng_link.specs.State.{rendering}
use Rattle.ng_page.specs.Dispatched.{told_all}
use Rattle.ng_page.specs.OutcomeOf.{outcome_of}
use Rattle.ng_page.specs.PageOf.{state_of}
use Rattle.ng_script.specs.Acts.{act_of, entry_of}
use Rattle.ng_printing.specs.EventStep.{event_step}
use Rattle.ng_performing.specs.Fired.{fired_by}
use Rattle.ng_performing.specs.Performed.{PerformedAct}
use Rattle.ng_run.specs.Doing.{IsStepOf}
use Rattle.ng_printing.specs.Lines.{told_lines}
use Rattle.ng_printing.specs.Left.{idle_step, aimless_step}
use Rattle.ng_printing.specs.StepLines.{step_of}
use Rattle.ng_run.proofs.Answering.{if_ok}
use Rattle.ng_run.proofs.Performing.{aimless_does, idle_does, outcome_does, outcomes_does}
use Rattle.ng_run.proofs.commands.do_command.Goals as goal

pub returns-in_ok-aimless-in-Aimless : goal.returns-in_ok-aimless-in-Aimless
returns-in_ok-aimless-in-Aimless c =
    let a = act_of c.args.command.now.what in
    let old = c.args.page.now in
    aimless_does c.args.flags.trace c.args.number (entry_of c.args.command.now) old c.perform.new.page c.in_ok-aimless-in-Aimless.field-0 c.requires.ready
    (subst (λ d. PerformedAct (fired_by a) a old (Ok d) c.perform.new.page) c.in-Aimless.is c.in_ok-perform.ensures)
    (c.in_ok-aimless-in-Aimless.ensures ∙ ap aimless_step c.in_ok-header.ensures)

pub returns-in_ok-idle-in-Idle : goal.returns-in_ok-idle-in-Idle
returns-in_ok-idle-in-Idle c =
    let a = act_of c.args.command.now.what in
    let old = c.args.page.now in
    idle_does c.args.flags.trace c.args.number (entry_of c.args.command.now) old c.perform.new.page c.in_ok-idle-in-Idle.field-0 c.requires.ready
    (subst (λ d. PerformedAct (fired_by a) a old (Ok d) c.perform.new.page) c.in-Idle.is c.in_ok-perform.ensures)
    (c.in_ok-idle-in-Idle.ensures ∙ ap idle_step c.in_ok-header.ensures)

pub returns-in-Outcome : goal.returns-in-Outcome
returns-in-Outcome c =
    let a = act_of c.args.command.now.what in
    let old = c.args.page.now in
    let new = c.perform.new.page in
    let o = c.in-Outcome.outcome in
    let did = subst (λ d. PerformedAct (fired_by a) a old (Ok d) new) c.in-Outcome.is c.in_ok-perform.ensures in
    if_ok _ (λ l. IsStepOf c.args.flags.trace c.args.number (entry_of c.args.command.now) old l new) c.step.result
    (λ l e. outcome_does c.args.flags.trace c.args.number (entry_of c.args.command.now) old new l c.requires.ready o did (e ∙ ap (λ h. step_of h (told_lines c.args.flags.trace o.digest) (outcome_of o) (rendering (state_of new))) c.in_ok-header.ensures))
    c.step.ensures

pub returns-in-Outcomes : goal.returns-in-Outcomes
returns-in-Outcomes c =
    let a = act_of c.args.command.now.what in
    let old = c.args.page.now in
    let new = c.perform.new.page in
    let os = c.in-Outcomes.outcomes in
    let did = subst (λ d. PerformedAct (fired_by a) a old (Ok d) new) c.in-Outcomes.is c.in_ok-perform.ensures in
    if_ok _ (λ l. IsStepOf c.args.flags.trace c.args.number (entry_of c.args.command.now) old l new) c.event_step.result
    (λ l e. outcomes_does c.args.flags.trace c.args.number (entry_of c.args.command.now) old new l c.requires.ready os did
    (e ∙ (ap (λ r. event_step c.args.flags.trace c.in_ok-header.header.items (told_all r) (rendering (state_of new))) c.as_slice.ensures ∙ ap (λ h. event_step c.args.flags.trace h (told_all os) (rendering (state_of new))) c.in_ok-header.ensures)))
    c.event_step.ensures

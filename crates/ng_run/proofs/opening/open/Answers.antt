use Rattle.std.proofs.Common.{refl, ap, ◌∙◌}
use Rattle.ng_inputs.specs.InputsOf.{accepted_of}
use Rattle.ng_link.specs.State.{rendering}
use Rattle.ng_page.specs.OutcomeOf.{outcome_of}
use Rattle.ng_page.specs.PageOf.{state_of}
use Rattle.ng_printing.specs.Lines.{told_lines}
use Rattle.ng_printing.specs.StepLines.{step_of}
use Rattle.ng_run.proofs.OpenedPages.{opened_page}
use Rattle.ng_run.proofs.opening.open.Goals as goal

pub returns : goal.returns
returns c =
    let p = c.in_ok-page.page in
    let o = c.in_ok-page.outcome in
    opened_page c.args.flags.trace (accepted_of c.args.accepted) (record { page = p; step = c.in_ok-step.step; commands = c.args.accepted.commands; flags = c.args.flags }) o refl refl c.requires.sound
    c.in_ok-page.ensures.step c.in_ok-page.ensures.report (record { page = c.in_ok-page.ensures.page; unspent = c.in_ok-page.ensures.fresh; shown = c.in_ok-page.ensures.shown })
    c.in_ok-page.ensures.settled c.in_ok-page.ensures.rendering
    (c.in_ok-step.ensures ∙ ap (λ h. step_of h (told_lines c.args.flags.trace o.digest) (outcome_of o) (rendering (state_of p))) (c.in_ok-header.ensures.items ∙ c.as_bytes.ensures.value))

use Rattle.std.proofs.Common.{◌∙◌, Option, ap, sym}
use Rattle.ng_base.specs.declared.fault.Fault.{Fault}
use Rattle.ng_changes.proofs.Answered.{ok_then}
use Rattle.ng_steps.specs.Links.{Linking, step_linked, unless_faulted}
use Rattle.ng_steps.specs.LinkingOf.{linking}
use Rattle.ng_build.specs.StepOf.{step_of}
use Rattle.ng_steps.proofs.stepping.step_unless.Goals as goal

pub returns-in-Some-clause-step : goal.returns-in-Some-clause-step
returns-in-Some-clause-step c = λ f order has.
    let g : Linking = linking c.args.works.now c.args.done.now in
    sym (ap (λ (o : Option Fault). unless_faulted o (step_linked f (step_of c.args.step.now) g) g) c.in-Some.is)

pub returns-in-None-clause-step : goal.returns-in-None-clause-step
returns-in-None-clause-step c =
    let g : Linking = linking c.args.works.now c.args.done.now in
    ok_then c.link_step.result c.link_step.ensures.step
    (λ e f order has. e f order has ∙ sym (ap (λ (o : Option Fault). unless_faulted o (step_linked f (step_of c.args.step.now) g) g) c.in-None.is))

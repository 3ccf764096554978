use Rattle.std.proofs.Common.{◌∙◌, ap, sym, false}
use Rattle.ng_app.specs.AppOf.{facts}
use Rattle.ng_html.specs.Reading.{read_bytes}
use Rattle.ng_html.specs.TreeSeen.{source_of}
use Rattle.ng_inputs.proofs.Refusing.{gives_err, script_refused, template_refused}
use Rattle.ng_inputs.specs.InputsOf.{accepted_of, inputs_of}
use Rattle.ng_inputs.specs.Refusals.{accepted}
use Rattle.ng_inputs.specs.declared.refusal.Refusal.TheVariants.{Template, Script}
use Rattle.ng_script.specs.Scripts.{script_of}
use Rattle.ng_template.specs.Compiles.{compiled}
use Rattle.ng_inputs.proofs.refusal.accept.Goals as goal

pub returns-in_err-template-clause-accepted : goal.returns-in_err-template-clause-accepted
returns-in_err-template-clause-accepted c =
    gives_err accepted_of (accepted (inputs_of c.args.inputs)) c.from_residual-in_err-template.result (Template c.in_err-template.field-0.0) c.from_residual-in_err-template.ensures.1
    (λ m. template_refused (inputs_of c.args.inputs) (source_of c.in_ok-source.source) (facts c.in_ok-app.app) (ap read_bytes (sym c.as_slice.ensures.value) ∙ c.in_ok-source.ensures.exact) c.in_ok-app.ensures _
    (ap (λ ds. compiled (source_of c.in_ok-source.source) ds false) (sym c.registry.ensures) ∙ c.in_err-template.ensures.template m))

pub returns-in_err-commands-clause-accepted : goal.returns-in_err-commands-clause-accepted
returns-in_err-commands-clause-accepted c =
    gives_err accepted_of (accepted (inputs_of c.args.inputs)) c.from_residual-in_err-commands.result (Script c.in_err-commands.field-0.0) c.from_residual-in_err-commands.ensures.1
    (λ m. script_refused (inputs_of c.args.inputs) (source_of c.in_ok-source.source) (facts c.in_ok-app.app) (ap read_bytes (sym c.as_slice.ensures.value) ∙ c.in_ok-source.ensures.exact) c.in_ok-app.ensures _ _
    (ap (λ ds. compiled (source_of c.in_ok-source.source) ds false) (sym c.registry.ensures) ∙ c.in_ok-template.ensures.template) (ap script_of (sym c.as_slice-2.ensures.value) ∙ c.in_err-commands.ensures.commands m))

use Rattle.std.proofs.Common.{◌∙◌, ap, sym, [], option_map}
use Rattle.serde_json.specs.View.{view}
use Rattle.ng_app.specs.App.{data_given, facts_with}
use Rattle.ng_app.specs.AppOf.{facts}
use Rattle.ng_app.specs.Directives.{directives_from}
use Rattle.ng_app.specs.WrittenOf.{written_of}
use Rattle.ng_app.proofs.Stops.{gives_err, next, stop}
use Rattle.ng_app.proofs.reading.read_programs.Goals as goal

pub returns-in_err-registry : goal.returns-in_err-registry
returns-in_err-registry c =
    gives_err facts (facts_with (data_given (option_map view c.args.data_member)) (written_of c.args.entries)) c.from_residual-in_err-registry.result c.in_err-registry.field-0.0 c.from_residual-in_err-registry.ensures.1
    (λ m. next _ _ _ _ c.in_ok-core.ensures.state (stop _ _ _ (c.in_err-registry.ensures.definitions m)))

pub returns-in_err-templates : goal.returns-in_err-templates
returns-in_err-templates c =
    gives_err facts (facts_with (data_given (option_map view c.args.data_member)) (written_of c.args.entries)) c.from_residual-in_err-templates.result c.in_err-templates.field-0.0 c.from_residual-in_err-templates.ensures.1
    (λ m. next _ _ _ _ c.in_ok-core.ensures.state (next _ _ _ _ c.in_ok-registry.ensures.definitions (stop _ _ _ (c.in_err-templates.ensures m))))

pub returns-in_err-own : goal.returns-in_err-own
returns-in_err-own c =
    gives_err facts (facts_with (data_given (option_map view c.args.data_member)) (written_of c.args.entries)) c.from_residual-in_err-own.result c.in_err-own.field-0.0 c.from_residual-in_err-own.ensures.1
    (λ m. next _ _ _ _ c.in_ok-core.ensures.state (next _ _ _ _ c.in_ok-registry.ensures.definitions (next _ _ _ _ c.in_ok-templates.ensures (stop _ _ _ (c.in_err-own.ensures m)))))

pub returns-in_err-directives : goal.returns-in_err-directives
returns-in_err-directives c =
    gives_err facts (facts_with (data_given (option_map view c.args.data_member)) (written_of c.args.entries)) c.from_residual-in_err-directives.result c.in_err-directives.field-0.0 c.from_residual-in_err-directives.ensures.1
    (λ m. next _ _ _ _ c.in_ok-core.ensures.state (next _ _ _ _ c.in_ok-registry.ensures.definitions (next _ _ _ _ c.in_ok-templates.ensures (next _ _ _ _ c.in_ok-own.ensures (stop _ _ _ (ap (directives_from [] _) (sym c.in_ok-registry.ensures.rests) ∙ c.in_err-directives.ensures m))))))

pub returns-in_err-functions : goal.returns-in_err-functions
returns-in_err-functions c =
    gives_err facts (facts_with (data_given (option_map view c.args.data_member)) (written_of c.args.entries)) c.from_residual-in_err-functions.result c.in_err-functions.field-0.0 c.from_residual-in_err-functions.ensures.1
    (λ m. next _ _ _ _ c.in_ok-core.ensures.state (next _ _ _ _ c.in_ok-registry.ensures.definitions (next _ _ _ _ c.in_ok-templates.ensures (next _ _ _ _ c.in_ok-own.ensures (next _ _ _ _ (ap (directives_from [] _) (sym c.in_ok-registry.ensures.rests) ∙ c.in_ok-directives.ensures) (stop _ _ _ (c.in_err-functions.ensures m)))))))

pub returns-in_err-run : goal.returns-in_err-run
returns-in_err-run c =
    gives_err facts (facts_with (data_given (option_map view c.args.data_member)) (written_of c.args.entries)) c.from_residual-in_err-run.result c.in_err-run.field-0.0 c.from_residual-in_err-run.ensures.1
    (λ m. next _ _ _ _ c.in_ok-core.ensures.state (next _ _ _ _ c.in_ok-registry.ensures.definitions (next _ _ _ _ c.in_ok-templates.ensures (next _ _ _ _ c.in_ok-own.ensures (next _ _ _ _ (ap (directives_from [] _) (sym c.in_ok-registry.ensures.rests) ∙ c.in_ok-directives.ensures) (next _ _ _ _ c.in_ok-functions.ensures (stop _ _ _ (c.in_err-run.ensures.program m))))))))

pub returns-in_err-watches : goal.returns-in_err-watches
returns-in_err-watches c =
    gives_err facts (facts_with (data_given (option_map view c.args.data_member)) (written_of c.args.entries)) c.from_residual-in_err-watches.result c.in_err-watches.field-0.0 c.from_residual-in_err-watches.ensures.1
    (λ m. next _ _ _ _ c.in_ok-core.ensures.state (next _ _ _ _ c.in_ok-registry.ensures.definitions (next _ _ _ _ c.in_ok-templates.ensures (next _ _ _ _ c.in_ok-own.ensures (next _ _ _ _ (ap (directives_from [] _) (sym c.in_ok-registry.ensures.rests) ∙ c.in_ok-directives.ensures) (next _ _ _ _ c.in_ok-functions.ensures (next _ _ _ _ c.in_ok-run.ensures.program (stop _ _ _ (c.in_err-watches.ensures m)))))))))

pub returns-in_err-listeners : goal.returns-in_err-listeners
returns-in_err-listeners c =
    gives_err facts (facts_with (data_given (option_map view c.args.data_member)) (written_of c.args.entries)) c.from_residual-in_err-listeners.result c.in_err-listeners.field-0.0 c.from_residual-in_err-listeners.ensures.1
    (λ m. next _ _ _ _ c.in_ok-core.ensures.state (next _ _ _ _ c.in_ok-registry.ensures.definitions (next _ _ _ _ c.in_ok-templates.ensures (next _ _ _ _ c.in_ok-own.ensures (next _ _ _ _ (ap (directives_from [] _) (sym c.in_ok-registry.ensures.rests) ∙ c.in_ok-directives.ensures) (next _ _ _ _ c.in_ok-functions.ensures (next _ _ _ _ c.in_ok-run.ensures.program (next _ _ _ _ c.in_ok-watches.ensures (stop _ _ _ (c.in_err-listeners.ensures m))))))))))

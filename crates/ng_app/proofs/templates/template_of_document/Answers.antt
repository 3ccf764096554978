use Rattle.std.proofs.Common.{ap}
use Rattle.ng_html.specs.TreeSeen.{source_of}
use Rattle.ng_template.specs.Compiles.{compiled}
use Rattle.ng_app.specs.Templates.{as_template}
use Rattle.ng_app.proofs.Compiled.{template_refused}
use Rattle.ng_app.proofs.templates.template_of_document.Goals as goal

pub returns-in-Ok : goal.returns-in-Ok
returns-in-Ok c = ap (as_template c.args.member c.args.item) c.in-Ok.ensures.template

pub returns-in-Err : goal.returns-in-Err
returns-in-Err c free =
    template_refused c.args.member c.args.item (compiled (source_of c.args.source.now) c.args.registry.now c.args.slots) c.in-Err.refused c.template_fault.result c.in-Err.ensures.template c.template_fault.ensures free

use Rattle.std.proofs.Common.{◌≡◌, [], map, drop, option_map}
use Rattle.ng_parts.specs.TemplateOf.{template_of}
use Rattle.ng_app.specs.Directives.{templates_from}
use Rattle.ng_app.proofs.registering.directive_templates.Given as goal

abbrev pub invariant-loop-def : goal.invariant-loop-def
invariant-loop-def l = templates_from l.registry (map (option_map template_of) l.templates.items) (drop l.def-index l.def-items) ≡ templates_from l.registry [] l.def-items

use Rattle.std.proofs.Common.{◌≡◌, [], map, option_map}
use Rattle.ng_parts.specs.TemplateOf.{template_of}
use Rattle.ng_app.specs.Directives.{directives_from}
use Rattle.ng_app.specs.RestOf.{rest_of}
use Rattle.ng_app.specs.ProgramsOf.{directive_of}
use Rattle.ng_app.proofs.registering.directives_read.Given as goal

abbrev pub invariant-loop-rest : goal.invariant-loop-rest
invariant-loop-rest l =
    directives_from (map directive_of l.directives.items) (map (option_map template_of) l.left.rest.items) (map rest_of l.rest-iterator.rest.items)
    ≡ directives_from [] (map (option_map template_of) l.initial.left.rest.items) (map rest_of l.initial.rest-iterator.rest.items)

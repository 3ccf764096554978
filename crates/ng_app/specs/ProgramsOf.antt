-- What the templates and programs of an application that was read stand for.
use Rattle.std.specs.Prelude.{option_map}
use Rattle.ng_parts.specs.TemplateOf.{template_of}
use Rattle.ng_app.specs.Directives.{Directive}
use Rattle.ng_parts.specs.ProgramsOf.{programs_of}
use Rattle.ng_app.specs.Templates.{Partial}
use Rattle.ng_app.specs.declared.items.AppTemplate.{AppTemplate}
use Rattle.ng_app.specs.declared.items.AppDirective.{AppDirective}

abbrev pub partial_of : AppTemplate → Partial
partial_of t = record { name = t.name; template = template_of t.template }

abbrev pub directive_of : AppDirective → Directive
directive_of d = record { template = option_map template_of d.template; programs = programs_of d.programs }

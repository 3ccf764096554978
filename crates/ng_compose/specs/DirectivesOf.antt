-- The programs of directives that kept templates have.
use Rattle.std.specs.Prelude.{List, map}
use Rattle.ng_parts.specs.Directing.{Programs}
use Rattle.ng_compose.specs.declared.templates.Templates.{Templates}
use Rattle.ng_parts.specs.ProgramsOf.{programs_of}

abbrev pub directives_of : Templates → List Programs
directives_of t = map programs_of t.directives.items

-- What a site of the code stands for.
use Rattle.std.specs.Prelude.{Bool}
use Rattle.ng_drawing.specs.Template as template
use Rattle.ng_drawing.specs.declared.kind.SiteKind.{SiteKind}
use Rattle.ng_language.specs.Trees.{Trees}
use Rattle.ng_parse.specs.ProgramOf.{program}
use Rattle.ng_parts.specs.declared.site.Site.{Site}

abbrev pub site_with : SiteKind → Bool → Trees → template.Site
site_with kind once p = record { kind = kind; one_time = once; program = p }

abbrev pub site_of : Site → template.Site
site_of s = site_with s.kind s.one_time (program s.program)

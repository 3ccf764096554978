use Rattle.std.proofs.Common.{◌∙◌, ap, map}
use Rattle.std.specs.Prelude.{slice_get}
use Rattle.ng_parts.specs.ProgramsOf.{programs_of}
use Rattle.ng_parts.proofs.Lookups.{lookup_seen}
use Rattle.ng_compose.proofs.templates.Templates.directive.Goals as goal

pub returns : goal.returns
returns c = lookup_seen programs_of c.deref.result.now c.args.n c.get.result c.get.ensures.lookup ∙ ap (λ xs. slice_get (map programs_of xs) c.args.n) c.deref.ensures.value

use Rattle.std.proofs.Common.{◌∙◌, List, ap}
use Rattle.std.specs.Prelude.{slice_get}
use Rattle.ng_parts.specs.SiteOf.{site_of}
use Rattle.ng_parts.specs.FragmentOf.{sites_of}
use Rattle.ng_parts.specs.declared.site.Site.{Site}
use Rattle.ng_parts.proofs.Lookups.{lookup_seen}
use Rattle.ng_compose.proofs.composed.site_at.Goals as goal

pub returns : goal.returns
returns c = lookup_seen site_of c.deref.result.now c.args.n c.get.result c.get.ensures.lookup ∙ ap (λ (xs : List Site). slice_get (sites_of xs) c.args.n) c.deref.ensures.value

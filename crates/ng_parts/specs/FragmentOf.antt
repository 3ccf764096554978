-- What a fragment, its sites and its outlets stand for.
use Rattle.std.specs.Prelude.{List, map}
use Rattle.ng_drawing.specs.Template as template
use Rattle.ng_parts.specs.RepeatedOf.{repeated_of}
use Rattle.ng_parts.specs.Seen.{parts_of}
use Rattle.ng_parts.specs.SiteOf.{site_of}
use Rattle.ng_parts.specs.ActsOf.{outside_of}
use Rattle.ng_parts.specs.declared.fragment.Fragment.{Fragment}
use Rattle.ng_parts.specs.declared.fragment.OutletScope.{OutletScope}
use Rattle.ng_parts.specs.declared.fragment.SiteScopes.{SiteScopes}
use Rattle.ng_parts.specs.declared.outlets.Filling.{Filling}
use Rattle.ng_parts.specs.declared.outlets.Filling.TheVariants.{BodyIf, OnCase, ForEach, ByName}
use Rattle.ng_parts.specs.declared.outlets.Outlet.{Outlet}
use Rattle.ng_parts.specs.declared.site.Site.{Site}

abbrev pub sites_of : List Site → List template.Site
sites_of sites = map site_of sites

abbrev pub filling_of : Filling → template.Filling
filling_of (BodyIf body) = template.body_if body
filling_of (OnCase text body) = template.on_case text body
filling_of (ForEach r body) = template.for_each (repeated_of r) body
filling_of (ByName body) = template.by_name body

abbrev pub outlet_of : Outlet → template.Outlet
outlet_of o = record { site = o.site; filling = filling_of o.filling }

abbrev pub outlets_of : List Outlet → List template.Outlet
outlets_of outlets = map outlet_of outlets

abbrev pub mark_of : SiteScopes → template.SiteScopes
mark_of m = record { under = m.under; over = m.over }

-- all on the instance's own scope
abbrev pub own_mark : template.SiteScopes
own_mark = record { under = 0; over = 0 }

abbrev pub spot_of : OutletScope → template.OutletScope
spot_of s = record { home = s.home; scope = s.scope; outsides = map outside_of s.outsides.items }

abbrev pub fragment_of : Fragment → template.Fragment
fragment_of f = record {
  parts = parts_of f.parts;
  sites = sites_of f.sites.items;
  outlets = outlets_of f.outlets.items;
  marks = map mark_of f.marks.items;
  spots = map spot_of f.spots.items;
}

abbrev pub fragments_of : List Fragment → List template.Fragment
fragments_of fs = map fragment_of fs

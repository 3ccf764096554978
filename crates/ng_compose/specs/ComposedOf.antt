-- What composing in the code has come to, and in which region it is.
use Rattle.std.specs.Prelude.{map, Option, None, Some}
use Rattle.ng_drawing.specs.Template.{Part, Parts, no_parts}
use Rattle.ng_parts.specs.ActsOf.{outside_of}
use Rattle.ng_drawing.specs.Composing.{Region, Composed, alone}
use Rattle.ng_parts.specs.FragmentOf.{fragment_of, sites_of, outlets_of, mark_of, spot_of}
use Rattle.ng_compose.specs.declared.composed.Composed as code
use Rattle.ng_compose.specs.declared.regions.Region as code_region

abbrev pub region_of : code_region.Region → Region
region_of r = record { source = fragment_of r.source.now; home = r.home; outsides = map outside_of r.outsides.items; scope = r.scope }

abbrev pub composed_of : code.Composed → Composed
composed_of c = record {
  sites = sites_of c.sites.items;
  marks = map mark_of c.marks.items;
  outlets = outlets_of c.outlets.items;
  spots = map spot_of c.spots.items;
  scopes = c.scopes;
  nodes = c.nodes;
  ended = c.ended;
  moved = c.moved.items;
}

-- a part, where one was written
abbrev pub written_part : Option Part → Parts
written_part None = no_parts
written_part (Some p) = alone p

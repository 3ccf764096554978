use Rattle.std.proofs.Common.{◌≡◌, drop, map}
use Rattle.std.specs.List.{list_any}
use Rattle.ng_blocks.specs.Switching.{matches}
use Rattle.ng_drawing.specs.Cases.{cases_of}
use Rattle.ng_parts.specs.FragmentOf.{outlet_of}
use Rattle.ng_render.proofs.rendering.any_has.Given as goal

abbrev pub invariant-loop-outlet : goal.invariant-loop-outlet
invariant-loop-outlet l = list_any (matches l.value) (cases_of (map outlet_of (drop l.outlet-index l.outlets)) l.site) ≡ list_any (matches l.value) (cases_of (map outlet_of l.outlets) l.site)

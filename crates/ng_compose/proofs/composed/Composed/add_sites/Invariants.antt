use Rattle.std.proofs.Common.{◌≡◌, drop}
use Rattle.ng_compose.specs.ComposedOf.{region_of, composed_of}
use Rattle.ng_drawing.specs.Composing.{sites_on}
use Rattle.ng_parts.specs.FragmentOf.{mark_of}
use Rattle.ng_compose.proofs.composed.Composed.add_sites.Given as goal

abbrev pub invariant-loop-n : goal.invariant-loop-n
invariant-loop-n l =
    (sites_on (region_of l.region) (mark_of l.mark) (drop l.n-index l.numbers) (composed_of l.self)).1 ≡ (sites_on (region_of l.region) (mark_of l.mark) l.numbers (composed_of l.initial.self)).1

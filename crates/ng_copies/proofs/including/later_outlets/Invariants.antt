use Rattle.std.proofs.Common.{◌≡◌, ◌++◌, map, drop}
use Rattle.ng_drawing.specs.Included.{later_outlet}
use Rattle.ng_parts.specs.FragmentOf.{outlet_of}
use Rattle.ng_copies.proofs.including.later_outlets.Given as goal

abbrev pub invariant-loop-outlet : goal.invariant-loop-outlet
invariant-loop-outlet l = map outlet_of l.moved.items ++ map (later_outlet l.by) (map outlet_of (drop l.outlet-index l.outlets)) ≡ map (later_outlet l.by) (map outlet_of l.outlets)

use Rattle.std.proofs.Common.{◌≡◌, ◌++◌, map, drop}
use Rattle.ng_drawing.specs.Included.{later_hiding}
use Rattle.ng_parts.specs.AttributeOf.{hiding_of}
use Rattle.ng_copies.proofs.including.later_hidings.Given as goal

abbrev pub invariant-loop-hiding : goal.invariant-loop-hiding
invariant-loop-hiding l = map hiding_of l.moved.items ++ map (later_hiding l.by) (map hiding_of (drop l.hiding-index l.hidings)) ≡ map (later_hiding l.by) (map hiding_of l.hidings)

use Rattle.std.proofs.Common.{◌≡◌, ◌++◌, map, drop}
use Rattle.ng_drawing.specs.Included.{later_attributes}
use Rattle.ng_parts.specs.AttributeOf.{attribute_of}
use Rattle.ng_copies.proofs.including.later_attributes.Given as goal

abbrev pub invariant-loop-one : goal.invariant-loop-one
invariant-loop-one l = l.moved ++ later_attributes l.by (map attribute_of (drop l.one-index l.one-items)) ≡ later_attributes l.by (map attribute_of l.one-items)

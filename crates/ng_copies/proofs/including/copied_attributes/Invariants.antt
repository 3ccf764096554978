use Rattle.std.proofs.Common.{◌≡◌, ◌++◌, map, drop}
use Rattle.ng_parts.specs.AttributeOf.{attribute_of}
use Rattle.ng_copies.proofs.including.copied_attributes.Given as goal

abbrev pub invariant-loop-one : goal.invariant-loop-one
invariant-loop-one l = l.copies ++ map attribute_of (drop l.one-index l.one-items) ≡ map attribute_of l.one-items

use Rattle.std.proofs.Common.{◌≡◌, ◌++◌, map, drop}
use Rattle.ng_parts.specs.AttributeOf.{attribute_of}
use Rattle.ng_drawing.specs.Moved.{moved_by, moved_attributes}
use Rattle.ng_copies.proofs.moving.moved_attributes.Given as goal

abbrev pub invariant-loop-one : goal.invariant-loop-one
invariant-loop-one l = l.all ++ moved_attributes (moved_by l.moved) (map attribute_of (drop l.one-index l.one-items)) ≡ moved_attributes (moved_by l.moved) (map attribute_of l.one-items)

use Rattle.std.proofs.Common.{◌≡◌, ◌+◌, ◌*◌, map, drop}
use Rattle.ng_drawing.specs.Included.{later_parts}
use Rattle.ng_drawing.specs.Nodes.{part_nodes, content_nodes, nodes}
use Rattle.ng_drawing.specs.Template.{parts_from}
use Rattle.ng_parts.specs.Seen.{part_of, contents_of, parts_of}
use Rattle.ng_parts.proofs.Joined.{joined}
use Rattle.ng_copies.proofs.including.+later.Given as goal

abbrev pub invariant-later_parts-loop-part : goal.invariant-later_parts-loop-part
invariant-later_parts-loop-part l =
    joined (parts_of l.moved) (later_parts l.by (parts_from (map part_of (drop l.part-index l.part-items)))) ≡ later_parts l.by (parts_from (map part_of l.part-items))

abbrev pub decreases-later_part : goal.decreases-later_part
decreases-later_part l = 3 * part_nodes (part_of l.part.now)

abbrev pub decreases-later_contents : goal.decreases-later_contents
decreases-later_contents l = 3 * content_nodes (contents_of l.contents.now) + 2

abbrev pub decreases-later_parts : goal.decreases-later_parts
decreases-later_parts l = 3 * nodes (parts_of l.parts.now) + 1

use Rattle.std.proofs.Common.{◌≡◌, ◌+◌, ◌*◌, map, drop}
use Rattle.ng_drawing.specs.Nodes.{part_nodes, content_nodes, nodes}
use Rattle.ng_drawing.specs.Template.{parts_from}
use Rattle.ng_drawing.specs.Composing.{is_directed}
use Rattle.ng_parts.specs.Seen.{part_of, contents_of, parts_of}
use Rattle.ng_compose.proofs.directed.+directed.Given as goal

abbrev pub invariant-is_directed-loop-part : goal.invariant-is_directed-loop-part
invariant-is_directed-loop-part l = is_directed (parts_from (map part_of (drop l.part-index l.part-items))) ≡ is_directed (parts_from (map part_of l.part-items))

abbrev pub decreases-is_directed_part : goal.decreases-is_directed_part
decreases-is_directed_part l = 3 * part_nodes (part_of l.part.now)

abbrev pub decreases-is_directed_in : goal.decreases-is_directed_in
decreases-is_directed_in l = 3 * content_nodes (contents_of l.contents.now) + 2

abbrev pub decreases-is_directed : goal.decreases-is_directed
decreases-is_directed l = 3 * nodes (parts_of l.parts.now) + 1

use Rattle.std.proofs.Common.{◌≡◌, ◌+◌, ◌*◌, ◌++◌, drop, map}
use Rattle.ng_drawing.specs.Nodes.{part_nodes, content_nodes, nodes}
use Rattle.ng_drawing.specs.Template.{parts_from}
use Rattle.ng_parts.specs.Seen.{part_of, contents_of}
use Rattle.ng_build.specs.Shape.{anchors}
use Rattle.ng_build.proofs.anchors.+anchored.Given as goal

abbrev pub invariant-add_anchors-loop-part : goal.invariant-add_anchors-loop-part
invariant-add_anchors-loop-part l =
    let left = parts_from (map part_of (drop l.part-index l.parts)) in
    let all = parts_from (map part_of l.parts) in
    record {
      next : l.next + nodes left ≡ l.n + nodes all;
      names : l.names.items ++ anchors l.next left ≡ l.initial.names.items ++ anchors l.n all;
    }

abbrev pub decreases-add_anchor : goal.decreases-add_anchor
decreases-add_anchor l = 3 * part_nodes (part_of l.part.now)

abbrev pub decreases-add_inside : goal.decreases-add_inside
decreases-add_inside l = 3 * content_nodes (contents_of l.contents.now) + 2

abbrev pub decreases-add_anchors : goal.decreases-add_anchors
decreases-add_anchors l = 3 * nodes (parts_from (map part_of l.parts.now)) + 1

use Rattle.std.proofs.Common.{◌≡◌, ◌+◌, ◌*◌, drop, map}
use Rattle.ng_drawing.specs.Nodes.{part_nodes, content_nodes, nodes}
use Rattle.ng_drawing.specs.Template.{parts_from}
use Rattle.ng_parts.specs.Seen.{part_of, contents_of}
use Rattle.ng_build.specs.Controls.{controlled}
use Rattle.ng_build.specs.Shape.{keys_or}
use Rattle.ng_build.specs.HandledOf.{controlled_of}
use Rattle.ng_build.proofs.controls.+controlled.Given as goal

abbrev pub invariant-enter_controls-loop-part : goal.invariant-enter_controls-loop-part
invariant-enter_controls-loop-part l =
    let keys = keys_or l.path l.keys in
    let left = parts_from (map part_of (drop l.part-index l.parts)) in
    let all = parts_from (map part_of l.parts) in
    record {
      next : l.next + nodes left ≡ l.n + nodes all;
      entered : controlled keys l.next left (controlled_of l.table.entries) ≡ controlled keys l.n all (controlled_of l.initial.table.entries);
    }

abbrev pub decreases-enter_part : goal.decreases-enter_part
decreases-enter_part l = 3 * part_nodes (part_of l.part.now)

abbrev pub decreases-enter_contents : goal.decreases-enter_contents
decreases-enter_contents l = 3 * content_nodes (contents_of l.contents.now) + 2

abbrev pub decreases-enter_controls : goal.decreases-enter_controls
decreases-enter_controls l = 3 * nodes (parts_from (map part_of l.parts.now)) + 1

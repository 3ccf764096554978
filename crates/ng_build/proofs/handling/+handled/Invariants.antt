use Rattle.std.proofs.Common.{◌≡◌, ◌+◌, ◌*◌, drop, map}
use Rattle.ng_drawing.specs.Nodes.{part_nodes, content_nodes, nodes}
use Rattle.ng_drawing.specs.Template.{parts_from}
use Rattle.ng_parts.specs.Seen.{part_of, contents_of}
use Rattle.ng_build.specs.Handlers.{handled}
use Rattle.ng_build.specs.HandledOf.{handled_of}
use Rattle.ng_build.proofs.handling.+handled.Given as goal

abbrev pub invariant-enter_parts-loop-part : goal.invariant-enter_parts-loop-part
invariant-enter_parts-loop-part l =
    let left = parts_from (map part_of (drop l.part-index l.parts)) in
    let all = parts_from (map part_of l.parts) in
    record {
      next : l.next + nodes left ≡ l.n + nodes all;
      entered : handled l.next left (handled_of l.table.entries) ≡ handled l.n all (handled_of l.initial.table.entries);
    }

abbrev pub decreases-enter_part : goal.decreases-enter_part
decreases-enter_part l = 3 * part_nodes (part_of l.part.now)

abbrev pub decreases-enter_contents : goal.decreases-enter_contents
decreases-enter_contents l = 3 * content_nodes (contents_of l.contents.now) + 2

abbrev pub decreases-enter_parts : goal.decreases-enter_parts
decreases-enter_parts l = 3 * nodes (parts_from (map part_of l.parts.now)) + 1

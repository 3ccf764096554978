use Rattle.std.proofs.Common.{◌≡◌, ◌+◌, ◌*◌, ◌++◌, take, map}
use Rattle.ng_dom.specs.Document.{next_name}
use Rattle.ng_dom.specs.Drawing.{shows}
use Rattle.ng_dom.specs.Nodes.{names_of}
use Rattle.ng_drawing.specs.Nodes.{part_nodes, content_nodes, nodes}
use Rattle.ng_drawing.specs.Template.{parts_from}
use Rattle.ng_parts.specs.Seen.{part_of, contents_of}
use Rattle.ng_build.specs.Building.{unset, parent_name, Builds}
use Rattle.ng_build.specs.Shape.{keys_by, shape, unfilled, holes}
use Rattle.ng_build.proofs.building.+build.Given as goal

abbrev pub invariant-build_parts-loop-part : goal.invariant-build_parts-loop-part
invariant-build_parts-loop-part l =
    let done = parts_from (map part_of (take l.part-index l.parts)) in
    let keys = keys_by l.keys in
    let m = next_name l.initial.dom in
    record {
      names : l.group.nodes.items ≡ names_of (shows unset (shape keys m unfilled done));
      builds : Builds (parent_name l.parent) (shape keys m unfilled done) (nodes done) l.initial.dom l.dom;
      holes : l.spots.items ≡ l.initial.spots.items ++ holes m done;
    }

abbrev pub decreases-build_part : goal.decreases-build_part
decreases-build_part l = 4 * part_nodes (part_of l.part.now)

abbrev pub decreases-build_whole : goal.decreases-build_whole
decreases-build_whole l = 4 * content_nodes (contents_of l.contents.now) + 3

abbrev pub decreases-build_contents : goal.decreases-build_contents
decreases-build_contents l = 4 * content_nodes (contents_of l.contents.now) + 2

abbrev pub decreases-build_parts : goal.decreases-build_parts
decreases-build_parts l = 4 * nodes (parts_from (map part_of l.parts.now)) + 1

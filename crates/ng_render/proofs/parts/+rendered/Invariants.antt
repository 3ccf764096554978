use Rattle.std.proofs.Common.{◌≡◌, ◌+◌, ◌*◌, drop, map}
use Rattle.ng_drawing.specs.Nodes.{part_nodes, content_nodes, nodes}
use Rattle.ng_html.specs.Seen.{forest_of}
use Rattle.ng_parts.specs.Seen.{part_of, contents_of, parts_of}
use Rattle.ng_drawing.specs.Drawing.{followed_by}
use Rattle.ng_render.specs.OverOf.{now_over, groups_over}
use Rattle.ng_render.proofs.Walks.{behind, render_list}
use Rattle.ng_render.proofs.parts.+rendered.Given as goal

abbrev pub decreases-rendered_part : goal.decreases-rendered_part
decreases-rendered_part l = 3 * part_nodes (part_of l.part.now)

abbrev pub decreases-rendered_contents : goal.decreases-rendered_contents
decreases-rendered_contents l = 3 * content_nodes (contents_of l.contents.now) + 2

abbrev pub decreases-rendered : goal.decreases-rendered
decreases-rendered l = 3 * nodes (parts_of l.parts.now) + 1

abbrev pub invariant-rendered-loop-part : goal.invariant-rendered-loop-part
invariant-rendered-loop-part l =
    behind followed_by (forest_of l.forest) (render_list (now_over l.over) (groups_over l.over) (map part_of (drop l.part-index l.part-items)))
    ≡ render_list (now_over l.over) (groups_over l.over) (map part_of l.part-items)

use Rattle.std.proofs.Common.{◌≡◌, map, drop}
use Rattle.ng_html.specs.Seen.{node_of, forest_of}
use Rattle.ng_markup.specs.Forest.{forest_from}
use Rattle.ng_drawing.specs.Drawing.{followed_by}
use Rattle.ng_render.proofs.groups.+copied.Given as goal

abbrev pub invariant-append_copy-loop-node : goal.invariant-append_copy-loop-node
invariant-append_copy-loop-node l =
    followed_by (forest_of l.into) (forest_from (map node_of (drop l.node-index l.node-items))) ≡ followed_by (forest_of l.initial.into) (forest_from (map node_of l.node-items))

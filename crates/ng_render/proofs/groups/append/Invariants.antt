use Rattle.std.proofs.Common.{◌≡◌, map}
use Rattle.ng_html.specs.Seen.{node_of, forest_of}
use Rattle.ng_markup.specs.Forest.{forest_from}
use Rattle.ng_drawing.specs.Drawing.{followed_by}
use Rattle.ng_render.proofs.groups.append.Given as goal

abbrev pub invariant-loop-node : goal.invariant-loop-node
invariant-loop-node l =
    followed_by (forest_of l.into) (forest_from (map node_of l.node-iterator.rest.items)) ≡ followed_by (forest_of l.initial.into) (forest_from (map node_of l.initial.node-iterator.rest.items))

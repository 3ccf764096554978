use Rattle.std.proofs.Common.{◌≡◌, map, drop}
use Rattle.ng_html.specs.Seen.{node_of}
use Rattle.ng_markup.specs.Forest.{forest_from}
use Rattle.ng_template.specs.Compiles.{after_forest}
use Rattle.ng_template.proofs.compiling.+pass.Given as goal

abbrev pub invariant-after_forest-loop-node : goal.invariant-after_forest-loop-node
invariant-after_forest-loop-node l =
    after_forest (forest_from (map node_of (drop l.node-index l.node-items))) l.left ≡ after_forest (forest_from (map node_of l.node-items)) l.initial.left

use Rattle.std.proofs.Common.{◌≡◌, map, drop}
use Rattle.ng_html.specs.Seen.{node_of}
use Rattle.ng_markup.specs.Forest.{forest_from}
use Rattle.ng_elements.specs.Using.{is_blank}
use Rattle.ng_elements.proofs.using.is_blank.Given as goal

abbrev pub invariant-loop-node : goal.invariant-loop-node
invariant-loop-node l = is_blank (forest_from (map node_of (drop l.node-index l.node-items))) ≡ is_blank (forest_from (map node_of l.node-items))

use Rattle.std.proofs.Common.{◌≡◌, map, drop}
use Rattle.ng_html.specs.Seen.{node_of}
use Rattle.ng_parts.specs.Seen.{parts_of}
use Rattle.ng_parts.proofs.Joined.{joined}
use Rattle.ng_elements.proofs.PlainLists.{plain_list}
use Rattle.ng_elements.proofs.plain.+plain.Given as goal

abbrev pub invariant-plain_parts-loop-node : goal.invariant-plain_parts-loop-node
invariant-plain_parts-loop-node l = joined (parts_of l.parts) (plain_list (map node_of (drop l.node-index l.node-items))) ≡ plain_list (map node_of l.node-items)

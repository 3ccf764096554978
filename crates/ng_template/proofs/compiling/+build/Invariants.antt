use Rattle.std.proofs.Common.{◌≡◌, map, drop}
use Rattle.ng_html.specs.Seen.{node_of}
use Rattle.ng_parts.specs.Seen.{parts_of}
use Rattle.ng_elements.specs.HeadOf.{made_of}
use Rattle.ng_template.proofs.NodeLists.{onto, compiled_list}
use Rattle.ng_template.proofs.compiling.+build.Given as goal

abbrev pub invariant-parts_at-loop-node : goal.invariant-parts_at-loop-node
invariant-parts_at-loop-node l =
    onto (parts_of l.parts) (compiled_list l.r l.slots l.near (map node_of (drop l.node-index l.node-items)) (made_of l.now)) ≡ compiled_list l.r l.slots l.near (map node_of l.node-items) (made_of l.initial.now)

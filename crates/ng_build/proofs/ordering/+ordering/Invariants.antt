use Rattle.std.proofs.Common.{◌≡◌, ◌+◌, ◌*◌, ◌++◌, drop, map}
use Rattle.ng_drawing.specs.Nodes.{part_nodes, content_nodes, nodes}
use Rattle.ng_drawing.specs.Template.{parts_from}
use Rattle.ng_parts.specs.Seen.{part_of, contents_of}
use Rattle.ng_build.specs.Linking.{steps}
use Rattle.ng_build.specs.StepOf.{step_of}
use Rattle.ng_build.proofs.ordering.+ordering.Given as goal

abbrev pub invariant-add_parts-loop-part : goal.invariant-add_parts-loop-part
invariant-add_parts-loop-part l =
    map step_of l.order.items ++ steps (parts_from (map part_of (drop l.part-index l.parts))) ≡ map step_of l.initial.order.items ++ steps (parts_from (map part_of l.parts))

abbrev pub decreases-add_part : goal.decreases-add_part
decreases-add_part l = 4 * part_nodes (part_of l.part.now)

abbrev pub decreases-add_element : goal.decreases-add_element
decreases-add_element l = 4 * content_nodes (contents_of l.contents.now) + 3

abbrev pub decreases-add_contents : goal.decreases-add_contents
decreases-add_contents l = 4 * content_nodes (contents_of l.contents.now) + 2

abbrev pub decreases-add_parts : goal.decreases-add_parts
decreases-add_parts l = 4 * nodes (parts_from (map part_of l.parts.now)) + 1

use Rattle.std.proofs.Common.{◌≡◌, ◌+◌, ◌*◌, suc, map, drop}
use Rattle.ng_drawing.specs.Nodes.{part_nodes, content_nodes, nodes}
use Rattle.ng_drawing.specs.Template.{parts_from}
use Rattle.ng_compose.specs.ComposedOf.{region_of, composed_of}
use Rattle.ng_drawing.specs.Composing.{parts_composed, composed_in}
use Rattle.ng_drawing.specs.Named.{fragments_at}
use Rattle.ng_compose.specs.Kept.{templates_of}
use Rattle.ng_parts.specs.Seen.{part_of, contents_of, parts_of}
use Rattle.ng_compose.proofs.ComposingTurns.{after_done}
use Rattle.ng_compose.proofs.Largest.{weight, largest}
use Rattle.ng_compose.proofs.composing.+composing.Given as goal

abbrev pub invariant-compose_parts-loop-part : goal.invariant-compose_parts-loop-part
invariant-compose_parts-loop-part l =
    let f = fragments_at (templates_of l.all) in
    let go = parts_composed f (composed_in f l.fuel) (region_of l.region) in
    after_done (parts_of l.done) (go (parts_from (map part_of (drop l.part-index l.part-items))) (composed_of l.made)) ≡ go (parts_from (map part_of l.part-items)) (composed_of l.initial.made)

abbrev pub decreases-compose_part : goal.decreases-compose_part
decreases-compose_part l = weight (suc l.fuel) (largest (templates_of l.all.now)) + 9 * part_nodes (part_of l.part.now)

abbrev pub decreases-place_element : goal.decreases-place_element
decreases-place_element l = weight (suc l.fuel) (largest (templates_of l.all.now)) + 9 * content_nodes (contents_of l.contents.now) + 8

abbrev pub decreases-write_element : goal.decreases-write_element
decreases-write_element l = weight (suc l.fuel) (largest (templates_of l.all.now)) + 9 * content_nodes (contents_of l.contents.now) + 7

abbrev pub decreases-compose_element : goal.decreases-compose_element
decreases-compose_element l = weight (suc l.fuel) (largest (templates_of l.all.now)) + 9 * content_nodes (contents_of l.contents.now) + 6

abbrev pub decreases-compose_inside : goal.decreases-compose_inside
decreases-compose_inside l = weight (suc l.fuel) (largest (templates_of l.all.now)) + 9 * content_nodes (contents_of l.contents.now) + 5

abbrev pub decreases-compose_given : goal.decreases-compose_given
decreases-compose_given l = weight (suc l.fuel) (largest (templates_of l.all.now)) + 9 * content_nodes (contents_of l.contents.now) + 4

abbrev pub decreases-compose_contents : goal.decreases-compose_contents
decreases-compose_contents l = weight (suc l.fuel) (largest (templates_of l.all.now)) + 9 * content_nodes (contents_of l.contents.now) + 3

abbrev pub decreases-compose_parts : goal.decreases-compose_parts
decreases-compose_parts l = weight (suc l.fuel) (largest (templates_of l.all.now)) + 9 * nodes (parts_of l.parts.now) + 2

abbrev pub decreases-enter_template : goal.decreases-enter_template
decreases-enter_template l = weight (suc l.fuel) (largest (templates_of l.all.now)) + 4

abbrev pub decreases-enter_content : goal.decreases-enter_content
decreases-enter_content l = weight (suc l.fuel) (largest (templates_of l.all.now)) + 3

abbrev pub decreases-enter : goal.decreases-enter
decreases-enter l = weight l.fuel (largest (templates_of l.all.now)) + 9 * nodes (region_of l.region.now).source.parts + 3

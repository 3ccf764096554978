use Rattle.std.proofs.Common.{◌+◌, arith, ap, sym, ◌∙◌, map, drop}
use Rattle.ng_markup.specs.Forest.{forest_from}
use Rattle.ng_html.specs.Seen.{node_of}
use Rattle.ng_html.proofs.Forests.{forest_of-items}
use Rattle.ng_elements.specs.Plain.{plain_parts}
use Rattle.ng_parts.specs.Seen.{part_of, parts_of}
use Rattle.ng_parts.proofs.Joined.{joined}
use Rattle.ng_elements.proofs.PlainLists.{plain_list, plain-turn, plain-end}
use Rattle.ng_elements.proofs.plain.+plain.Goals as goal

pub plain_parts-loop-node-preserved : goal.plain_parts-loop-node-preserved
plain_parts-loop-node-preserved t c =
    ap (λ ps. joined ps (plain_list (map node_of (drop (c.loop-node.node-index + 1) c.deref-node-items.result.now)))) c.in_ok-push.ensures.ok
    ∙ (plain-turn c.deref-node-items.result.now c.loop-node.node-index c.node-item.result (parts_of c.loop-node.parts) (part_of c.in_ok-part.part) (omega arith) c.node-item.is c.in_ok-part.ensures
    ∙ c.loop-node.invariant)

pub plain_parts-returns : goal.plain_parts-returns
plain_parts-returns t c =
    sym (plain-end c.deref-node-items.result.now c.loop-node.node-index (parts_of c.loop-node.parts) c.loop-node-test.false)
    ∙ (c.loop-node.invariant
    ∙ sym (ap plain_parts (forest_of-items c.args.forest.now ∙ ap (λ xs. forest_from (map node_of xs)) (sym c.deref-node-items.ensures.value))))

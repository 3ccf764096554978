use Rattle.std.proofs.Common.{◌+◌, arith, map, drop, ap, sym, ◌∙◌}
use Rattle.ng_drawing.specs.Drawing.{followed_by}
use Rattle.ng_html.proofs.Forests.{forest_of-items}
use Rattle.ng_html.specs.Seen.{node_of, forest_of}
use Rattle.ng_markup.specs.Forest.{forest_from}
use Rattle.ng_render.proofs.Walks.{copied_turn, copied_last}
use Rattle.ng_render.proofs.groups.+copied.Goals as goal

pub append_copy-loop-node-preserved : goal.append_copy-loop-node-preserved
append_copy-loop-node-preserved t c =
    ap (λ f. followed_by f (forest_from (map node_of (drop (c.loop-node.node-index + 1) c.deref-node-items.result.now)))) c.in_ok-push.ensures.ok
    ∙ (copied_turn c.deref-node-items.result.now c.loop-node.node-index c.node-item.result (forest_of c.loop-node.into) (node_of c.in_ok-copy.copy) (omega arith) c.node-item.is c.in_ok-copy.ensures
    ∙ c.loop-node.invariant)

pub append_copy-returns : goal.append_copy-returns
append_copy-returns t c =
    sym (copied_last c.deref-node-items.result.now c.loop-node.node-index (forest_of c.loop-node.into) c.loop-node-test.false)
    ∙ (c.loop-node.invariant
    ∙ ap (followed_by (forest_of c.args.into.now)) (ap (λ xs. forest_from (map node_of xs)) c.deref-node-items.ensures.value ∙ sym (forest_of-items c.args.more.now)))

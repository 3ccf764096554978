use Rattle.std.proofs.Common.{◌≡◌, rules, [], map, arith, ap, sym, ◌∙◌}
use Rattle.std.proofs.lemmas.List.{nil_from_length}
use Rattle.ng_drawing.specs.Drawing.{followed_by}
use Rattle.ng_html.proofs.Forests.{forest_of-items}
use Rattle.ng_html.specs.Seen.{node_of, forest_of}
use Rattle.ng_markup.specs.Forest.{forest_from}
use Rattle.ng_render.proofs.Walks.{followed-none}
use Rattle.ng_render.proofs.groups.append.Goals as goal

pub returns : goal.returns
returns c =
    let none : c.loop-node.node-iterator.rest.items ≡ [] = nil_from_length c.loop-node.node-iterator.rest.items (omega (arith, c.in-None.ensures.steps.0, c.loop-node.node-iterator.rest.ok.0)) in
    let start : c.into_iter-node-iterator.result.rest.items ≡ c.args.more.items.items = search rules in
    sym (followed-none (forest_of c.loop-node.into))
    ∙ (ap (λ xs. followed_by (forest_of c.loop-node.into) (forest_from (map node_of xs))) (sym none)
    ∙ (c.loop-node.invariant
    ∙ ap (followed_by (forest_of c.args.into.now)) (ap (λ xs. forest_from (map node_of xs)) start ∙ sym (forest_of-items c.args.more))))

use Rattle.std.proofs.Common.{ap, sym, ◌∙◌, map}
use Rattle.std.proofs.lemmas.List.{drop_all}
use Rattle.ng_html.specs.Seen.{node_of}
use Rattle.ng_html.proofs.Forests.{forest_of-items}
use Rattle.ng_markup.specs.Forest.{forest_from}
use Rattle.ng_template.specs.Compiles.{after_forest}
use Rattle.ng_template.proofs.compiling.+pass.Goals as goal

pub after_forest-returns : goal.after_forest-returns
after_forest-returns t c =
    sym (ap (λ xs. after_forest (forest_from (map node_of xs)) c.loop-node.left.now) (drop_all c.loop-node.node-index c.deref-node-items.result.now c.loop-node-test.false))
    ∙ (c.loop-node.invariant
    ∙ sym (ap (λ f. after_forest f c.args.places.now) (forest_of-items c.args.forest.now ∙ ap (λ xs. forest_from (map node_of xs)) (sym c.deref-node-items.ensures.value))))

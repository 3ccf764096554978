use Rattle.std.proofs.Common.{◌∙◌, ◌+◌, ◌++◌, ◌∷◌, [], drop, ap}
use Rattle.ng_base.specs.Objects.{object_at}
use Rattle.ng_base.specs.Views.{prim, views_list}
use Rattle.ng_base.specs.ViewOf.{views_of}
use Rattle.ng_language.specs.Unfolding.{prims}
use Rattle.ng_value.proofs.Unfolds.{items_next}
use Rattle.ng_value.proofs.collecting.items.Goals as goal

pub loop-i-preserved : goal.loop-i-preserved
loop-i-preserved g c =
    let items = (object_at (g.H.Heap.objects c.args.h.now) c.args.o.0).items in
    ap (λ ts. ts ++ prims (drop (c.loop-i.i + 1) items)) (c.in_ok-push.ensures.ok ∙ ap (λ t. views_list (views_of c.loop-i.done) ++ t ∷ []) (c.of_value.ensures ∙ ap prim c.in_ok-item.ensures))
    ∙ (items_next items c.loop-i.i c.item.result.now (views_list (views_of c.loop-i.done)) c.item.ensures.item ∙ c.loop-i.invariant)

use Rattle.std.proofs.Common.{◌∙◌, ◌+◌, drop, sym, ap, subst}
use Rattle.ng_base.specs.Faults.{is_memory}
use Rattle.ng_base.specs.Meets.{Gives}
use Rattle.ng_base.specs.Objects.{object_at}
use Rattle.ng_base.specs.Views.{prim, views_list}
use Rattle.ng_base.specs.ViewOf.{view_of, views_of}
use Rattle.ng_base.specs.declared.value.Value.{Value}
use Rattle.ng_language.specs.Unfolding.{unfold_within, unfold_items, prims}
use Rattle.ng_value.specs.Seen.{view_spent}
use Rattle.ng_value.proofs.Unfolds.{items_err, items_ok, view_step}
use Rattle.ng_value.proofs.unfolding.+unfold.Goals as goal

pub unfold_value-returns-in-Obj : goal.unfold_value-returns-in-Obj
unfold_value-returns-in-Obj g t c =
    subst (λ (v : Value). Gives is_memory view_spent (unfold_within c.args.levels (g.H.Heap.objects c.args.h.now) c.args.mode (prim v) c.args.left) c.unfold_object.result) (sym c.in-Obj.is)
    (view_step c.args.levels c.args.left (g.H.Heap.objects c.args.h.now) c.args.mode _ (λ asked. Gives is_memory view_spent asked c.unfold_object.result) c.if-levels-eq0.false c.if-left-eq0.false c.unfold_object.ensures)

pub unfold_stored-returns-in-Err : goal.unfold_stored-returns-in-Err
unfold_stored-returns-in-Err g t c =
    let objects = g.H.Heap.objects c.args.h.now in
    λ f. sym c.loop-i.invariant
    ∙ items_err (unfold_within c.args.levels objects c.args.mode) (object_at objects c.args.o.0).items c.loop-i.i c.item.result.now (views_list (views_of c.loop-i.done)) c.loop-i.left _ c.item.ensures.item (c.in-Err.ensures f)

pub unfold_stored-loop-i-preserved : goal.unfold_stored-loop-i-preserved
unfold_stored-loop-i-preserved g t c =
    let objects = g.H.Heap.objects c.args.h.now in
    let go = unfold_within c.args.levels objects c.args.mode in
    let items = (object_at objects c.args.o.0).items in
    ap (λ d. unfold_items go (prims (drop (c.loop-i.i + 1) items)) d c.in-Ok.rest) c.in_ok-push-in-Ok.ensures.ok
    ∙ (sym (items_ok go items c.loop-i.i c.item.result.now (views_list (views_of c.loop-i.done)) c.loop-i.left (view_of c.in-Ok.view) c.in-Ok.rest c.item.ensures.item c.in-Ok.ensures) ∙ c.loop-i.invariant)

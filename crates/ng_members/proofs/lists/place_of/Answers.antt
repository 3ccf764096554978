use Rattle.std.proofs.Common.{◌∙◌, ◌<◌, sym, subst, length}
use Rattle.ng_base.specs.ViewOf.{view_of}
use Rattle.ng_members.specs.Methods.{items_of}
use Rattle.ng_members.proofs.Places.{place_here, place_later}
use Rattle.ng_members.proofs.lists.place_of.Goals as goal

pub returns-then-is_item : goal.returns-then-is_item
returns-then-is_item c =
    let items = items_of c.args.store.now (view_of c.args.v.now) in
    let below : c.loop-i.i < length items = subst (λ k. c.loop-i.i < k) c.items_count-i-end.ensures c.loop-i-test.true in
    sym (place_here (view_of c.args.x.now) items c.loop-i.i below (sym c.is_item.ensures ∙ c.if-is_item.true)) ∙ c.loop-i.invariant

pub loop-i-preserved : goal.loop-i-preserved
loop-i-preserved c =
    let items = items_of c.args.store.now (view_of c.args.v.now) in
    let below : c.loop-i.i < length items = subst (λ k. c.loop-i.i < k) c.items_count-i-end.ensures c.loop-i-test.true in
    sym (place_later (view_of c.args.x.now) items c.loop-i.i below (sym c.is_item.ensures ∙ c.if-is_item.false)) ∙ c.loop-i.invariant

use Rattle.std.proofs.Common.{◌∙◌, ◌<◌, ◌+◌, ap, sym, subst, length, drop}
use Rattle.ng_base.specs.ViewOf.{view_of}
use Rattle.ng_members.specs.Methods.{items_of, joined_behind}
use Rattle.ng_members.proofs.Places.{joined_ok, joined_err}
use Rattle.ng_members.proofs.lists.join_behind.Goals as goal

pub returns-in-Err : goal.returns-in-Err
returns-in-Err c = λ f.
    let items = items_of c.args.store.now (view_of c.args.v.now) in
    let below : c.loop-i.i < length items = subst (λ k. c.loop-i.i < k) c.items_count-i-end.ensures c.loop-i-test.true in
    sym c.loop-i.invariant ∙ joined_err c.args.store.now c.args.between.now c.loop-i.done items c.loop-i.i c.in-Err.fault below (c.in-Err.ensures f)

pub loop-i-preserved : goal.loop-i-preserved
loop-i-preserved c =
    let items = items_of c.args.store.now (view_of c.args.v.now) in
    let below : c.loop-i.i < length items = subst (λ k. c.loop-i.i < k) c.items_count-i-end.ensures c.loop-i-test.true in
    ap (λ d. joined_behind c.args.store.now c.args.between.now d (drop (c.loop-i.i + 1) items)) c.in_ok-append_text-in-Ok.ensures
    ∙ (sym (joined_ok c.args.store.now c.args.between.now c.loop-i.done items c.loop-i.i c.in-Ok.text below c.in-Ok.ensures) ∙ c.loop-i.invariant)

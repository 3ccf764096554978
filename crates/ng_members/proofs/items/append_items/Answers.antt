use Rattle.std.proofs.Common.{◌∙◌, ◌+◌, ◌-◌, ◌++◌, ap, sym, subst, length, take, drop}
use Rattle.std.specs.List.{AllByRecursion}
use Rattle.ng_base.specs.Views.{views_list}
use Rattle.ng_base.specs.ViewOf.{view_of, views_of}
use Rattle.ng_language.specs.Views.{ViewStands}
use Rattle.ng_members.specs.Methods.{items_of}
use Rattle.ng_members.proofs.Places.{part_more}
use Rattle.ng_members.proofs.Stand.{all_more}
use Rattle.ng_members.proofs.items.append_items.Goals as goal

pub loop-i-preserved : goal.loop-i-preserved
loop-i-preserved c =
    let n = length c.args.store.now in
    let items = items_of c.args.store.now (view_of c.args.v.now) in
    let done = views_list (views_of c.loop-i.done) in
    let t = view_of c.in_ok-item_at.field-0 in
    record {
      stands = subst (AllByRecursion (ViewStands n)) (sym c.in_ok-push.ensures.ok) (all_more n done t c.loop-i.invariant.stands c.in_ok-item_at.ensures.stands);
      same =
          ap (λ d. d ++ take (c.args.to - (c.loop-i.i + 1)) (drop (c.loop-i.i + 1) items)) c.in_ok-push.ensures.ok
          ∙ (part_more done items t c.loop-i.i c.args.to c.loop-i-test.true c.in_ok-item_at.ensures.item ∙ c.loop-i.invariant.same);
    }

use Rattle.std.proofs.Common.{◌≡◌, ◌∙◌, ◌∷◌, ◌++◌, [], length, subst, sym, ap}
use Rattle.std.specs.List.{AllByRecursion}
use Rattle.ng_base.specs.Objects.{StandsAmong}
use Rattle.ng_language.specs.Objects.{items_at}
use Rattle.ng_commands.proofs.Taken.{taken_more, all_more}
use Rattle.ng_commands.proofs.running.items.Goals as goal

pub loop-i-preserved : goal.loop-i-preserved
loop-i-preserved c =
    let there : StandsAmong (length c.args.store.now) c.item.result.now = c.item.ensures.stands in
    let same : c.in_ok-copied.field-0 ≡ c.item.result.now = c.in_ok-copied.ensures in (
      c.in_ok-push.ensures.ok ∙ (ap (λ v. c.loop-i.values ++ v ∷ []) same ∙ taken_more (items_at c.args.store.now c.args.o.0) c.loop-i.values c.loop-i.i c.item.result.now c.loop-i.invariant.0 c.item.ensures.item),
      subst (AllByRecursion (StandsAmong (length c.args.store.now))) (sym c.in_ok-push.ensures.ok) (all_more (StandsAmong (length c.args.store.now)) c.loop-i.values c.in_ok-copied.field-0 c.loop-i.invariant.1 (subst (StandsAmong (length c.args.store.now)) (sym same) there)),
    )

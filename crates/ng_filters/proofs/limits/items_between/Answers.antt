use Rattle.std.proofs.Common.{◌≡◌, ◌∙◌, ◌+◌, ◌-◌, ◌++◌, ◌∷◌, [], ap, sym, take, drop, arith, append_assoc}
use Rattle.ng_base.specs.Views.{views_list}
use Rattle.ng_base.specs.ViewOf.{view_of, views_of}
use Rattle.ng_filters.specs.Parts.{items}
use Rattle.ng_filters.specs.Seen.{seen}
use Rattle.ng_filters.proofs.ViewParts.{take_step}
use Rattle.ng_filters.proofs.limits.items_between.Goals as goal

pub loop-i-preserved : goal.loop-i-preserved
loop-i-preserved c =
    let xs = items c.args.store.now (seen c.args.v) in
    let i = c.loop-i.i in
    let done = views_list (views_of c.loop-i.done) in
    let behind = take (c.args.end - (i + 1)) (drop (i + 1) xs) in
    let t = view_of c.in_ok-item.item in
    let step : take (c.args.end - i) (drop i xs) ≡ t ∷ behind = take_step xs i c.args.end t c.in_ok-item.ensures.item (omega arith) in
    ap (λ d. d ++ behind) c.in_ok-push.ensures.ok ∙ (append_assoc done (t ∷ []) behind ∙ (ap (λ ys. done ++ ys) (sym step) ∙ c.loop-i.invariant))

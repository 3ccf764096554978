use Rattle.std.proofs.Common.{◌∙◌, List, ap, subst, sym}
use Rattle.ng_changes.proofs.Answered.{ok_then}
use Rattle.ng_fire.proofs.RowsLeft.{arranged_same}
use Rattle.ng_instances.specs.Instances.{Body}
use Rattle.ng_link.specs.Arranging.{IsRearranged}
use Rattle.ng_link.specs.Calls.{arranged_at}
use Rattle.ng_link.specs.State.{state_of}
use Rattle.ng_rows.specs.RepeatRows.{kept_rows}
use Rattle.ng_rows.specs.RepeatsOf.{rows_of}
use Rattle.ng_fire.proofs.repeats.arrange_rows.Goals as goal

pub returns-then-are_in_order-clause-state : goal.returns-then-are_in_order-clause-state
returns-then-are_in_order-clause-state c =
    let spot = c.args.spot.now in
    arranged_same spot.holder.now spot.outlet (kept_rows (rows_of c.args.rows.now)) (state_of c.args.works.now) (c.requires.order (c.are_in_order.ensures c.if-are_in_order.true))

pub arrange-requires-clause-same : goal.arrange-requires-clause-same
arrange-requires-clause-same c =
    let spot = c.args.spot.now in
    subst (λ (bs : List Body). IsRearranged bs spot.outlet spot.holder.now (state_of c.args.works.now).instances) (sym c.in_ok-kept_rows.ensures) c.requires.same

pub returns-clause-state : goal.returns-clause-state
returns-clause-state c =
    let spot = c.args.spot.now in
    ok_then c.arrange.result c.arrange.ensures.state
    (λ state. state ∙ ap (λ (bs : List Body). arranged_at spot.holder.now spot.outlet bs (state_of c.args.works.now)) c.in_ok-kept_rows.ensures)

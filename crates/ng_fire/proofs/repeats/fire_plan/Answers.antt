use Rattle.std.proofs.Common.{◌≡◌, ◌∙◌, ℕ, true, List, ap, length, map, subst, sym}
use Rattle.std.specs.Prelude.{Result}
use Rattle.ng_base.specs.declared.name.ScopeId.{ScopeId}
use Rattle.ng_blocks.specs.declared.plans.Plan.{Plan}
use Rattle.ng_blocks.specs.declared.plans.PlanFault.{PlanFault}
use Rattle.ng_drawing.specs.declared.origin.Origin.{Origin}
use Rattle.ng_drawing.specs.Template.{Repeated}
use Rattle.ng_changes.proofs.Answered.{ok_then}
use Rattle.ng_fire.proofs.KeptRows.{kept_or_gone, rows_stand}
use Rattle.ng_fire.proofs.RowsKept.{plan_part}
use Rattle.ng_fire.specs.Blocks.{Firing}
use Rattle.ng_fire.specs.FireOf.{firing}
use Rattle.ng_rows.specs.RepeatRows.{Row, as_fault, kept_rows}
use Rattle.ng_fire.specs.Repeats.{bodies_at, by_plan, rows_changed}
use Rattle.ng_rows.specs.RepeatsOf.{RowsOfStand, rows_of}
use Rattle.ng_rows.specs.RowsInOrder.{IsPart, in_order}
use Rattle.ng_fire.specs.RowsKnown.{KeptOrGone}
use Rattle.ng_fire.specs.Serving.{BodiesStay}
use Rattle.ng_rows.specs.TrackingOf.{items_of}
use Rattle.ng_instances.specs.Instances.{Body}
use Rattle.ng_instances.specs.InstanceOf.{body_of}
use Rattle.ng_link.specs.State.{state_of}
use Rattle.ng_parts.specs.RepeatedOf.{repeated_of}
use Rattle.ng_fire.proofs.repeats.fire_plan.Goals as goal

pub change_rows-requires-clause-rows : goal.change_rows-requires-clause-rows
change_rows-requires-clause-rows c =
    let n = length c.args.works.now.core.store in
    let bs : List Body = map body_of c.args.bodies.now in
    subst (λ (rs : List Row). RowsOfStand n rs) (sym (ap rows_of c.as_slice.ensures.value ∙ c.in_ok-rows.ensures)) (rows_stand n bs (items_of c.args.items.now) c.args.keys.now c.args.plan.now.from c.requires.items)

pub change_rows-requires-clause-all : goal.change_rows-requires-clause-all
change_rows-requires-clause-all c =
    let bs : List Body = map body_of c.args.bodies.now in
    subst (λ (rs : List Row). KeptOrGone bs c.args.plan.now.gone rs) (sym (ap rows_of c.as_slice.ensures.value ∙ c.in_ok-rows.ensures))
    (kept_or_gone bs (items_of c.args.items.now) c.args.keys.now c.args.plan.now c.requires.old c.requires.plan c.requires.as_many)

pub change_rows-requires-clause-order : goal.change_rows-requires-clause-order
change_rows-requires-clause-order c =
    let bs : List Body = map body_of c.args.bodies.now in
    let ps = c.args.plan.now.from in
    subst (λ (rs : List Row). in_order bs 0 rs ps ≡ true → IsPart (kept_rows rs) bs) (sym (ap rows_of c.as_slice.ensures.value ∙ c.in_ok-rows.ensures))
    (plan_part bs (items_of c.args.items.now) c.args.keys.now c.args.plan.now c.requires.plan)

pub returns-clause-fired : goal.returns-clause-fired
returns-clause-fired c =
    let w = c.args.works.now in
    let spot = c.args.spot.now in
    let holder : List ℕ = spot.holder.now in
    let scope : ℕ = spot.scope.0 in
    let outs : List ℕ = map (λ (n : ScopeId). n.0) spot.outsides.now in
    let which : Origin = spot.origin in
    let r : Repeated = repeated_of c.args.repeated.now in
    let bs : List Body = map body_of c.args.bodies.now in
    let g : Firing = firing w c.args.told.now in
    ok_then c.change_rows.result c.change_rows.ensures.fired
    (λ fired. fired
    ∙ (ap (λ (rs : List Row). rows_changed holder scope outs spot.outlet which r (bodies_at bs c.args.plan.now.gone) rs g) (ap rows_of c.as_slice.ensures.value ∙ c.in_ok-rows.ensures)
    ∙ sym (ap (λ (p : Result Plan PlanFault). by_plan holder scope outs spot.outlet which r bs (items_of c.args.items.now) c.args.keys.now (as_fault p) g) c.requires.plan)))

pub returns-clause-kept : goal.returns-clause-kept
returns-clause-kept c =
    let w = c.args.works.now in
    ok_then c.change_rows.result c.change_rows.ensures.kept
    (λ kept. subst (λ (rs : List Row). BodiesStay (kept_rows rs) (state_of w).instances (state_of c.change_rows.new.works).instances) (ap rows_of c.as_slice.ensures.value ∙ c.in_ok-rows.ensures) kept)

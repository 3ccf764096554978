use Rattle.std.proofs.Common.{◌≡◌, ◌∙◌, ℕ, List, ap, map, subst, sym, false}
use Rattle.std.specs.Prelude.{Result, Ok, Err}
use Rattle.ng_base.specs.declared.name.ScopeId.{ScopeId}
use Rattle.ng_base.specs.declared.fault.Fault.{Fault}
use Rattle.ng_blocks.specs.Plans.{planned, has_double}
use Rattle.ng_blocks.specs.declared.plans.Plan.{Plan}
use Rattle.ng_drawing.specs.Template.{Repeated}
use Rattle.ng_changes.proofs.Answered.{ok_then, there}
use Rattle.ng_fire.proofs.BlockBodies.{outlet_there}
use Rattle.ng_fire.proofs.PlanFound.{plan_is}
use Rattle.ng_fire.proofs.RowsTaken.{keeps_same}
use Rattle.ng_fire.specs.Blocks.{Firing}
use Rattle.ng_fire.specs.FireOf.{firing}
use Rattle.ng_rows.specs.RepeatRows.{as_fault, keys_of}
use Rattle.ng_fire.specs.Repeats.{bodies_or, by_keys, by_plan, rows_at}
use Rattle.ng_rows.specs.TrackingOf.{items_of}
use Rattle.ng_instances.specs.Instances.{Body, linked_at}
use Rattle.ng_instances.specs.PlaceOf.{outlet_of_linked}
use Rattle.ng_instances.specs.InstanceOf.{body_of}
use Rattle.ng_link.specs.State.{state_of}
use Rattle.ng_parts.specs.RepeatedOf.{repeated_of}
use Rattle.ng_fire.proofs.repeats.fire_keyed.Goals as goal

pub fire_plan-requires-clause-old : goal.fire_plan-requires-clause-old
fire_plan-requires-clause-old c =
    c.in_ok-f.ensures.old

pub fire_plan-requires-clause-plan : goal.fire_plan-requires-clause-plan
fire_plan-requires-clause-plan c =
    plan_is (planned (keys_of (map body_of c.args.bodies.now)) c.args.keys.now) c.in-Ok.plan (sym c.in_ok-f.ensures.plan ∙ c.in-Ok.is)

pub returns-in-Err-clause-fired : goal.returns-in-Err-clause-fired
returns-in-Err-clause-fired c =
    let w = c.args.works.now in
    let spot = c.args.spot.now in
    let holder : List ℕ = spot.holder.now in
    let is = (state_of w).instances in
    let scope : ℕ = spot.scope.0 in
    let outs : List ℕ = map (λ (n : ScopeId). n.0) spot.outsides.now in
    let r : Repeated = repeated_of c.args.repeated.now in
    let g : Firing = firing w c.args.told.now in
    let stand = c.requires.stand in
    let refused : as_fault (planned (keys_of (rows_at holder spot.outlet is)) c.args.keys.now) ≡ Err c.in-Err.f =
    ap (λ (bs : List Body). as_fault (planned (keys_of bs) c.args.keys.now)) stand ∙ (sym c.in_ok-f.ensures.plan ∙ c.in-Err.is) in
    c.fault.ensures.fired
    ∙ sym (ap (λ (p : Result Plan Fault). by_plan holder scope outs spot.outlet spot.origin r (rows_at holder spot.outlet is) (items_of c.args.items.now) c.args.keys.now p g) refused)

pub returns-in-Ok-clause-fired : goal.returns-in-Ok-clause-fired
returns-in-Ok-clause-fired c =
    let w = c.args.works.now in
    let spot = c.args.spot.now in
    let holder : List ℕ = spot.holder.now in
    let is = (state_of w).instances in
    let scope : ℕ = spot.scope.0 in
    let outs : List ℕ = map (λ (n : ScopeId). n.0) spot.outsides.now in
    let r : Repeated = repeated_of c.args.repeated.now in
    let g : Firing = firing w c.args.told.now in
    let stand = c.requires.stand in
    ok_then c.fire_plan.result c.fire_plan.ensures.fired
    (λ fired. fired ∙ sym (ap (λ (bs : List Body). by_keys holder scope outs spot.outlet spot.origin r bs (items_of c.args.items.now) (Ok c.args.keys.now) g) stand))

pub returns-in-Err-clause-keeps : goal.returns-in-Err-clause-keeps
returns-in-Err-clause-keeps c =
    keeps_same c.args.spot.now.holder.now (state_of c.args.works.now).instances (state_of c.fault.new.works).instances (ap (λ (g : Firing). g.state.instances) c.fault.ensures.fired)

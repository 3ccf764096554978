use Rattle.std.proofs.Common.{rules, ◌≡◌, ◌∙◌, ◌<◌, ℕ, false, List, [], ap, length, map, subst, sym, arith}
use Rattle.std.specs.Prelude.{Result, Err}
use Rattle.ng_base.specs.declared.name.ScopeId.{ScopeId}
use Rattle.ng_base.specs.Faults.{is_memory}
use Rattle.ng_base.specs.declared.fault.Fault.{Fault}
use Rattle.ng_behaviour.specs.Scopes.{object_at}
use Rattle.ng_blocks.specs.declared.keys.TrackKey.{TrackKey}
use Rattle.ng_drawing.specs.Template.{Repeated}
use Rattle.ng_changes.proofs.Answered.{there}
use Rattle.ng_fire.proofs.BlockBodies.{at_stands, outlet_there}
use Rattle.ng_fire.proofs.KeptRows.{as_many}
use Rattle.ng_fire.proofs.RowsTaken.{keeps_same}
use Rattle.ng_fire.specs.Blocks.{Firing}
use Rattle.ng_fire.specs.FireOf.{firing}
use Rattle.ng_fire.specs.Repeats.{bodies_or, by_keys, rows_at}
use Rattle.ng_rows.specs.Tracking.{Item, track_keys}
use Rattle.ng_rows.specs.TrackingOf.{ItemsStand, items_of}
use Rattle.ng_instances.specs.Instances.{linked_at}
use Rattle.ng_instances.specs.PlaceOf.{outlet_of_linked}
use Rattle.ng_instances.specs.InstanceOf.{body_of}
use Rattle.ng_link.specs.State.{state_of}
use Rattle.ng_parts.specs.RepeatedOf.{repeated_of}
use Rattle.ng_fire.proofs.repeats.fire_items.Goals as goal

pub object-object-requires : goal.object-object-requires
object-object-requires c =
    let w = c.args.works.now in
    let spot = c.args.spot.now in
    (at_stands w.core.scopes (state_of w).inner (state_of w).instances spot.holder.now spot.outlet spot.scope.0 (map (λ (n : ScopeId). n.0) spot.outsides.now) c.requires.whole.scopes c.requires.spot.outlet).within

pub track_keys-tracked-requires-clause-object : goal.track_keys-tracked-requires-clause-object
track_keys-tracked-requires-clause-object c =
    let w = c.args.works.now in
    let spot = c.args.spot.now in
    let lt = (at_stands w.core.scopes (state_of w).inner (state_of w).instances spot.holder.now spot.outlet spot.scope.0 (map (λ (n : ScopeId). n.0) spot.outsides.now) c.requires.whole.scopes c.requires.spot.outlet).within in
    subst (λ (o : ℕ). o < length w.core.store) (sym c.object-object.ensures) (c.requires.whole.sound.objects.below spot.scope.0 lt)

pub track_keys-tracked-requires-clause-items : goal.track_keys-tracked-requires-clause-items
track_keys-tracked-requires-clause-items c = subst (λ (xs : List Item). ItemsStand (length c.args.works.now.core.store) xs) (sym (ap items_of c.as_slice-entries.ensures.value)) c.requires.items

pub fire_keyed-requires-clause-items : goal.fire_keyed-requires-clause-items
fire_keyed-requires-clause-items c = subst (λ (xs : List Item). ItemsStand (length c.args.works.now.core.store) xs) (sym (ap items_of c.as_slice-entries.ensures.value)) c.requires.items

-- the outlet is there, and so its rows are those that are copied
pub fire_keyed-requires-clause-stand : goal.fire_keyed-requires-clause-stand
fire_keyed-requires-clause-stand c =
    let is = (state_of c.args.works.now).instances in
    let spot = c.args.spot.now in
    let one = there (outlet_of_linked spot.outlet (linked_at spot.holder.now is)) (outlet_there spot.holder.now spot.outlet spot.scope.0 (map (λ (n : ScopeId). n.0) spot.outsides.now) is c.requires.spot.outlet) in
    ap bodies_or one.1 ∙ (sym (c.in_ok-bodies.ensures one.0 one.1) ∙ sym (ap (map body_of) c.as_slice-rows.ensures.value))

pub fire_keyed-requires-clause-as_many : goal.fire_keyed-requires-clause-as_many
fire_keyed-requires-clause-as_many c =
    let same = ap (λ (xs : List Item). length xs) (ap items_of c.as_slice-entries.ensures.value) in
    let many = as_many c.args.works.now.core.store c.object-object.result.0 (repeated_of c.args.repeated.now) 0 [] (items_of c.as_slice-entries.result.now) c.in-Ok.keys c.in-Ok.ensures in
    omega (arith, many, same)

-- what the track keys come to over the scope's object
pub returns-in-Err-clause-fired : goal.returns-in-Err-clause-fired
returns-in-Err-clause-fired c =
    let w = c.args.works.now in
    let spot = c.args.spot.now in
    let holder : List ℕ = spot.holder.now in
    let scope : ℕ = spot.scope.0 in
    let outs : List ℕ = map (λ (n : ScopeId). n.0) spot.outsides.now in
    let r : Repeated = repeated_of c.args.repeated.now in
    let xs : List Item = items_of c.args.items.items in
    let other : is_memory c.in-Err.f ≡ false = first_of (search rules, grind arith) in
    let asked : track_keys w.core.store (object_at w.core.scopes scope) r 0 [] xs ≡ Err c.in-Err.f =
    ap (λ (o : ℕ). track_keys w.core.store o r 0 [] xs) (sym c.object-object.ensures)
    ∙ (ap (λ (ys : List Item). track_keys w.core.store c.object-object.result.0 r 0 [] ys) (sym (ap items_of c.as_slice-entries.ensures.value)) ∙ c.in-Err.ensures other) in
    c.fault.ensures.fired
    ∙ sym (ap (λ (k : Result (List TrackKey) Fault). by_keys holder scope outs spot.outlet spot.origin r (rows_at holder spot.outlet (state_of w).instances) xs k (firing w c.args.told.now)) asked)

pub returns-in-Err-clause-keeps : goal.returns-in-Err-clause-keeps
returns-in-Err-clause-keeps c =
    keeps_same c.args.spot.now.holder.now (state_of c.args.works.now).instances (state_of c.fault.new.works).instances (ap (λ (g : Firing). g.state.instances) c.fault.ensures.fired)

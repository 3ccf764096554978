use Rattle.std.proofs.Common.{◌≡◌, ℕ, List, Option, map, subst}
use Rattle.ng_link.specs.Arranging.{IsOrder}
use Rattle.ng_instances.specs.Instances.{OutletState, linked_at}
use Rattle.ng_instances.specs.PlaceOf.{outlet_of_linked}
use Rattle.ng_instances.specs.InstanceOf.{body_of}
use Rattle.ng_link.specs.State.{state_of, templates_of}
use Rattle.ng_instances.specs.declared.instances.Body as code
use Rattle.ng_link.specs.declared.works.Works.{Works}
use Rattle.ng_link.proofs.Rearranged.{arranged_state, arranged_stands}
use Rattle.ng_link.proofs.works.Works.arrange.Goals as goal

-- the order of bodies is that of the same bodies
order_is : (r : Option (ℕ × List ℕ)) (bs cs : List code.Body) (y : Option OutletState) → bs ≡ cs → IsOrder r (map body_of bs) y → IsOrder r (map body_of cs) y
order_is r bs cs y same order = subst (λ (xs : List code.Body). IsOrder r (map body_of xs) y) same order

pub returns-clause-state : goal.returns-clause-state
returns-clause-state c =
    let w : Works = c.args.self.now in
    arranged_state w c.set_held.new.instances c.pick.new.dom c.args.holder.now c.args.outlet (map body_of c.args.bodies.items) c.in_ok-order.order
    c.requires.stands c.requires.same (order_is c.in_ok-order.order c.as_slice.result.now c.args.bodies.items (outlet_of_linked c.args.outlet (linked_at c.args.holder.now (state_of w).instances)) c.as_slice.ensures.value (c.in_ok-order.ensures (templates_of w))) c.in_ok-pick.ensures (c.set_held.ensures.arranged (templates_of w)) (c.set_held.ensures.spots w.inner.entries)

pub returns-clause-stands : goal.returns-clause-stands
returns-clause-stands c =
    let w : Works = c.args.self.now in
    arranged_stands w c.set_held.new.instances c.pick.new.dom c.args.holder.now c.args.outlet (map body_of c.args.bodies.items) c.in_ok-order.order
    c.requires.stands c.requires.same (order_is c.in_ok-order.order c.as_slice.result.now c.args.bodies.items (outlet_of_linked c.args.outlet (linked_at c.args.holder.now (state_of w).instances)) c.as_slice.ensures.value (c.in_ok-order.ensures (templates_of w))) c.in_ok-pick.ensures (c.set_held.ensures.arranged (templates_of w)) (c.set_held.ensures.spots w.inner.entries)

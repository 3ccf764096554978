use Rattle.std.proofs.Common.{◌≡◌, ◌∙◌, ℕ, List, Option, Some, None, sym, ap, subst, refl, true, map}
use Rattle.std.specs.Prelude.{option_map}
use Rattle.ng_link.specs.Arranging.{are_alike, AreAt, IsOrder}
use Rattle.ng_instances.specs.Instances.{OutletState}
use Rattle.ng_instances.specs.InstanceOf.{body_of, outlet_of}
use Rattle.ng_instances.specs.declared.instances.Body as code
use Rattle.ng_link.proofs.arranging.order_in.Goals as goal

pub returns-in-None : goal.returns-in-None
returns-in-None c = λ all.
    let new = map body_of c.args.bodies.now in
    subst (λ (y : Option OutletState). IsOrder None new y) (sym (ap (option_map (λ x. outlet_of x.now)) c.in-None.is) ∙ c.outlet_in.ensures all) refl

pub returns-then-are_alike : goal.returns-then-are_alike
returns-then-are_alike c = λ all.
    let new = map body_of c.args.bodies.now in
    let x = c.in-Some.state.now in
    let alike : are_alike (map body_of x.bodies.items) new ≡ true = ap (λ (bs : List code.Body). are_alike (map body_of bs) new) (sym c.as_slice.ensures.value) ∙ (sym c.are_alike.ensures ∙ c.if-are_alike.true) in
    subst (λ (y : Option OutletState). IsOrder None new y) (sym (ap (option_map (λ z. outlet_of z.now)) c.in-Some.is) ∙ c.outlet_in.ensures all) alike

pub returns-in_ok-order-in-Some : goal.returns-in_ok-order-in-Some
returns-in_ok-order-in-Some c = λ all.
    let new = map body_of c.args.bodies.now in
    let x = c.in-Some.state.now in
    let order : List ℕ = c.in_ok-order-in-Some.order in
    let at : AreAt (map body_of x.bodies.items) order new = subst (λ (bs : List code.Body). AreAt (map body_of bs) order new) c.as_slice-in-Some.ensures.value c.in_ok-order-in-Some.ensures in
    subst (λ (y : Option OutletState). IsOrder (Some (x.anchor, order)) new y) (sym (ap (option_map (λ z. outlet_of z.now)) c.in-Some.is) ∙ c.outlet_in.ensures all) (refl, at)

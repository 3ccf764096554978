use Rattle.std.proofs.Common.{◌≡◌, Some, None, ap, sym, ◌∙◌, map}
use Rattle.std.specs.Prelude.{option_map}
use Rattle.std.proofs.lemmas.Result.{IfOk-weaker}
use Rattle.ng_instances.specs.Instances.{OutletState, linked_at}
use Rattle.ng_instances.specs.PlaceOf.{outlet_of_linked}
use Rattle.ng_instances.specs.InstanceOf.{body_of, outlet_of}
use Rattle.ng_link.specs.State.{state_of, templates_of}
use Rattle.ng_link.proofs.works.Works.bodies_in.Goals as goal

pub returns-in-None : goal.returns-in-None
returns-in-None c = λ x at.
    let two : None ≡ Some x = sym (ap (option_map (λ o. outlet_of o.now)) c.in-None.is) ∙ (c.outlet_in.ensures (templates_of c.args.self.now) ∙ at) in
    absurd (cc)

pub returns-in-Some : goal.returns-in-Some
returns-in-Some c =
    let w = c.args.self.now in
    let s = c.in-Some.state.now in
    IfOk-weaker c.copied_bodies.result (λ v. map body_of v.items ≡ map body_of c.as_slice.result.now)
    (λ v. (x : OutletState) → outlet_of_linked c.args.outlet (linked_at c.args.holder.now (state_of w).instances) ≡ Some x → map body_of v.items ≡ x.bodies)
    (λ v same x at.
    let two : Some (outlet_of s) ≡ Some x = sym (ap (option_map (λ o. outlet_of o.now)) c.in-Some.is) ∙ (c.outlet_in.ensures (templates_of w) ∙ at) in
    let one : outlet_of s ≡ x = cc in
    same ∙ (ap (map body_of) c.as_slice.ensures.value ∙ ap (λ (y : OutletState). y.bodies) one))
    c.copied_bodies.ensures

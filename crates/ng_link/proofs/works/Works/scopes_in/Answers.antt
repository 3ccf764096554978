use Rattle.std.proofs.Common.{◌≡◌, Some, None, ap, sym, ◌∙◌, map}
use Rattle.std.specs.Prelude.{option_map}
use Rattle.ng_instances.specs.Instances.{OutletState}
use Rattle.ng_instances.specs.InstanceOf.{body_of, outlet_of}
use Rattle.ng_link.specs.Events.{scopes_at}
use Rattle.ng_link.specs.State.{state_of, templates_of}
use Rattle.ng_link.proofs.works.Works.scopes_in.Goals as goal

pub returns-in-None : goal.returns-in-None
returns-in-None c = λ x at.
    let two : None ≡ Some x = sym (ap (option_map (λ o. outlet_of o.now)) c.in-None.is) ∙ (c.outlet_in.ensures (templates_of c.args.self.now) ∙ at) in
    absurd (cc)

pub returns-in_ok-scopes_of-in-Some : goal.returns-in_ok-scopes_of-in-Some
returns-in_ok-scopes_of-in-Some c = λ x at.
    let w = c.args.self.now in
    let s = c.in-Some.state.now in
    let is = (state_of w).instances in
    let two : Some (outlet_of s) ≡ Some x = sym (ap (option_map (λ o. outlet_of o.now)) c.in-Some.is) ∙ (c.outlet_in.ensures (templates_of w) ∙ at) in
    let one : outlet_of s ≡ x = cc in
    c.in_ok-scopes_of-in-Some.ensures (templates_of w) ∙ (ap (λ bs. scopes_at (map body_of bs) is) c.as_slice.ensures.value ∙ ap (λ (y : OutletState). scopes_at y.bodies is) one)

use Rattle.std.proofs.Common.{◌≡◌, ◌∙◌, ◌<◌, ℕ, List, [], ap, length, map, subst, sym}
use Rattle.std.specs.Prelude.{IsSome, Option, Some, Ok}
use Rattle.ng_base.specs.declared.name.ScopeId.{ScopeId}
use Rattle.ng_behaviour.specs.Scopes.{path_at}
use Rattle.ng_drawing.specs.RolesOf.{role_of}
use Rattle.ng_drawing.specs.declared.origin.Origin.{Origin}
use Rattle.ng_changes.proofs.Answered.{ok_then, some_is, there}
use Rattle.ng_changes.proofs.Bodies.{new_free}
use Rattle.ng_fire.proofs.BlockBodies.{at_stands, body_serves, outlet_there}
use Rattle.ng_fire.proofs.NewRows.{body_same, filled_on}
use Rattle.ng_steps.proofs.Placed.{below_more}
use Rattle.ng_fire.proofs.Served.{at_linked, at_still}
use Rattle.ng_changes.specs.ChildRun.{child_run}
use Rattle.ng_fire.specs.Blocks.{Firing, body_on}
use Rattle.ng_changes.specs.FiringOf.{child_made}
use Rattle.ng_fire.specs.FireOf.{firing}
use Rattle.ng_steps.specs.LinkingOf.{AreBelow}
use Rattle.ng_fire.specs.Serving.{IsAt, Serves, bare_outlets}
use Rattle.ng_instances.specs.Changing.{Place, in_outlet}
use Rattle.ng_instances.specs.Instances.{Instances, instance_path, linked_at}
use Rattle.ng_link.specs.FreePlace.{IsNewBelow}
use Rattle.ng_link.specs.State.{State, state_of, templates_of}
use Rattle.ng_drawing.specs.Named.{Named, fragment_for}
use Rattle.ng_fire.proofs.blocks.make_body.Goals as goal

pub make_child-requires-clause-scope : goal.make_child-requires-clause-scope
make_child-requires-clause-scope c =
    let w = c.args.works.now in
    let due = c.args.due.now in
    (at_stands w.core.scopes (state_of w).inner (state_of w).instances c.args.holder.now due.outlet due.scope.0 (map (λ (n : ScopeId). n.0) due.outsides.items) c.requires.whole.scopes c.requires.outlet).within

pub link_body-requires-clause-template : goal.link_body-requires-clause-template
link_body-requires-clause-template c = subst (λ (ts : List Named). IsSome (fragment_for ts c.args.origin.now)) (sym c.make_child.ensures.templates) c.requires.template

pub link_body-requires-clause-scope : goal.link_body-requires-clause-scope
link_body-requires-clause-scope c = some_is (λ (s : ScopeId). s.0 < length c.make_child.new.works.core.scopes) _ c.in-Some.child c.in_ok-child.ensures.within c.in-Some.is

pub link_body-requires-clause-outsides : goal.link_body-requires-clause-outsides
link_body-requires-clause-outsides c =
    let w = c.args.works.now in
    let due = c.args.due.now in
    let outs : List ℕ = map (λ (n : ScopeId). n.0) due.outsides.items in
    let are = at_stands w.core.scopes (state_of w).inner (state_of w).instances c.args.holder.now due.outlet due.scope.0 outs c.requires.whole.scopes c.requires.outlet in
    subst (λ (xs : List ScopeId). AreBelow (length c.make_child.new.works.core.scopes) (map (λ (n : ScopeId). n.0) xs)) (sym c.as_slice.ensures.value) (below_more _ _ outs c.in_ok-child.ensures.count are.outs)

pub link_body-requires-clause-free : goal.link_body-requires-clause-free
link_body-requires-clause-free c =
    let w = c.args.works.now in
    let m = c.make_child.new.works in
    let due = c.args.due.now in
    let o : ℕ = due.outlet in
    let outs : List ℕ = map (λ (n : ScopeId). n.0) due.outsides.items in
    let are = at_stands w.core.scopes (state_of w).inner (state_of w).instances c.args.holder.now o due.scope.0 outs c.requires.whole.scopes c.requires.outlet in
    let same : (state_of m).instances ≡ (state_of w).instances = ap (λ (s : State). s.instances) c.make_child.ensures.state in
    let at : IsAt c.in_ok-copied.field-0 (state_of m).instances o due.scope.0 outs =
    subst (λ (p : List ℕ). IsAt p (state_of m).instances o due.scope.0 outs) (sym c.in_ok-copied.ensures)
    (at_still c.args.holder.now (state_of w).instances (state_of m).instances o due.scope.0 outs (ap (bare_outlets c.args.holder.now) same) c.requires.outlet) in
    let new = some_is (λ (s : ScopeId). IsNewBelow (instance_path (state_of w).inner (path_at w.core.scopes due.scope.0)) (path_at m.core.scopes s.0) (state_of m)) _ c.in-Some.child c.in_ok-child.ensures.free c.in-Some.is in (
      outlet_there c.in_ok-copied.field-0 o due.scope.0 outs (state_of m).instances at,
      subst (λ (h : List ℕ). IsNewBelow h (path_at m.core.scopes c.in-Some.child.0) (state_of m)) (are.path ∙ sym c.in_ok-copied.ensures) new,
    )

pub returns-in-Some-clause-serves : goal.returns-in-Some-clause-serves
returns-in-Some-clause-serves c =
    let w = c.args.works.now in
    let m = c.make_child.new.works in
    let v = c.link_body.new.works in
    let due = c.args.due.now in
    let holder : List ℕ = c.args.holder.now in
    let copy : List ℕ = c.in_ok-copied.field-0 in
    let o : ℕ = due.outlet in
    let outs : List ℕ = map (λ (n : ScopeId). n.0) due.outsides.items in
    let given : List ℕ = map (λ (n : ScopeId). n.0) c.as_slice.result.now in
    let which : Origin = c.args.origin.now in
    let child : ℕ = c.in-Some.child.0 in
    let s : State = state_of m in
    let are = at_stands w.core.scopes (state_of w).inner (state_of w).instances holder o due.scope.0 outs c.requires.whole.scopes c.requires.outlet in
    let same : s.instances ≡ (state_of w).instances = ap (λ (x : State). x.instances) c.make_child.ensures.state in
    let held : IsSome (linked_at copy s.instances) =
    subst (λ (p : List ℕ). IsSome (linked_at p s.instances)) (sym c.in_ok-copied.ensures)
    (subst (λ (is : Instances). IsSome (linked_at holder is)) (sym same) (at_linked holder (state_of w).instances o due.scope.0 outs c.requires.outlet)) in
    let new = some_is (λ (x : ScopeId). IsNewBelow (instance_path (state_of w).inner (path_at w.core.scopes due.scope.0)) (path_at m.core.scopes x.0) s) _ c.in-Some.child c.in_ok-child.ensures.free c.in-Some.is in
    let within : child < length s.core.scopes = some_is (λ (x : ScopeId). x.0 < length m.core.scopes) _ c.in-Some.child c.in_ok-child.ensures.within c.in-Some.is in
    let below : AreBelow (length s.core.scopes) given = subst (λ (xs : List ScopeId). AreBelow (length m.core.scopes) (map (λ (n : ScopeId). n.0) xs)) (sym c.as_slice.ensures.value) (below_more _ _ outs c.in_ok-child.ensures.count are.outs) in
    let q = there (fragment_for (templates_of m) which) (subst (λ (ts : List Named). IsSome (fragment_for ts which)) (sym c.make_child.ensures.templates) c.requires.template) in
    let one = body_serves copy o 0 (role_of c.args.role) which child given q.0 s c.in_ok-child.ensures.whole.root within below held (new_free _ (path_at m.core.scopes child) s new) (firing m c.args.told.now) in
    ok_then c.link_body.result c.link_body.ensures.fired
    (λ fired. subst (λ (is : Instances). Serves holder [] is (state_of v).instances) same
    (subst (λ (p : List ℕ). Serves p [] s.instances (state_of v).instances) c.in_ok-copied.ensures
    (subst (λ (is : Instances). Serves copy [] s.instances is) (sym (ap (λ (g : Firing). g.state.instances) (fired q.0 q.1))) one)))

pub returns-in-Some-clause-fired : goal.returns-in-Some-clause-fired
returns-in-Some-clause-fired c =
    let w = c.args.works.now in
    let m = c.make_child.new.works in
    let told = c.args.told.now in
    let due = c.args.due.now in
    let outs : List ℕ = map (λ (n : ScopeId). n.0) due.outsides.items in
    let which : Origin = c.args.origin.now in
    let place : Place = in_outlet c.args.holder.now due.outlet 0 (role_of c.args.role) in
    let child : ℕ = c.in-Some.child.0 in
    let scope : ℕ = due.scope.0 in
    let g : Firing = firing w told in
    let s : State = state_of m in
    let q = there (fragment_for (templates_of m) which) (subst (λ (ts : List Named). IsSome (fragment_for ts which)) (sym c.make_child.ensures.templates) c.requires.template) in
    let known : fragment_for (templates_of w) which ≡ Some q.0 = ap (λ (ts : List Named). fragment_for ts which) (sym c.make_child.ensures.templates) ∙ q.1 in
    let made : child_run scope (state_of w).core ≡ (s.core, Ok child) = c.in_ok-child.ensures.run ∙ ap (λ (x : Option ScopeId). child_made x s.core) c.in-Some.is in
    ok_then c.link_body.result c.link_body.ensures.fired
    (λ fired. fired q.0 q.1
    ∙ (ap (λ (xs : List ScopeId). body_on (in_outlet c.in_ok-copied.field-0 due.outlet 0 (role_of c.args.role)) which q.0 child (map (λ (n : ScopeId). n.0) xs) s (firing m told)) c.as_slice.ensures.value
    ∙ (ap (λ (p : List ℕ). body_on (in_outlet p due.outlet 0 (role_of c.args.role)) which q.0 child outs s (firing m told)) c.in_ok-copied.ensures
    ∙ (body_same place which q.0 child outs s s (state_of w) told.faulted told.added
    ∙ (ap (λ (x : State). body_on place which q.0 child outs x g) c.make_child.ensures.state
    ∙ sym (filled_on place scope outs [] which g s.core child q.0 made known))))))

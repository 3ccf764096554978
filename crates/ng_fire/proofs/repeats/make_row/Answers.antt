use Rattle.std.proofs.Common.{◌≡◌, ◌∙◌, ◌<◌, ℕ, List, [], None, ap, length, map, refl, subst, sym}
use Rattle.std.specs.Prelude.{IsSome, Option, Some, Ok}
use Rattle.ng_core.specs.State as act
use Rattle.ng_base.specs.declared.name.ScopeId.{ScopeId}
use Rattle.ng_behaviour.specs.Scopes.{Scope, path_at}
use Rattle.ng_drawing.specs.declared.origin.Origin.{Origin}
use Rattle.ng_drawing.specs.Roles.{Role}
use Rattle.ng_changes.proofs.Answered.{ok_then, some_is, there}
use Rattle.ng_changes.proofs.Bodies.{new_free}
use Rattle.ng_fire.proofs.BlockBodies.{at_stands, body_holds, body_serves, outlet_there}
use Rattle.ng_fire.proofs.NewRows.{body_same, filled_on}
use Rattle.ng_steps.proofs.Placed.{below_more}
use Rattle.ng_fire.proofs.RowsStay.{others_come, others_same}
use Rattle.ng_fire.proofs.RowsTaken.{serves_keeps}
use Rattle.ng_fire.proofs.Served.{at_linked, at_still}
use Rattle.ng_steps.proofs.WholeTold.{whole_told}
use Rattle.ng_changes.specs.ChildRun.{child_run}
use Rattle.ng_rows.specs.Chosen.{told_on}
use Rattle.ng_fire.specs.Blocks.{Firing, body_on}
use Rattle.ng_changes.specs.FiringOf.{child_made}
use Rattle.ng_fire.specs.FireOf.{firing}
use Rattle.ng_steps.specs.LinkingOf.{AreBelow}
use Rattle.ng_rows.specs.RepeatRows.{role_for, row_names}
use Rattle.ng_rows.specs.RepeatsOf.{row_of}
use Rattle.ng_fire.specs.Serving.{IsAt, OthersStay, Serves, bare_outlets}
use Rattle.ng_rows.specs.TrackingOf.{item_of}
use Rattle.ng_instances.specs.Changing.{Place, in_outlet}
use Rattle.ng_link.specs.Calls.{with_core}
use Rattle.ng_instances.specs.Instances.{Instances, instance_path, linked_at}
use Rattle.ng_link.specs.FreePlace.{IsFree, IsNewBelow}
use Rattle.ng_link.specs.State.{State, state_of, templates_of}
use Rattle.ng_members.specs.Leaves.{Local}
use Rattle.ng_store.proofs.Sound.{stands_more}
use Rattle.ng_parts.specs.RepeatedOf.{repeated_of}
use Rattle.ng_drawing.specs.Named.{Named, fragment_for}
use Rattle.ng_fire.proofs.repeats.make_row.Goals as goal

pub make_child-requires-clause-scope : goal.make_child-requires-clause-scope
make_child-requires-clause-scope c =
    let w = c.args.works.now in
    let spot = c.args.spot.now in
    (at_stands w.core.scopes (state_of w).inner (state_of w).instances spot.holder.now spot.outlet spot.scope.0 (map (λ (n : ScopeId). n.0) spot.outsides.now) c.requires.whole.scopes c.requires.spot.outlet).within

pub tell_row-requires-clause-scope : goal.tell_row-requires-clause-scope
tell_row-requires-clause-scope c =
    some_is (λ (s : ScopeId). s.0 < length c.make_child.new.works.core.scopes) _ c.in-Some.child c.in_ok-child.ensures.within c.in-Some.is

pub tell_row-requires-clause-item : goal.tell_row-requires-clause-item
tell_row-requires-clause-item c = stands_more _ _ c.in_ok-child.ensures.grown c.args.row.now.item.now.value c.requires.row

pub link_body-requires-clause-whole : goal.link_body-requires-clause-whole
link_body-requires-clause-whole c =
    let m = c.make_child.new.works in
    let ground = c.args.ground.now in
    let names : List Local = row_names (repeated_of ground.repeated.now) ground.count c.args.i (item_of c.args.row.now.item.now) in
    whole_told m c.tell_row.new.core c.in-Some.child.0 names c.in_ok-child.ensures.whole c.in_ok-tell_row-in-Some.ensures.told c.in_ok-tell_row-in-Some.ensures.sound c.tell_row.ensures.scopes c.tell_row.ensures.depth c.tell_row.ensures.store

pub link_body-requires-clause-scope : goal.link_body-requires-clause-scope
link_body-requires-clause-scope c =
    subst (λ (t : List Scope). c.in-Some.child.0 < length t) (sym c.tell_row.ensures.scopes)
    (some_is (λ (s : ScopeId). s.0 < length c.make_child.new.works.core.scopes) _ c.in-Some.child c.in_ok-child.ensures.within c.in-Some.is)

pub link_body-requires-clause-outsides : goal.link_body-requires-clause-outsides
link_body-requires-clause-outsides c =
    let w = c.args.works.now in
    let spot = c.args.spot.now in
    let outs : List ℕ = map (λ (n : ScopeId). n.0) spot.outsides.now in
    let are = at_stands w.core.scopes (state_of w).inner (state_of w).instances spot.holder.now spot.outlet spot.scope.0 outs c.requires.whole.scopes c.requires.spot.outlet in
    subst (λ (t : List Scope). AreBelow (length t) outs) (sym c.tell_row.ensures.scopes) (below_more _ _ outs c.in_ok-child.ensures.count are.outs)

pub link_body-requires-clause-template : goal.link_body-requires-clause-template
link_body-requires-clause-template c = subst (λ (ts : List Named). IsSome (fragment_for ts c.args.spot.now.origin)) (sym c.make_child.ensures.templates) c.requires.spot.body

pub link_body-requires-clause-free : goal.link_body-requires-clause-free
link_body-requires-clause-free c =
    let w = c.args.works.now in
    let m = c.make_child.new.works in
    let v = record m { core = c.tell_row.new.core } in
    let spot = c.args.spot.now in
    let holder : List ℕ = spot.holder.now in
    let o : ℕ = spot.outlet in
    let outs : List ℕ = map (λ (n : ScopeId). n.0) spot.outsides.now in
    let role : Role = role_for (row_of c.args.row.now) in
    let are = at_stands w.core.scopes (state_of w).inner (state_of w).instances holder o spot.scope.0 outs c.requires.whole.scopes c.requires.spot.outlet in
    let same : (state_of m).instances ≡ (state_of w).instances = ap (λ (s : State). s.instances) c.make_child.ensures.state in
    let at : IsAt holder (state_of m).instances o spot.scope.0 outs = at_still holder (state_of w).instances (state_of m).instances o spot.scope.0 outs (ap (bare_outlets holder) same) c.requires.spot.outlet in
    let new = some_is (λ (s : ScopeId). IsNewBelow (instance_path (state_of w).inner (path_at w.core.scopes spot.scope.0)) (path_at m.core.scopes s.0) (state_of m)) _ c.in-Some.child c.in_ok-child.ensures.free c.in-Some.is in
    let under : IsNewBelow holder (path_at m.core.scopes c.in-Some.child.0) (state_of m) = subst (λ (h : List ℕ). IsNewBelow h (path_at m.core.scopes c.in-Some.child.0) (state_of m)) are.path new in
    let free : IsFree (in_outlet holder o c.args.at role) (path_at m.core.scopes c.in-Some.child.0) (state_of v) = (outlet_there holder o spot.scope.0 outs (state_of m).instances at, record { below = under.below; unused = under.unused; nearest = under.nearest }) in
    subst (λ (p : Place). IsFree p (path_at v.core.scopes c.in-Some.child.0) (state_of v)) (sym c.in_ok-place.ensures)
    (subst (λ (t : List Scope). IsFree (in_outlet holder o c.args.at role) (path_at t c.in-Some.child.0) (state_of v)) (sym c.tell_row.ensures.scopes) free)

pub returns-in-Some-clause-keeps : goal.returns-in-Some-clause-keeps
returns-in-Some-clause-keeps c =
    let w = c.args.works.now in
    let m = c.make_child.new.works in
    let t = record m { core = c.tell_row.new.core } in
    let v = c.link_body.new.works in
    let spot = c.args.spot.now in
    let holder : List ℕ = spot.holder.now in
    let o : ℕ = spot.outlet in
    let outs : List ℕ = map (λ (n : ScopeId). n.0) spot.outsides.now in
    let role : Role = role_for (row_of c.args.row.now) in
    let which : Origin = spot.origin in
    let child : ℕ = c.in-Some.child.0 in
    let s : State = state_of t in
    let g : Firing = firing t c.args.told.now in
    let are = at_stands w.core.scopes (state_of w).inner (state_of w).instances holder o spot.scope.0 outs c.requires.whole.scopes c.requires.spot.outlet in
    let same : s.instances ≡ (state_of w).instances = ap (λ (x : State). x.instances) c.make_child.ensures.state in
    let held : IsSome (linked_at holder s.instances) = subst (λ (is : Instances). IsSome (linked_at holder is)) (sym same) (at_linked holder (state_of w).instances o spot.scope.0 outs c.requires.spot.outlet) in
    let new = some_is (λ (x : ScopeId). IsNewBelow (instance_path (state_of w).inner (path_at w.core.scopes spot.scope.0)) (path_at m.core.scopes x.0) (state_of m)) _ c.in-Some.child c.in_ok-child.ensures.free c.in-Some.is in
    let free : linked_at (path_at s.core.scopes child) s.instances ≡ None = subst (λ (x : List Scope). linked_at (path_at x child) s.instances ≡ None) (sym c.tell_row.ensures.scopes) (new_free _ (path_at m.core.scopes child) (state_of m) new) in
    let within : child < length s.core.scopes = subst (λ (x : List Scope). child < length x) (sym c.tell_row.ensures.scopes) (some_is (λ (x : ScopeId). x.0 < length m.core.scopes) _ c.in-Some.child c.in_ok-child.ensures.within c.in-Some.is) in
    let below : AreBelow (length s.core.scopes) outs = subst (λ (x : List Scope). AreBelow (length x) outs) (sym c.tell_row.ensures.scopes) (below_more _ _ outs c.in_ok-child.ensures.count are.outs) in
    let root : 0 < length s.core.scopes = subst (λ (x : List Scope). 0 < length x) (sym c.tell_row.ensures.scopes) c.in_ok-child.ensures.whole.root in
    let q = there (fragment_for (templates_of t) which) (subst (λ (ts : List Named). IsSome (fragment_for ts which)) (sym c.make_child.ensures.templates) c.requires.spot.body) in
    let one = body_serves holder o c.args.at role which child outs q.0 s root within below held free g in
    let placed = ap (λ (p : Place). body_on p which q.0 child outs s g) c.in_ok-place.ensures in
    ok_then c.link_body.result c.link_body.ensures.fired
    (λ fired. serves_keeps holder [] (state_of w).instances (state_of v).instances
    (subst (λ (is : Instances). Serves holder [] is (state_of v).instances) same
    (subst (λ (is : Instances). Serves holder [] s.instances is) (sym (ap (λ (x : Firing). x.state.instances) (fired q.0 q.1 ∙ placed))) one)))

pub returns-in-Some-clause-others : goal.returns-in-Some-clause-others
returns-in-Some-clause-others c =
    let w = c.args.works.now in
    let m = c.make_child.new.works in
    let t = record m { core = c.tell_row.new.core } in
    let v = c.link_body.new.works in
    let spot = c.args.spot.now in
    let holder : List ℕ = spot.holder.now in
    let o : ℕ = spot.outlet in
    let outs : List ℕ = map (λ (n : ScopeId). n.0) spot.outsides.now in
    let role : Role = role_for (row_of c.args.row.now) in
    let which : Origin = spot.origin in
    let child : ℕ = c.in-Some.child.0 in
    let s : State = state_of t in
    let g : Firing = firing t c.args.told.now in
    let are = at_stands w.core.scopes (state_of w).inner (state_of w).instances holder o spot.scope.0 outs c.requires.whole.scopes c.requires.spot.outlet in
    let same : s.instances ≡ (state_of w).instances = ap (λ (x : State). x.instances) c.make_child.ensures.state in
    let new = some_is (λ (x : ScopeId). IsNewBelow (instance_path (state_of w).inner (path_at w.core.scopes spot.scope.0)) (path_at m.core.scopes x.0) (state_of m)) _ c.in-Some.child c.in_ok-child.ensures.free c.in-Some.is in
    let free : linked_at (path_at s.core.scopes child) s.instances ≡ None = subst (λ (x : List Scope). linked_at (path_at x child) s.instances ≡ None) (sym c.tell_row.ensures.scopes) (new_free _ (path_at m.core.scopes child) (state_of m) new) in
    let within : child < length s.core.scopes = subst (λ (x : List Scope). child < length x) (sym c.tell_row.ensures.scopes) (some_is (λ (x : ScopeId). x.0 < length m.core.scopes) _ c.in-Some.child c.in_ok-child.ensures.within c.in-Some.is) in
    let below : AreBelow (length s.core.scopes) outs = subst (λ (x : List Scope). AreBelow (length x) outs) (sym c.tell_row.ensures.scopes) (below_more _ _ outs c.in_ok-child.ensures.count are.outs) in
    let root : 0 < length s.core.scopes = subst (λ (x : List Scope). 0 < length x) (sym c.tell_row.ensures.scopes) c.in_ok-child.ensures.whole.root in
    let q = there (fragment_for (templates_of t) which) (subst (λ (ts : List Named). IsSome (fragment_for ts which)) (sym c.make_child.ensures.templates) c.requires.spot.body) in
    let one = body_holds holder o c.args.at role which child outs q.0 s root within below (λ (is : Instances). OthersStay holder s.instances is) (others_same holder s.instances s.instances refl)
    (λ m. others_come holder o c.args.at role (path_at s.core.scopes child) m s.instances free) g in
    let placed = ap (λ (p : Place). body_on p which q.0 child outs s g) c.in_ok-place.ensures in
    ok_then c.link_body.result c.link_body.ensures.fired
    (λ fired. subst (λ (is : Instances). OthersStay holder is (state_of v).instances) same
    (subst (λ (is : Instances). OthersStay holder s.instances is) (sym (ap (λ (x : Firing). x.state.instances) (fired q.0 q.1 ∙ placed))) one))

pub returns-in-Some-clause-fired : goal.returns-in-Some-clause-fired
returns-in-Some-clause-fired c =
    let w = c.args.works.now in
    let told = c.args.told.now in
    let m = c.make_child.new.works in
    let t = record m { core = c.tell_row.new.core } in
    let ground = c.args.ground.now in
    let spot = c.args.spot.now in
    let holder : List ℕ = spot.holder.now in
    let outs : List ℕ = map (λ (n : ScopeId). n.0) spot.outsides.now in
    let place : Place = in_outlet holder spot.outlet c.args.at (role_for (row_of c.args.row.now)) in
    let which : Origin = spot.origin in
    let child : ℕ = c.in-Some.child.0 in
    let scope : ℕ = spot.scope.0 in
    let names : List Local = row_names (repeated_of ground.repeated.now) ground.count c.args.i (item_of c.args.row.now.item.now) in
    let g : Firing = firing w told in
    let s : State = state_of t in
    let q = there (fragment_for (templates_of t) which) (subst (λ (ts : List Named). IsSome (fragment_for ts which)) (sym c.make_child.ensures.templates) c.requires.spot.body) in
    let known : fragment_for (templates_of w) which ≡ Some q.0 = ap (λ (ts : List Named). fragment_for ts which) (sym c.make_child.ensures.templates) ∙ q.1 in
    let made : child_run scope (state_of w).core ≡ ((state_of m).core, Ok child) = c.in_ok-child.ensures.run ∙ ap (λ (x : Option ScopeId). child_made x (state_of m).core) c.in-Some.is in
    let state : s ≡ with_core (told_on child names (state_of m).core) (state_of w) =
    ap (λ (k : act.State). with_core k (state_of m)) c.in_ok-tell_row-in-Some.ensures.told ∙ ap (with_core (told_on child names (state_of m).core)) c.make_child.ensures.state in
    ok_then c.link_body.result c.link_body.ensures.fired
    (λ fired. fired q.0 q.1
    ∙ (ap (λ (p : Place). body_on p which q.0 child outs s (firing t told)) c.in_ok-place.ensures
    ∙ (body_same place which q.0 child outs s s (state_of w) told.faulted told.added
    ∙ (ap (λ (x : State). body_on place which q.0 child outs x g) state
    ∙ sym (filled_on place scope outs names which g (state_of m).core child q.0 made known)))))

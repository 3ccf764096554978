-- What the steps of a block's fire leave of outlets and of the bodies in them.
use Rattle.std.proofs.Common.{◌≡◌, ◌∙◌, ◌<◌, ◌-◌, ℕ, zero, suc, Bool, true, false, List, [], ◌∷◌, drop, length, map, Option, Some, None, refl, ap, sym, subst, cond}
use Rattle.std.proofs.Math.Bool.{or-false}
use Rattle.std.specs.List.{AllByRecursion}
use Rattle.std.specs.Prelude.{IsSome, option_map, slice_get}
use Rattle.ng_core.specs.Burying.{buried}
use Rattle.ng_core.specs.State as act
use Rattle.ng_base.specs.declared.fault.Fault.{Fault}
use Rattle.ng_base.specs.declared.fault.Fault.TheVariants.{Depth}
use Rattle.ng_behaviour.specs.Scopes.{Scope, path_at, live_at}
use Rattle.ng_drawing.specs.Nodes.{node_limit}
use Rattle.ng_drawing.specs.Origins.{is_too_deep}
use Rattle.ng_drawing.specs.Roles.{Role}
use Rattle.ng_drawing.specs.Template.{Fragment}
use Rattle.ng_drawing.specs.declared.origin.Origin.{Origin}
use Rattle.ng_steps.proofs.Numbered.{changed_lasts, core_lasts, lasts-trans}
use Rattle.ng_changes.proofs.ScopePaths.{AreMore, more_path, more_same, more_then}
use Rattle.ng_changes.proofs.AllAt.{all_at}
use Rattle.ng_fire.proofs.Served.{serves_same, taken_serves}
use Rattle.ng_steps.proofs.SetRuns.{all_buried_rises}
use Rattle.ng_steps.proofs.Underway.{IsUnderway, linking_underway}
use Rattle.ng_changes.proofs.Wholes.{changed_linked, followed_linked}
use Rattle.ng_fire.specs.Blocks.{Firing, ended, discarded, faulted_with, linked_then, body_linked, body_on}
use Rattle.ng_changes.specs.Changes.{changed}
use Rattle.ng_steps.specs.Links.{Linking, all_buried, begins_linking, ended_link, first_of, link_at, placed, rested_on, rested_on_all, steps_linked}
use Rattle.ng_steps.specs.LinkingOf.{AreBelow}
use Rattle.ng_changes.specs.Runs.{destroy_run}
use Rattle.ng_fire.specs.Serving.{IsAt, Serves, bare, outlets_in}
use Rattle.ng_changes.specs.Whole.{HasScope, HaveScopes, OutletStands}
use Rattle.ng_instances.specs.Changing.{Place, in_outlet}
use Rattle.ng_link.specs.Calls.{with_core, linked_on, placed_on}
use Rattle.ng_link.specs.Events.{scope_in}
use Rattle.ng_instances.specs.Instances.{Inners, OutletState, Linked, Instances, instance_path, linked_at, body_added, outlets_changed, with_instance}
use Rattle.ng_build.specs.Linking.{fault_in, steps, steps_within}
use Rattle.ng_instances.specs.PlaceOf.{outlet_of_linked}
use Rattle.ng_link.specs.State.{State, live_nodes}
use Rattle.ng_changes.proofs.Bodies.{rested_same}

pub ended_linked : (p : List ℕ) (g : Firing) → (ended p g).state.instances ≡ g.state.instances
ended_linked p g = followed_linked (destroy_run (scope_in (linked_at p g.state.instances)) g.state.core) g.state

-- ---- an outlet that is there

-- so are its scopes
pub record AreThere (t : List Scope) (inner : Inners) (holder : List ℕ) (scope : ℕ) (outsides : List ℕ) : Type 0 where
  pub within : scope < length t
  pub path : instance_path inner (path_at t scope) ≡ holder
  pub outs : AreBelow (length t) outsides

outlet_read : (t : List Scope) (inner : Inners) (holder : List ℕ) (xs : List OutletState) (o scope : ℕ) (outsides : List ℕ) → AllByRecursion (OutletStands t inner holder) xs
    → option_map {U = ℕ × List ℕ} (λ (x : OutletState). (x.scope, x.outsides)) (slice_get (map bare xs) o) ≡ Some (scope, outsides) → AreThere t inner holder scope outsides
outlet_read t inner holder [] o scope outsides h at = absurd (cc)
outlet_read t inner holder (x ∷ xs) zero scope outsides h at =
    let same : (let pair : ℕ × List ℕ = (x.scope, x.outsides) in pair ≡ (scope, outsides)) = cc in
    let first : x.scope ≡ scope = ap (λ (q : ℕ × List ℕ). q.0) same in
    let others : x.outsides ≡ outsides = ap (λ (q : ℕ × List ℕ). q.1) same in
    record {
      within = subst (λ (n : ℕ). n < length t) first h.0.scope;
      path = subst (λ (n : ℕ). instance_path inner (path_at t n) ≡ holder) first h.0.path;
      outs = subst (AreBelow (length t)) others h.0.outsides;
    }
outlet_read t inner holder (x ∷ xs) (suc o) scope outsides h at = outlet_read t inner holder xs o scope outsides h.1 at

pub at_stands : (t : List Scope) (inner : Inners) (is : Instances) (holder : List ℕ) (o scope : ℕ) (outsides : List ℕ) → HaveScopes t inner is → IsAt holder is o scope outsides → AreThere t inner holder scope outsides
at_stands t inner is holder o scope outsides h at = by (linked_at holder is) refl at
  where
    by : (m : Option Linked) → linked_at holder is ≡ m → option_map {U = ℕ × List ℕ} (λ (x : OutletState). (x.scope, x.outsides)) (slice_get (map bare (outlets_in m)) o) ≡ Some (scope, outsides) → AreThere t inner holder scope outsides
    by None e at = absurd (cc)
    by (Some l) e at = outlet_read t inner holder l.page.outlets o scope outsides (all_at (HasScope t inner) is holder l h e).outlets at

pub outlet_there : (holder : List ℕ) (o scope : ℕ) (outsides : List ℕ) (is : Instances) → IsAt holder is o scope outsides → IsSome (outlet_of_linked o (linked_at holder is))
outlet_there holder o scope outsides is at = by (linked_at holder is) at
  where
    get : (xs : List OutletState) (i : ℕ) → option_map {U = ℕ × List ℕ} (λ (x : OutletState). (x.scope, x.outsides)) (slice_get (map bare xs) i) ≡ Some (scope, outsides) → IsSome (slice_get xs i)
    get [] i e = absurd (cc)
    get (x ∷ xs) zero e = refl
    get (x ∷ xs) (suc i) e = get xs i e

    by : (m : Option Linked) → option_map {U = ℕ × List ℕ} (λ (x : OutletState). (x.scope, x.outsides)) (slice_get (map bare (outlets_in m)) o) ≡ Some (scope, outsides) → IsSome (outlet_of_linked o m)
    by None e = absurd (cc)
    by (Some l) e = get l.page.outlets o e

pub all_rested : (ns : List ℕ) (s : State) → (let u : State = rested_on_all ns s in (u.instances ≡ s.instances) × (u.core ≡ s.core))
all_rested [] s = (refl, refl)
all_rested (n ∷ ns) s =
    let one = rested_same (live_at s.core.scopes n) s (path_at s.core.scopes n) in
    let more = all_rested ns (rested_on n s) in
    (more.0 ∙ one.0, more.1 ∙ one.1)

-- what holds of the instances, and where one comes in an outlet, holds once a body is linked
module _ (holder : List ℕ) (o i : ℕ) (role : Role) (which : Origin) (scope : ℕ) (os : List ℕ) (f : Fragment) (s : State) (root : 0 < length s.core.scopes) (lt : scope < length s.core.scopes) (outs : AreBelow (length s.core.scopes) os)
    (P : Instances → Type 0) (same : P s.instances)
    (comes : (m : Linked) → P (outlets_changed holder (body_added o i (record { path = path_at s.core.scopes scope; role = role })) (with_instance (path_at s.core.scopes scope) m s.instances))) where
  abbrev here : Place
  here = in_outlet holder o i role

  placed_holds : (g : Linking) → IsUnderway s scope os g.state g.made → P (placed here which scope f g).state.instances
  placed_holds g under =
      let t : State = placed_on here which scope f g.made g.state in
      let p : List ℕ = path_at g.state.core.scopes scope in
      let l : Linked = linked_on g.state.core.scopes which scope f g.made g.state.next_node in
      let path : p ≡ path_at s.core.scopes scope = more_path s.core.scopes g.state.core.scopes scope under.wider lt in
      subst P
      (ap (λ (q : List ℕ). outlets_changed holder (body_added o i (record { path = q; role = role })) (with_instance q l s.instances)) (sym path)
      ∙ (ap (λ (x : Instances). outlets_changed holder (body_added o i (record { path = p; role = role })) (with_instance p l x)) (sym under.linked.0)
      ∙ sym (all_rested g.made.at_hand.scopes t).0))
      (comes l)

  ended_holds : (e : Option Fault) (g : Linking) → IsUnderway s scope os g.state g.made → P (ended_link here which scope f e g).state.instances
  ended_holds None g under = placed_holds g under
  ended_holds (Some e) g under =
      subst P (sym (changed_linked (with_core (all_buried (drop 1 g.made.at_hand.scopes) g.state.core) g.state) ∙ under.linked.0)) same

  link_holds : P (link_at here which scope os f s).state.instances
  link_holds =
      let room : ℕ = node_limit - live_nodes s in
      let g : Linking = steps_linked f (steps_within room (steps f.parts)) (begins_linking scope os s) in
      ended_holds (first_of g.fault (fault_in room (steps f.parts))) g (linking_underway s scope os f (steps_within room (steps f.parts)) root lt outs)

  then_holds : (e : Option Fault) (l : Linking) (g : Firing) → P l.state.instances → P (linked_then scope e l g).state.instances
  then_holds None l g h = h
  then_holds (Some e) l g h = subst P (sym (changed_linked (with_core (buried scope l.state.core) l.state))) h

  -- also where a template is included too deep
  pub body_holds : (g : Firing) → P (body_on here which f scope os s g).state.instances
  body_holds g = by_depth (is_too_deep which)
    where
      deep : Firing
      deep = linked_then scope (Some Depth) (begins_linking scope os s) g

      by_depth : (b : Bool) → P (cond b deep (body_linked here which f scope os s g)).state.instances
      by_depth true = then_holds (Some Depth) (begins_linking scope os s) g same
      by_depth false = then_holds (link_at here which scope os f s).fault (link_at here which scope os f s) g link_holds

module _ (holder : List ℕ) (o i : ℕ) (role : Role) (which : Origin) (scope : ℕ) (os : List ℕ) (f : Fragment) (s : State) (root : 0 < length s.core.scopes) (lt : scope < length s.core.scopes) (outs : AreBelow (length s.core.scopes) os)
    (held : IsSome (linked_at holder s.instances)) (free : linked_at (path_at s.core.scopes scope) s.instances ≡ None) where
  pub body_serves : (g : Firing) → Serves holder [] s.instances (body_on (in_outlet holder o i role) which f scope os s g).state.instances
  body_serves g =
      body_holds holder o i role which scope os f s root lt outs (λ (is : Instances). Serves holder [] s.instances is) (serves_same holder [] s.instances s.instances refl)
      (λ m. taken_serves holder o i role (path_at s.core.scopes scope) m s.instances held free) g

-- a body where a template is included too deep, and where none is
module _ (place : Place) (which : Origin) (f : Fragment) (child : ℕ) (os : List ℕ) (s : State) (g : Firing) where
  abbrev on_depth : Bool → Firing
  on_depth b = cond b (linked_then child (Some Depth) (begins_linking child os s) g) (body_linked place which f child os s g)

  pub too_deep : is_too_deep which ≡ true → faulted_with Depth (record g { state = discarded child s }) ≡ body_on place which f child os s g
  too_deep deep =
      ap (λ (b : Bool). faulted_with Depth (record { state = discarded child s; faulted = g.faulted; added = b })) (sym (or-false g.added))
      ∙ sym (ap on_depth deep)

  pub not_deep : is_too_deep which ≡ false → body_linked place which f child os s g ≡ body_on place which f child os s g
  not_deep deep = sym (ap on_depth deep)

-- a linking makes scopes, and leaves the paths of the others
ended_more : (place : Place) (which : Origin) (scope : ℕ) (f : Fragment) (s : State) (e : Option Fault) (g : Linking) → AreMore s.core.scopes g.state.core.scopes → AreMore s.core.scopes (ended_link place which scope f e g).state.core.scopes
ended_more place which scope f s None g more =
    let t : State = placed_on place which scope f g.made g.state in
    subst (λ (c : act.State). AreMore s.core.scopes c.scopes) (sym (all_rested g.made.at_hand.scopes t).1) more
ended_more place which scope f s (Some e) g more =
    let u : State = with_core (all_buried (drop 1 g.made.at_hand.scopes) g.state.core) g.state in
    let lasts = lasts-trans g.state u (changed u) (core_lasts u.core g.state (all_buried_rises (drop 1 g.made.at_hand.scopes) g.state.core)) (changed_lasts u) in
    more_then s.core.scopes g.state.core.scopes (changed u).core.scopes more (more_same g.state.core.scopes (changed u).core.scopes lasts.1.1)

pub link_more : (place : Place) (which : Origin) (scope : ℕ) (os : List ℕ) (f : Fragment) (s : State) → 0 < length s.core.scopes → scope < length s.core.scopes → AreBelow (length s.core.scopes) os → AreMore s.core.scopes (link_at place which scope os f s).state.core.scopes
link_more place which scope os f s root lt outs =
    let room : ℕ = node_limit - live_nodes s in
    let g : Linking = steps_linked f (steps_within room (steps f.parts)) (begins_linking scope os s) in
    ended_more place which scope f s (first_of g.fault (fault_in room (steps f.parts))) g (linking_underway s scope os f (steps_within room (steps f.parts)) root lt outs).wider

-- An outlet gets a body, or the fire faults: what is linked is watched, and each other block has the bodies that it calls for.
use Rattle.std.proofs.Common.{◌≡◌, ◌⊎◌, inl, inr, ◌<◌, ◌-◌, ℕ, Bool, true, false, List, length, cond, Option, Some, None, Ok, Err, refl, ap, sym, subst, ◌∙◌, arith}
use Rattle.std.specs.Prelude.{nat_lt}
use Rattle.std.specs.List.{AllByRecursion, list_any}
use Rattle.ng_core.specs.State as act
use Rattle.ng_core.specs.State.{Run, with_fault}
use Rattle.ng_base.specs.Views.{ViewTree}
use Rattle.ng_base.specs.declared.fault.Fault.{Fault}
use Rattle.ng_base.specs.declared.fault.Fault.TheVariants.{StoreFull, Depth}
use Rattle.ng_base.specs.declared.path.Key.{Key}
use Rattle.ng_behaviour.specs.Scopes.{Scope, path_at, object_at, with_child, child_path}
use Rattle.ng_drawing.specs.Origins.{is_too_deep}
use Rattle.ng_drawing.specs.Roles.{Role}
use Rattle.ng_drawing.specs.Nodes.{node_limit}
use Rattle.ng_drawing.specs.Template.{Fragment}
use Rattle.ng_drawing.specs.declared.origin.Origin.{Origin}
use Rattle.ng_changes.specs.ChildRun.{object_limit}
use Rattle.ng_rows.specs.Chosen.{told_on}
use Rattle.ng_fire.specs.Blocks.{Firing, faulted_with, discarded, linked_then, linked_by, body_made, filled, body_linked, body_on}
use Rattle.ng_steps.specs.LinkingOf.{AreBelow}
use Rattle.ng_steps.specs.Links.{Linking, begins_linking, steps_linked, rested_on_all, placed, given_up, first_of, ended_link}
use Rattle.ng_steps.proofs.Registered.{linking_registered}
use Rattle.ng_steps.proofs.Rooms.{all_within}
use Rattle.ng_instances.specs.Changing.{Place, in_outlet}
use Rattle.ng_link.specs.Calls.{with_core, placed_on}
use Rattle.ng_instances.specs.Instances.{Linked, linked_at, with_outlets, body_added}
use Rattle.ng_build.specs.Linking.{LinkStep, steps, steps_within, fault_in}
use Rattle.ng_link.specs.Placing.{IsRegistered}
use Rattle.ng_link.specs.State.{State, live_nodes}
use Rattle.ng_link.proofs.Counted.{ended_done}
use Rattle.ng_members.specs.Leaves.{Local}
use Rattle.ng_drawing.specs.Named.{fragments_in}
use Rattle.ng_drawing.specs.Numbering.{HasOrder}
use Rattle.ng_behaviour.specs.Keys.{is_key}
use Rattle.ng_commands.specs.Settled.{IsChild}
use Rattle.ng_commands.proofs.EventsStay.{part, Stays, stays_trans, fault_stays}
use Rattle.ng_page.proofs.LinksStay.{with_scope_made, scope_made, steps_sites, all_rested_sites, given_up_sites, discarded_sites}
use Rattle.ng_page.proofs.Placing.{IsNew, HasRoom, holder_was}
use Rattle.ng_page.proofs.Plain.{plain_outlets}
use Rattle.ng_page.proofs.Registered.{fragment_whole, sites_counted, steps_above}
use Rattle.ng_page.proofs.RepeatsStay.{told_stay}
use Rattle.ng_commands.proofs.ScopesStay.{ScopesStay, scopes_trans, child_there}
use Rattle.ng_commands.proofs.Sites.{SitesStay, sites_trans, core_sites}
use Rattle.ng_page.proofs.Under.{IsUnder, under_stays, under_placed, IsOfSite, child_path_there, child_free, path_apart, next_free}
use Rattle.ng_commands.proofs.Watched.{all_more}

pub fault_sites : (e : Fault) (g : Firing) → SitesStay g.state (faulted_with e g).state
fault_sites e g = core_sites g.state (with_fault e g.state.core) (fault_stays e (part g.state.core))

-- The holder of an outlet is on the path of a scope that is there; so are the scope round the outlet, and those outside what the slots in it are given.
pub record IsHeld (scopes : List Scope) (holder : List ℕ) (scope : ℕ) (outs : List ℕ) : Type 0 where
  pub own : ℕ
  pub own_there : own < length scopes
  pub on : path_at scopes own ≡ holder
  pub there : scope < length scopes
  pub outsides : AllByRecursion (λ (n : ℕ). n < length scopes) outs

pub held_stays : (t u : List Scope) (holder : List ℕ) (scope : ℕ) (outsides : List ℕ) → ScopesStay t u → IsHeld t holder scope outsides → IsHeld u holder scope outsides
held_stays t u holder scope outsides stay h =
    let more = stay.more in
    let own_there = h.own_there in
    let there = h.there in
    record {
      own = h.own;
      own_there = omega (arith, own_there, more);
      on = stay.paths h.own h.own_there ∙ h.on;
      there = omega (arith, there, more);
      outsides = all_more (length t) (length u) outsides stay.more h.outsides;
    }

-- a linking meets no fault where neither its steps do nor it is cut
pub both_none : (a b : Option Fault) → first_of a b ≡ None → (a ≡ None) × (b ≡ None)
both_none None b e = (refl, e)
both_none (Some x) b e = absurd (cc)

module _ (k : Key) (v : ViewTree) (holder : List ℕ) (ks : List Key) (left : list_any (is_key k) ks ≡ true) where
  abbrev Under : State → Type 0
  Under s = IsUnder k v holder ks left s

  -- what stands of the instance then: what stood, where the fire faulted; or an outlet has a body more, which stands for this, at a place
  abbrev Stood : ℕ → ℕ → Role → Firing → Bool → Linked → Type 0
  Stood o i role g fault m =
      (l : Linked) × (linked_at holder g.state.instances ≡ Some l)
      × (((fault ≡ true) × (m ≡ l)) ⊎ ((fault ≡ g.faulted) × ((p : List ℕ) × (m ≡ with_outlets (body_added o i (record { path = p; role = role })) l))))

  pub record IsMade (o i : ℕ) (role : Role) (g h : Firing) : Type 0 where
    pub under : IsUnder k v holder ks left h.state
    pub scopes : ScopesStay g.state.core.scopes h.state.core.scopes
    pub stood : (m : Linked) → linked_at holder h.state.instances ≡ Some m → Stood o i role g h.faulted m

  -- where the fire faults, no site changes
  pub made_fault : (o i : ℕ) (role : Role) (g h : Firing) → h.faulted ≡ true → SitesStay g.state h.state → Under g.state → IsMade o i role g h
  made_fault o i role g h fault stay u = record {
    under = under_stays k v holder ks left g.state h.state stay u;
    scopes = stay.core.scopes;
    stood = λ m at. (m, ap (linked_at holder) (sym stay.instances) ∙ at, inl (fault, refl));
  }

  -- ---- on the child scope

  module _ (o i scope : ℕ) (role : Role) (outsides : List ℕ) (which : Origin) (g : Firing) (object : ℕ) (d : act.State) (grown : d.scopes ≡ with_child g.state.core.scopes scope object) (stay : Stays (part g.state.core) (part d))
      (held : IsHeld g.state.core.scopes holder scope outsides) (u : IsUnder k v holder ks left g.state) (of : IsOfSite k v holder ks left o scope g.state) where
    abbrev place : Place
    place = in_outlet holder o i role

    abbrev child : ℕ
    child = length g.state.core.scopes

    abbrev fragment : Fragment
    fragment = fragments_in g.state.templates which

    abbrev start : State
    start = with_core d g.state

    begun : SitesStay g.state start
    begun = core_sites g.state d stay

    child_in : child < length start.core.scopes
    child_in =
        let one = child_there g.state.core.scopes scope object in
        let same : length d.scopes ≡ length (with_child g.state.core.scopes scope object) = ap (λ (t : List Scope). length t) grown in
        omega (arith, one, same)

    outs_in : AreBelow (length start.core.scopes) outsides
    outs_in = all_more (length g.state.core.scopes) (length start.core.scopes) outsides stay.scopes.more held.outsides

    -- after the steps
    abbrev room : ℕ
    room = node_limit - live_nodes start

    abbrev done : Linking
    done = steps_linked fragment (steps_within room (steps fragment.parts)) (begins_linking child outsides start)

    done_start : SitesStay start done.state
    done_start = steps_sites fragment child outsides (steps_within room (steps fragment.parts)) start child_in outs_in

    done_sites : SitesStay g.state done.state
    done_sites = sites_trans g.state start done.state begun done_start

    scopes_on : ScopesStay (with_child g.state.core.scopes scope object) done.state.core.scopes
    scopes_on = subst (λ (x : List Scope). ScopesStay x done.state.core.scopes) grown done_start.core.scopes

    path_there : path_at done.state.core.scopes child ≡ child_path g.state.core.scopes scope
    path_there = child_path_there scope g.state.core.scopes done.state.core.scopes object scopes_on

    was_there : (m : Linked) → linked_at holder done.state.instances ≡ Some m → linked_at holder g.state.instances ≡ Some m
    was_there m at = ap (linked_at holder) (sym done_sites.instances) ∙ at

    -- where nothing ends them they are all the fragment's
    module _ (none : done.fault ≡ None) (uncut : fault_in room (steps fragment.parts) ≡ None) where
      whole : HasOrder fragment
      whole = fragment_whole g.state.templates which u.watched.templates

      registered : IsRegistered fragment child done.made done.state
      registered =
          linking_registered start child outsides fragment done (omega (arith, child_in)) child_in outs_in room uncut
          (ap (λ (xs : List LinkStep). steps_linked fragment xs (begins_linking child outsides start)) (all_within room (steps fragment.parts) uncut)) none

      is_new : IsNew which child fragment done.made done.state g.state.core.serial
      is_new = record {
        there = let one = child_in in let more = done_start.core.scopes.more in omega (arith, one, more);
        registered = registered;
        count = registered.count ∙ sites_counted fragment whole (ended_done room (steps fragment.parts) uncut);
        whole = whole;
        plain = plain_outlets fragment whole room uncut;
        above = steps_above g.state.core.serial fragment child outsides (steps_within room (steps fragment.parts)) start begun.core.serial;
        others = λ p l at. (u.watched.linked p l (ap (linked_at p) (sym done_sites.instances) ∙ at)).below;
      }

      has_room : HasRoom which child fragment done.made done.state g.state.core.serial place
      has_room = (
        (λ same. path_apart g.state.core.scopes scope held.own u.watched.tree held.there held.own_there (held.on ∙ (same ∙ path_there))),
        λ m at.
            let was : linked_at holder g.state.instances ≡ Some m = was_there m at in
            record {
              child = λ x r get.
                  subst (λ (n : ℕ). IsChild done.state.core.scopes n (record { path = path_at done.state.core.scopes child; role = r })) (sym (of m x was get).1)
                  (child_free scope g.state.core.scopes done.state.core.scopes object r held.there scopes_on);
              free = next_free g.state.core.scopes scope (path_at done.state.core.scopes child) m.page.bounds m.page.outlets u.watched.tree held.there path_there (u.watched.linked holder m was).rounds;
            },
      )

      placed_made : IsMade o i role g (linked_then child None (placed place which child fragment done) g)
      placed_made =
          let p : State = placed_on place which child fragment done.made done.state in
          let under : Under p =
          under_placed k v holder ks left o i scope role which child fragment done.made done.state g.state.core.serial is_new has_room (λ m x at get. of m x (was_there m at) get) u.low (under_stays k v holder ks left g.state done.state done_sites u) in
          let rests : SitesStay p (rested_on_all done.made.at_hand.scopes p) = all_rested_sites done.made.at_hand.scopes p in
          record {
            under = under_stays k v holder ks left p (rested_on_all done.made.at_hand.scopes p) rests under;
            scopes = scopes_trans g.state.core.scopes done.state.core.scopes (rested_on_all done.made.at_hand.scopes p).core.scopes done_sites.core.scopes rests.core.scopes;
            stood = λ m at.
                let there : linked_at holder p.instances ≡ Some m = ap (linked_at holder) (sym rests.instances) ∙ at in
                let was = holder_was which child fragment done.made done.state g.state.core.serial is_new holder o i role has_room m there in
                (was.0, was_there was.0 was.1, inr (refl, (path_at done.state.core.scopes child, was.2)));
          }

    -- what was made in vain
    vain_made : (e : Fault) (l : Linking) → SitesStay g.state l.state → IsMade o i role g (linked_then child (Some e) l g)
    vain_made e l sites =
        made_fault o i role g _ refl
        (sites_trans g.state l.state _ sites
        (sites_trans l.state (discarded child l.state) _ (discarded_sites child l.state) (core_sites (discarded child l.state) (with_fault e (discarded child l.state).core) (fault_stays e (part (discarded child l.state).core))))) u

    linked_made : IsMade o i role g (body_linked place which fragment child outsides start g)
    linked_made = by_end (first_of done.fault (fault_in room (steps fragment.parts))) refl
      where
        by_end : (e : Option Fault) → first_of done.fault (fault_in room (steps fragment.parts)) ≡ e → IsMade o i role g (linked_by child (ended_link place which child fragment e done) g)
        by_end None is =
            let two = both_none done.fault (fault_in room (steps fragment.parts)) is in
            subst (λ (e : Option Fault). IsMade o i role g (linked_then child e (placed place which child fragment done) g)) (sym two.0) (placed_made two.0 two.1)
        by_end (Some e) is = vain_made e (given_up e done) (sites_trans g.state done.state (given_up e done).state done_sites (given_up_sites e done))

    -- where a template is included too deep nothing is linked
    body_fits : IsMade o i role g (body_on place which fragment child outsides start g)
    body_fits = by_depth (is_too_deep which)
      where
        by_depth : (b : Bool) → IsMade o i role g (cond b (linked_then child (Some Depth) (begins_linking child outsides start) g) (body_linked place which fragment child outsides start g))
        by_depth true = vain_made Depth (begins_linking child outsides start) begun
        by_depth false = linked_made

  pub filled_made : (o i scope : ℕ) (role : Role) (outsides : List ℕ) (names : List Local) (which : Origin) (g : Firing) → IsHeld g.state.core.scopes holder scope outsides → IsUnder k v holder ks left g.state → IsOfSite k v holder ks left o scope g.state
      → IsMade o i role g (filled (in_outlet holder o i role) scope outsides names which g)
  filled_made o i scope role outsides names which g held u of = by_room (nat_lt (length g.state.core.objects) object_limit)
    where
      proto : Option ℕ
      proto = Some (object_at g.state.core.scopes scope)

      made : Run ℕ
      made = (with_scope_made scope proto g.state.core, Ok (length g.state.core.scopes))

      full : Run ℕ
      full = (g.state.core, Err StoreFull)

      told : act.State
      told = told_on (length g.state.core.scopes) names made.0

      told_stays : Stays (part g.state.core) (part told)
      told_stays = stays_trans (part g.state.core) (part made.0) (part told) (scope_made scope proto g.state.core held.there) (told_stay (length g.state.core.scopes) names made.0)

      by_room : (b : Bool) → (let r : Run ℕ = cond b made full in IsMade o i role g (body_made (in_outlet holder o i role) outsides names which (fragments_in g.state.templates which) r.0 r.1 g))
      by_room true = body_fits o i scope role outsides which g (length g.state.core.objects) told refl told_stays held u of
      by_room false = made_fault o i role g (faulted_with StoreFull g) refl (fault_sites StoreFull g) u

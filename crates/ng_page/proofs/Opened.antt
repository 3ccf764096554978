-- A page right after its template was linked: its sites are watched, and nothing has been kept.
use Rattle.std.proofs.Common.{◌≡◌, ◌<◌, ◌-◌, ℕ, suc, Bool, true, slice_get, List, [], ◌∷◌, ◌++◌, length, Option, None, Some, Ok, refl, ap, subst, sym, ◌∙◌, arith}
use Rattle.std.specs.Prelude.{IsSome, unwrap_or}
use Rattle.std.specs.List.{AllByRecursion}
use Rattle.std.specs.List.Sorted.{IsStrictlySortedBy}
use Rattle.std.specs.Map.{keys_of}
use Rattle.ng_core.specs.State as act
use Rattle.ng_base.specs.Order.{path_cmp}
use Rattle.ng_base.specs.declared.fault.Fault.{Fault}
use Rattle.ng_behaviour.specs.Scopes.{IsScopeTree}
use Rattle.ng_drawing.specs.Nodes.{node_limit}
use Rattle.ng_drawing.specs.Template.{Fragment, no_fragment}
use Rattle.ng_drawing.specs.declared.origin.Origin.{Origin}
use Rattle.ng_steps.specs.Links.{Linking, begins_linking, steps_linked, rested_on_all, placed, given_up, first_of, ended_link, link_at}
use Rattle.ng_steps.proofs.Registered.{linking_registered}
use Rattle.ng_steps.proofs.Rooms.{all_within}
use Rattle.ng_instances.specs.Changing.{at_top}
use Rattle.ng_link.specs.Calls.{with_core, placed_on}
use Rattle.ng_instances.specs.Instances.{Linked, Instances, linked_at}
use Rattle.ng_build.specs.Linking.{LinkStep, steps, steps_within, fault_in}
use Rattle.ng_link.specs.Placing.{IsRegistered}
use Rattle.ng_link.specs.State.{State, live_nodes}
use Rattle.ng_link.proofs.Counted.{ended_done}
use Rattle.ng_link.proofs.Sorted.{none_in_order}
use Rattle.ng_drawing.specs.Named.{Named, fragment_for, fragments_in}
use Rattle.ng_drawing.specs.Numbering.{HasOrder, is_regular}
use Rattle.ng_compose.specs.TplNames.{next_name}
use Rattle.ng_page.specs.Opening.{linked_by, linked_from, linked_on, page_origin}
use Rattle.ng_page.proofs.DigestsStay.{AreFitting, fitting_stays}
use Rattle.ng_commands.proofs.EventsStay.{part, fault_stays}
use Rattle.ng_page.proofs.Filled.{both_none}
use Rattle.ng_page.proofs.LinksStay.{steps_sites, all_rested_sites, given_up_sites}
use Rattle.ng_page.proofs.Placing.{IsNew, placed_watched, placed_fits}
use Rattle.ng_page.proofs.Plain.{plain_outlets}
use Rattle.ng_page.proofs.Registered.{fragment_whole, sites_counted, steps_above}
use Rattle.ng_commands.proofs.Sites.{InKeys, SitesStay, sites_trans, core_sites}

nothing_there : (P : Type 0) (is : Instances) (p : List ℕ) (l : Linked) → is ≡ [] → linked_at p is ≡ Some l → P
nothing_there P is p l none at = let e : ◌≡◌ {A = Option Linked} None (Some l) = ap (linked_at p) (sym none) ∙ at in absurd (cc)

-- the templates are as the compiler makes them
abbrev pub AreRegular : List Named → Type 0
AreRegular ts = AllByRecursion (λ (t : Named). is_regular t.1 ≡ true) ts

pub each_regular : (ts : List Named) → ((t : ℕ) (k : Named) → slice_get ts t ≡ Some k → is_regular k.1 ≡ true) → AreRegular ts
each_regular [] h = tt
each_regular (k ∷ ts) h = (h 0 k refl, each_regular ts (λ t x at. h (suc t) x at))

-- where nothing is linked
pub bare_fitting : (s : State) → s.instances ≡ [] → InKeys s.watchers → IsScopeTree s.core.scopes → AreRegular s.templates → AreFitting [] s
bare_fitting s none keys tree regular = record {
  watched = record {
    linked = λ p l at. nothing_there _ s.instances p l none at;
    apart = λ p q l m n at bt one two. nothing_there _ s.instances p l none at;
    paths = subst (λ (is : Instances). IsStrictlySortedBy path_cmp (keys_of is)) (sym none) (none_in_order path_cmp);
    keys = keys;
    tree = tree;
    templates = regular;
  };
  fits = λ p l at. nothing_there _ s.instances p l none at;
}

module _ (s : State) (none : s.instances ≡ []) (keys : InKeys s.watchers) (tree : IsScopeTree s.core.scopes) (regular : AreRegular s.templates) (root : 0 < length s.core.scopes) where
  bare : AreFitting [] s
  bare = bare_fitting s none keys tree regular

  abbrev fragment : Fragment
  fragment = fragments_in s.templates page_origin

  abbrev room : ℕ
  room = node_limit - live_nodes s

  -- after the steps
  abbrev done : Linking
  done = steps_linked fragment (steps_within room (steps fragment.parts)) (begins_linking 0 [] s)

  done_sites : SitesStay s done.state
  done_sites = steps_sites fragment 0 [] (steps_within room (steps fragment.parts)) s root tt

  module _ (fine : done.fault ≡ None) (uncut : fault_in room (steps fragment.parts) ≡ None) where
    whole : HasOrder fragment
    whole = fragment_whole s.templates page_origin regular

    registered : IsRegistered fragment 0 done.made done.state
    registered =
        linking_registered s 0 [] fragment done root root tt room uncut
        (ap (λ (xs : List LinkStep). steps_linked fragment xs (begins_linking 0 [] s)) (all_within room (steps fragment.parts) uncut)) fine

    is_new : IsNew page_origin 0 fragment done.made done.state s.core.serial
    is_new = record {
      there = let more = done_sites.core.scopes.more in omega (arith, root, more);
      registered = registered;
      count = registered.count ∙ sites_counted fragment whole (ended_done room (steps fragment.parts) uncut);
      whole = whole;
      plain = plain_outlets fragment whole room uncut;
      above = steps_above s.core.serial fragment 0 [] (steps_within room (steps fragment.parts)) s (omega arith);
      others = λ q l at. nothing_there _ done.state.instances q l (done_sites.instances ∙ none) at;
    }

    placed_fitting : AreFitting [] (placed at_top page_origin 0 fragment done).state
    placed_fitting =
        let p : State = placed_on at_top page_origin 0 fragment done.made done.state in
        let h : AreFitting [] done.state = fitting_stays [] s done.state done_sites bare in
        fitting_stays [] p (rested_on_all done.made.at_hand.scopes p) (all_rested_sites done.made.at_hand.scopes p) (record {
          watched = placed_watched page_origin 0 fragment done.made done.state s.core.serial is_new at_top tt h.watched;
          fits = placed_fits page_origin 0 fragment done.made done.state s.core.serial is_new at_top [] tt tt h.fits;
        })

  told_fitting : (e : Fault) → AreFitting [] (linked_from (given_up e done))
  told_fitting e =
      let t : State = (given_up e done).state in
      fitting_stays [] s (with_core (act.with_fault e t.core) t)
      (sites_trans s done.state (with_core (act.with_fault e t.core) t) done_sites
      (sites_trans done.state t (with_core (act.with_fault e t.core) t) (given_up_sites e done) (core_sites t (act.with_fault e t.core) (fault_stays e (part t.core))))) bare

  pub opened_fitting : AreFitting [] (linked_on s)
  opened_fitting = by_end (first_of done.fault (fault_in room (steps fragment.parts))) refl
    where
      by_end : (e : Option Fault) → first_of done.fault (fault_in room (steps fragment.parts)) ≡ e → AreFitting [] (linked_from (ended_link at_top page_origin 0 fragment e done))
      by_end None is =
          let two = both_none done.fault (fault_in room (steps fragment.parts)) is in
          subst (λ (o : Option Fault). AreFitting [] (linked_by o (placed at_top page_origin 0 fragment done).state)) (sym two.0) (placed_fitting two.0 two.1)
      by_end (Some e) is = told_fitting e

-- ---- the page's template is the first

pub one_added : (ts us : List Named) (k : Named) → ts ≡ [] → us ≡ ts ++ k ∷ [] → us ≡ k ∷ []
one_added ts us k e g = g ∙ ap (λ (xs : List Named). xs ++ k ∷ []) e

pub first_name : (ts : List Named) (n : ℕ) → ts ≡ [] → next_name (length ts) ≡ Ok n → n ≡ 0
first_name ts n e g = let h : next_name (length {A = Named} []) ≡ Ok n = ap (λ (xs : List Named). next_name (length xs)) (sym e) ∙ g in cc

-- its own fragment is there
pub first_fragment : (ts : List Named) → 0 < length ts → IsSome (fragment_for ts page_origin)
first_fragment [] some = absurd (omega (arith, some))
first_fragment (k ∷ ts) some = refl

-- what its linking comes to, and what fault that told of
abbrev pub IsLinkedAs : List Named → State → State → Option Fault → Bool → Origin → List ℕ → Type 0
IsLinkedAs ts s r fault added o outsides =
    (f : Fragment) → fragment_for ts o ≡ Some f → (r ≡ (link_at at_top o 0 outsides f s).state) × (added ≡ (link_at at_top o 0 outsides f s).added) × (fault ≡ (link_at at_top o 0 outsides f s).fault)

pub page_linked : (s r : State) (fault : Option Fault) (added : Bool) → 0 < length s.templates → IsLinkedAs s.templates s r fault added page_origin [] → linked_by fault r ≡ linked_on s
page_linked s r fault added some linked = by_fragment (fragment_for s.templates page_origin) refl (first_fragment s.templates some)
  where
    by_fragment : (o : Option Fragment) → fragment_for s.templates page_origin ≡ o → IsSome o → linked_by fault r ≡ linked_on s
    by_fragment None e there = absurd (cc)
    by_fragment (Some f) e there =
        let one = linked f e in
        let l : Linking = link_at at_top page_origin 0 [] f s in
        let those : f ≡ fragments_in s.templates page_origin = sym (ap (λ (o : Option Fragment). unwrap_or o no_fragment) e) in
        ap (λ (x : Option Fault). linked_by x r) one.2 ∙ (ap (linked_by l.fault) one.0 ∙ ap (λ (g : Fragment). linked_from (link_at at_top page_origin 0 [] g s)) those)

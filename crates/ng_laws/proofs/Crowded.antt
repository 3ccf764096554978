-- A page that would have too many nodes.
use Rattle.std.proofs.Common.{◌≡◌, ◌<◌, ◌≤◌, ◌+◌, ◌-◌, ℕ, zero, suc, Bool, true, false, List, [], ◌∷◌, refl, ap, sym, ◌∙◌, subst, Option, Some, None, Result, Ok, Err, nat_lt, arith}
use Rattle.std.specs.Option.{IfSome}
use Rattle.std.specs.Prelude.{◌&&◌, if◌then◌else◌}
use Rattle.std.proofs.lemmas.Bool.Decides.{nat_tests}
use Rattle.ng_core.specs.State.{first_or}
use Rattle.ng_app.specs.App.{Facts}
use Rattle.ng_app.specs.Directives.{all_programs}
use Rattle.ng_app.specs.Installing.{installed}
use Rattle.ng_base.specs.declared.fault.Fault.{Fault}
use Rattle.ng_base.specs.declared.fault.Fault.TheVariants.{NodeLimit}
use Rattle.ng_base.specs.declared.path.Target.{Target}
use Rattle.ng_base.specs.declared.path.Target.TheVariants as target
use Rattle.ng_behaviour.specs.Scopes.{live_at}
use Rattle.ng_dom.specs.Drawing.{shows}
use Rattle.ng_dom.specs.Nodes.{NamedNode, nothing_named}
use Rattle.ng_dom.specs.Printed.{nth_of, went}
use Rattle.ng_drawing.specs.Instance.{shown as drawn}
use Rattle.ng_drawing.specs.Nodes.{forest_count, nodes, node_limit}
use Rattle.ng_drawing.specs.Template.{Fragment, Parts, Template}
use Rattle.ng_steps.proofs.Rooms.{room_found}
use Rattle.ng_steps.specs.Links.{Linking, begins_linking, ended_link, first_of, given_up, steps_linked}
use Rattle.ng_instances.specs.Changing.{at_top}
use Rattle.ng_link.specs.Calls.{blank}
use Rattle.ng_build.specs.Linking.{fault_in, steps, steps_within}
use Rattle.ng_link.specs.Events.{named}
use Rattle.ng_instances.specs.Instances.{Instances, stands_at}
use Rattle.ng_build.specs.Shape.{linked}
use Rattle.ng_link.specs.State.{State, looks_in, instance_at, live_nodes, shown}
use Rattle.ng_markup.specs.Forest.{no_nodes}
use Rattle.ng_page.specs.Answered.{DigestsWhere}
use Rattle.ng_commands.specs.Commands.{Asked, is_idle, begun, asked_run}
use Rattle.ng_page.specs.Opening.{prepared, linked_by, linked_from, opening, page_origin, templates_for}
use Rattle.ng_page.specs.Steps.{Outcome, Ends}
use Rattle.ng_page.specs.Targets.{element_name, target_in}
use Rattle.ng_page.proofs.DigestsStay.{digest_bare}
use Rattle.ng_page.proofs.Filled.{both_none}
use Rattle.ng_page.proofs.LinksStay.{given_up_sites, steps_instances}
use Rattle.ng_commands.proofs.Sites.{SitesStay}
use Rattle.ng_commands.proofs.StepsStay.{followed_sites, program_stays, asked_sites}
use Rattle.ng_script.specs.Acts.{Act, Entry}
use Rattle.ng_inputs.specs.Refusals.{Accepted}
use Rattle.ng_performing.specs.Aims.{asked_of}
use Rattle.ng_run.specs.Happenings.{DoesEvent}
use Rattle.ng_performing.specs.Fired.{Fired, fired_by}
use Rattle.ng_printing.specs.Lines.{Digest, header}
use Rattle.ng_run.specs.Session.{Reply, all_well, steps_status, whole, Runs, SessionOf}
use Rattle.ng_printing.specs.Left.{Left, Step, is_well}
use Rattle.ng_run.specs.Steps.{DoesUnlessIdle, DoesAsked, DoesAct, Continues, OpensPage}
use Rattle.ng_drawing.specs.Named.{Named, fragments_in}
use Rattle.ng_laws.specs.Sessions.{CrowdedPageIsEmpty, page_fragment}
use Rattle.ng_changes.specs.Runs.{program_run}

-- ---- the linking

is_full : (live n : ℕ) → node_limit < n → nat_lt node_limit (live + n) ≡ true
is_full live n l = grind (arith, nat_tests)

no_room : (live : ℕ) (ps : Parts) → node_limit < nodes ps → linked live ps ≡ Ok tt → ⊥
no_room live ps more e =
    let full : (let r : Result (Unit {0}) Fault = Err NodeLimit in r ≡ Ok tt) = sym (ap (λ (b : Bool). (let r : Result (Unit {0}) Fault = if b then Err NodeLimit else Ok tt in r)) (is_full live (nodes ps) more)) ∙ e in
    absurd (cc)

-- what there is before the template is linked
abbrev before : Accepted → State
before a = prepared a.template a.facts

-- nothing is linked then, and the templates are there
prepared_sites : (u : Template) (f : Facts) → SitesStay (blank (templates_for u f) (all_programs f.directives) (installed f)) (prepared u f)
prepared_sites u f = followed_sites (program_run 0 f.run (installed f)) (blank (templates_for u f) (all_programs f.directives) (installed f)) (program_stays 0 f.run (installed f))

none_linked : (u : Template) (f : Facts) → (prepared u f).instances ≡ []
none_linked u f = (prepared_sites u f).instances

no_nodes_live : (s : State) → s.instances ≡ [] → live_nodes s ≡ 0
no_nodes_live s e = ap (λ (is : Instances). forest_count (drawn (instance_at s.watchers s.resting s.controls is []))) e

-- what is linked, and how far its steps come
abbrev fragment : Accepted → Fragment
fragment a = fragments_in (before a).templates page_origin

same_fragment : (a : Accepted) → fragment a ≡ page_fragment a
same_fragment a = ap (λ (ts : List Named). fragments_in ts page_origin) (prepared_sites a.template a.facts).templates

abbrev cut : Accepted → Option Fault
cut a = fault_in (node_limit - live_nodes (before a)) (steps (fragment a).parts)

abbrev done : Accepted → Linking
done a = steps_linked (fragment a) (steps_within (node_limit - live_nodes (before a)) (steps (fragment a).parts)) (begins_linking 0 [] (before a))

-- the steps or the nodes are a fault, and nothing stands
given : (a : Accepted) → node_limit < nodes (fragment a).parts → (e : Fault) × (opening a.facts a.template ≡ linked_by (Some e) (given_up e (done a)).state)
given a more = by (first_of (done a).fault (cut a)) refl
  where
    few : live_nodes (before a) ≤ node_limit
    few = let none = no_nodes_live (before a) (none_linked a.template a.facts) in omega (arith, none)

    by : (o : Option Fault) → first_of (done a).fault (cut a) ≡ o → (e : Fault) × (opening a.facts a.template ≡ linked_by (Some e) (given_up e (done a)).state)
    by None is = absurd (no_room (live_nodes (before a)) (fragment a).parts more (room_found (fragment a).parts (live_nodes (before a)) few (both_none (done a).fault (cut a) is).1))
    by (Some e) is = (e, ap (λ (o : Option Fault). linked_from (ended_link at_top page_origin 0 (fragment a) o (done a))) is)

-- and a digest links nothing then
linked_stays : (due : Bool) (s : State) (d : Digest) (probed : List (List ℕ)) (t : State) → DigestsWhere due s d probed t → s.instances ≡ [] → t.instances ≡ []
linked_stays true s None probed t h none = absurd h
linked_stays true s (Some a) probed t (end, d, e, f) none = ap (λ (x : State). x.instances) e ∙ digest_bare s a end d none
linked_stays false s (Some a) probed t h none = absurd h
linked_stays false s None probed t h none = ap (λ (x : State). x.instances) h.0 ∙ none

not_well : (o : Option Fault) (f : Fault) (d : Digest) → is_well (first_or o f) d ≡ false
not_well None f d = refl
not_well (Some e) f d = refl

-- nor does a command
ends_unlinked : (s : State) (o : Outcome) (t : State) → Ends s o t → s.instances ≡ [] → t.instances ≡ []
ends_unlinked s o t h e = linked_stays (live_at s.core.scopes 0) s o.digest o.probed t h.digest e

unless_unlinked : (idle trace : Bool) (head : List ℕ) (a : Asked) (s : State) (x : Step) (l : Left) → DoesUnlessIdle idle trace head a s x l → s.instances ≡ [] → l.state.instances ≡ []
unless_unlinked true trace head a s x l h e = ap (λ (z : Left). z.state.instances) h.1 ∙ e
unless_unlinked false trace head a s x l h e = ap (λ (z : Left). z.state.instances) h.leaves ∙ ends_unlinked (asked_run a (begun s)) h.outcome h.state h.steps ((asked_sites a (begun s)).instances ∙ e)

asked_unlinked : (trace : Bool) (head : List ℕ) (o : Option Asked) (s : State) (x : Step) (l : Left) → DoesAsked trace head o s x l → s.instances ≡ [] → l.state.instances ≡ []
asked_unlinked trace head None s x l h e = ap (λ (z : Left). z.state.instances) h.1 ∙ e
asked_unlinked trace head (Some a) s x l h e = unless_unlinked (is_idle a s) trace head a s x l h e

-- nor does an event, since there is no element to fire it at
none_there : (i : ℕ) → nth_of {X = NamedNode} i [] ≡ None
none_there zero = refl
none_there (suc i) = refl

went_nowhere : (p : List ℕ) → went None p ≡ None
went_nowhere [] = refl
went_nowhere (i ∷ p) = went_nowhere p

nowhere : (t : Target) → target_in t nothing_named ≡ None
nowhere (target.Id id) = refl
nowhere (target.Path []) = refl
nowhere (target.Path (i ∷ p)) = ap (λ o. element_name (went o p)) (none_there i) ∙ ap element_name (went_nowhere p)

unlinked_nowhere : (t : Target) (s : State) → s.instances ≡ [] → target_in t (named s) ≡ None
unlinked_nowhere t s e = ap (λ is. target_in t (shows (looks_in s) (stands_at is []))) e ∙ nowhere t

act_unlinked : (trace : Bool) (head : List ℕ) (f : Option Fired) (a : Act) (s : State) (x : Step) (l : Left) → DoesAct trace head f a s x l → s.instances ≡ [] → l.state.instances ≡ []
act_unlinked trace head None a s x l h e = asked_unlinked trace head (asked_of a s) s x l h e
act_unlinked trace head (Some f) a s x l h e =
    let none = subst (λ n. DoesEvent trace head f.event n s x l) (unlinked_nowhere f.target s e) h in
    ap (λ (z : Left). z.state.instances) none.1 ∙ e

continues_unlinked : (trace : Bool) (k : ℕ) (es : List Entry) (left : Left) (xs : List Step) (end : Left) → Continues trace k es left xs end → left.state.instances ≡ [] → end.state.instances ≡ []
continues_unlinked trace k [] left xs end h e = ap (λ (z : Left). z.state.instances) h.1 ∙ e
continues_unlinked trace k (c ∷ es) left xs end (x, next, rest, does, more, is) e =
    continues_unlinked trace (k + 1) es next rest end more (act_unlinked trace (header k c.shown) (fired_by c.act) c.act left.state x next does e)

module _ (trace : Bool) (a : Accepted) (more : node_limit < nodes (fragment a).parts) (x : Step) (left : Left) (h : OpensPage trace a x left) where
  abbrev started : State
  started = opening a.facts a.template

  -- what was made in vain
  abbrev fault : Fault
  fault = (given a more).0

  abbrev vain : State
  vain = (given_up fault (done a)).state

  empty : started ≡ linked_by (Some fault) vain
  empty = (given a more).1

  none_there_yet : started.instances ≡ []
  none_there_yet =
      ap (λ (s : State). s.instances) empty
      ∙ ((given_up_sites fault (done a)).instances
      ∙ (steps_instances (fragment a) (steps_within (node_limit - live_nodes (before a)) (steps (fragment a).parts)) (begins_linking 0 [] (before a)) ∙ none_linked a.template a.facts))

  first_fault : h.outcome.first ≡ first_or vain.core.handed.first fault
  first_fault = h.opens.first ∙ ap (λ (s : State). s.core.handed.first) empty

  first_faulted : x.well ≡ false
  first_faulted = ap (λ (s : Step). s.well) h.prints ∙ (ap (λ f. is_well f h.outcome.digest) first_fault ∙ not_well vain.core.handed.first fault h.outcome.digest)

  first_unlinked : left.state.instances ≡ []
  first_unlinked = ap (λ (z : Left). z.state.instances) h.leaves ∙ ends_unlinked started h.outcome h.state h.opens none_there_yet

runs_crowded : (trace : Bool) (a : Accepted) (r : Reply) → node_limit < nodes (fragment a).parts → Runs whole trace a r → (r.status ≡ 1) × IfSome r.page (λ l. shown l.state ≡ no_nodes)
runs_crowded trace a r more (xs, end, (x, left, rest, opens, then_on, is), done_so) =
    let status : steps_status xs ≡ 1 = ap steps_status is ∙ ap (λ b. if b && all_well rest then 0 else 1) (first_faulted trace a more x left opens) in
    let gone : end.state.instances ≡ [] = continues_unlinked trace 1 a.commands left rest end then_on (first_unlinked trace a more x left opens) in (
      ap (λ (q : Reply). q.status) done_so ∙ status,
      subst (λ o. IfSome o (λ l. shown l.state ≡ no_nodes)) (sym (ap (λ (q : Reply). q.page) done_so)) (ap (λ is. drawn (instance_at end.state.watchers end.state.resting end.state.controls is [])) gone),
    )

pub crowded : CrowdedPageIsEmpty
crowded trace i a r e more h = runs_crowded trace a r (subst (λ (f : Fragment). node_limit < nodes f.parts) (sym (same_fragment a)) more) (subst (λ c. SessionOf whole trace c r) e h)

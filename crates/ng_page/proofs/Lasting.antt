-- What no step of a page takes back: its templates, and the numbers of registration that were given.
use Rattle.std.proofs.Common.{◌≡◌, ◌≤◌, ◌-◌, ◌∙◌, ℕ, Bool, true, false, cond, List, [], ◌∷◌, Option, Some, None, Result, Ok, Err, refl, sym, subst, arith}
use Rattle.ng_core.specs.State as act
use Rattle.ng_core.specs.State.{Run}
use Rattle.ng_base.specs.Views.{ViewTree}
use Rattle.ng_base.specs.declared.fault.Fault.{Fault}
use Rattle.ng_base.specs.declared.fault.Fault.TheVariants.{Depth}
use Rattle.ng_base.specs.declared.path.Key.{Key}
use Rattle.ng_behaviour.specs.Scopes.{live_at}
use Rattle.ng_digest.specs.Plain.{Plain, PlainDigests}
use Rattle.ng_digest.specs.declared.rounds.DigestFault.{DigestFault}
use Rattle.ng_drawing.specs.Cases.{Case}
use Rattle.ng_drawing.specs.Nodes.{node_limit}
use Rattle.ng_drawing.specs.Origins.{is_too_deep}
use Rattle.ng_drawing.specs.Template.{Fragment}
use Rattle.ng_drawing.specs.declared.origin.Origin.{Origin}
use Rattle.ng_fire.proofs.RepeatWalks.{outlets_keep}
use Rattle.ng_changes.specs.ChildRun.{child_run}
use Rattle.ng_rows.specs.Chosen.{told_on, goes, cases_due}
use Rattle.ng_fire.specs.Blocks.{Firing, begins_firing, ended, gone, all_gone, linked_then, body_made, filled, outlet_emptied, outlets_emptied, body_linked}
use Rattle.ng_fire.specs.SiteFires.{outlets_filled, outlets_fired, site_fired_by, site_fired}
use Rattle.ng_fire.specs.Fires.{fired as fires, value_at}
use Rattle.ng_steps.specs.Links.{Linking, begins_linking, steps_linked, first_of, ended_link, link_at}
use Rattle.ng_changes.specs.Runs.{followed, destroy_run}
use Rattle.ng_settling.specs.Settling.{unset_all}
use Rattle.ng_language.specs.Trees.{Trees}
use Rattle.ng_instances.specs.Changing.{Place}
use Rattle.ng_link.specs.Calls.{with_core, keeping_at, is_drawn, unset_at, left_at, placed_on}
use Rattle.ng_instances.specs.Due.{Due, all_due}
use Rattle.ng_build.specs.Controls.{ControlHere}
use Rattle.ng_link.specs.Events.{control_at, handlers_at, scope_of, scope_in}
use Rattle.ng_instances.specs.Instances.{Body, linked_at, linked_for, instance_path, bound_for, is_site}
use Rattle.ng_build.specs.Linking.{steps, steps_within, fault_in}
use Rattle.ng_instances.specs.Bindings.{Bound}
use Rattle.ng_link.specs.State.{State, live_nodes}
use Rattle.ng_drawing.specs.Named.{Named, fragments_in}
use Rattle.ng_members.specs.Leaves.{Local}
use Rattle.ng_watch.specs.Table.{with_kept, kept_at}
use Rattle.ng_page.specs.Answered.{DigestsWhere}
use Rattle.ng_commands.specs.Commands.{Asked, begun, asked_run}
use Rattle.ng_commands.specs.Handling.{Happening, Event, unmade, awaited, made, refused, Going, way, ready, handling_run, rested, handled, has_turn, touch_run, touched, has_touch}
use Rattle.ng_page.specs.Dispatch.{Told, is_stopped, MayTakeTurn, Handles, MayTouch, HandlesAt, Unless, before, Bubbles, Dispatches}
use Rattle.ng_page.specs.Laws.{OfEachStep, LinkedSitesGetNewNumbers}
use Rattle.ng_page.specs.PageLaws.{by_test}
use Rattle.ng_page.specs.PageMachine as machine
use Rattle.ng_page.specs.PageMachine.{page_machine, readied}
use Rattle.ng_page.specs.Steps.{Outcome, Ends, Steps}
use Rattle.ng_page.proofs.DigestsStay.{by_fire, digest_stays}
use Rattle.ng_page.proofs.FiresTold.{bound_set}
use Rattle.ng_page.proofs.LinksStay.{steps_templates, all_rested_sites, given_up_sites, discarded_sites}
use Rattle.ng_page.proofs.Keeps.{KeepsEach, digest_keeps}
use Rattle.ng_page.proofs.Registered.{steps_new}
use Rattle.ng_commands.proofs.Sites.{SitesStay, sites_cond, left_sites}
use Rattle.ng_commands.proofs.StepsStay.{asked_sites, destroyed_stays, finished_sites, followed_sites, ran_sites}
use Rattle.ng_page.proofs.FiresStay.{run_sites}
use Rattle.ng_commands.proofs.Handled.{handling_sites}

-- ---- a fire makes bodies of the templates, and changes none

abbrev Has : List Named → Firing → Type 0
Has ts g = g.state.templates ≡ ts

ended_has : (ts : List Named) (p : List ℕ) (g : Firing) → Has ts g → Has ts (ended p g)
ended_has ts p g h =
    let scope : ℕ = scope_in (linked_at p g.state.instances) in
    (followed_sites (destroy_run scope g.state.core) g.state (destroyed_stays scope g.state.core)).templates ∙ h

gone_has : (ts : List Named) (holder : List ℕ) (b : Body) (g : Firing) → Has ts g → Has ts (gone holder b g)
gone_has ts holder b g h = ended_has ts b.path g h

all_gone_has : (ts : List Named) (holder : List ℕ) (bs : List Body) (g : Firing) → Has ts g → Has ts (all_gone holder bs g)
all_gone_has ts holder [] g h = h
all_gone_has ts holder (b ∷ bs) g h = all_gone_has ts holder bs (gone holder b g) (gone_has ts holder b g h)

link_templates : (place : Place) (which : Origin) (scope : ℕ) (outsides : List ℕ) (f : Fragment) (s : State) → (link_at place which scope outsides f s).state.templates ≡ s.templates
link_templates place which scope outsides f s = by_end (first_of g.fault (fault_in room (steps f.parts)))
  where
    room : ℕ
    room = node_limit - live_nodes s

    g : Linking
    g = steps_linked f (steps_within room (steps f.parts)) (begins_linking scope outsides s)

    begun : g.state.templates ≡ s.templates
    begun = steps_templates f (steps_within room (steps f.parts)) (begins_linking scope outsides s)

    by_end : (e : Option Fault) → (ended_link place which scope f e g).state.templates ≡ s.templates
    by_end None = (all_rested_sites g.made.at_hand.scopes (placed_on place which scope f g.made g.state)).templates ∙ begun
    by_end (Some e) = (given_up_sites e g).templates ∙ begun

linked_has : (ts : List Named) (scope : ℕ) (o : Option Fault) (l : Linking) (g : Firing) → l.state.templates ≡ ts → Has ts (linked_then scope o l g)
linked_has ts scope None l g h = h
linked_has ts scope (Some e) l g h = (discarded_sites scope l.state).templates ∙ h

either_has : (ts : List Named) (b : Bool) (g h : Firing) → Has ts g → Has ts h → Has ts (cond b g h)
either_has ts true g h one two = one
either_has ts false g h one two = two

made_has : (ts : List Named) (place : Place) (outsides : List ℕ) (names : List Local) (which : Origin) (f : Fragment) (c : act.State) (r : Result ℕ Fault) (g : Firing) → Has ts g → Has ts (body_made place outsides names which f c r g)
made_has ts place outsides names which f c (Err e) g h = h
made_has ts place outsides names which f c (Ok child) g h =
    let s : State = with_core (told_on child names c) g.state in
    let l : Linking = link_at place which child outsides f s in
    either_has ts (is_too_deep which) (linked_then child (Some Depth) (begins_linking child outsides s) g) (body_linked place which f child outsides s g) (linked_has ts child (Some Depth) (begins_linking child outsides s) g h)
    (linked_has ts child l.fault l g (link_templates place which child outsides f s ∙ h))

filled_has : (ts : List Named) (place : Place) (scope : ℕ) (outsides : List ℕ) (names : List Local) (which : Origin) (g : Firing) → Has ts g → Has ts (filled place scope outsides names which g)
filled_has ts place scope outsides names which g h =
    let r : Run ℕ = child_run scope g.state.core in
    made_has ts place outsides names which (fragments_in g.state.templates which) r.0 r.1 g h

emptied_has : (ts : List Named) (holder : List ℕ) (v : ViewTree) (ds : List Due) (g : Firing) → Has ts g → Has ts (outlets_emptied holder v ds g)
emptied_has ts holder v [] g h = h
emptied_has ts holder v (d ∷ ds) g h =
    emptied_has ts holder v ds (outlet_emptied holder v d g) (either_has ts (goes d.filling v) (all_gone holder d.bodies g) g (all_gone_has ts holder d.bodies g h) h)

come_has : (ts : List Named) (holder : List ℕ) (cases : List Case) (v : ViewTree) (ds : List Due) (g : Firing) → Has ts g → Has ts (outlets_filled holder cases v ds g)
come_has ts = outlets_keep (Has ts) (λ _ _ _ h. h) (λ _ _ h. h) (λ _ _ h. h) (ended_has ts) (λ _ _ _ h. h) (λ _ _ _ _ h. h) (filled_has ts)

outlets_has : (ts : List Named) (holder : List ℕ) (v : ViewTree) (ds : List Due) (g : Firing) → Has ts g → Has ts (outlets_fired holder v ds g)
outlets_has ts holder v ds g h = come_has ts holder (cases_due ds) v ds (outlets_emptied holder v ds g) (emptied_has ts holder v ds g h)

site_templates : (k : Key) (v : ViewTree) (value former : Option ViewTree) (s : State) → (site_fired k v value former s).state.templates ≡ s.templates
site_templates k v value former s = by_bound (bound_for s.inner s.instances k) value
  where
    by_bound : (b : Option Bound) (value : Option ViewTree) → (site_fired_by b k v value former s).state.templates ≡ s.templates
    by_bound None value = outlets_has s.templates (instance_path s.inner k.path) v (all_due k (linked_for s.inner k.path s.instances)) (begins_firing s) refl
    by_bound (Some b) None = refl
    by_bound (Some b) (Some w) = (bound_set b k.path w former (begins_firing s)).sites.templates

one_of : (ts : List Named) (b : Bool) (p q : State × Bool) → p.0.templates ≡ ts → q.0.templates ≡ ts → (let r : State × Bool = cond b p q in r.0.templates ≡ ts)
one_of ts true p q h k = h
one_of ts false p q h k = k

fires_templates : (k : Key) (v : ViewTree) (s : State) → (fires k v s).0.templates ≡ s.templates
fires_templates k v s = one_of s.templates (is_site s.inner s.instances k) _ _ (site_templates k v (value_at s k) (kept_at k s.watchers) (keeping_at k v s)) (run_sites k s (keeping_at k v s) refl).templates

-- ---- a digest

either_templates : (b : Bool) (s t : State) → t.templates ≡ s.templates → (let u : State = cond b s t in u.templates ≡ s.templates)
either_templates true s t h = refl
either_templates false s t h = h

unset_templates : (ks : List Key) (s : State) → (unset_all ks s).templates ≡ s.templates
unset_templates [] s = refl
unset_templates (k ∷ ks) s = unset_templates ks (unset_at k s) ∙ either_templates (is_drawn s k) s (record s { watchers = with_kept k None s.watchers }) refl

abbrev InDigest : List Named → machine.State → Type 0
InDigest ts u = u.works.templates ≡ ts

templates_each : (ts : List Named) → KeepsEach page_machine (InDigest ts)
templates_each ts = record {
  tests = λ t k h. by_test (InDigest ts) t k h (λ f. h);
  fires = λ t k h. by_fire (InDigest ts) t k h (λ v. fires_templates k v t.works ∙ h);
  runs = λ t h. (ran_sites t.works).templates ∙ h;
  settles = λ t h. (finished_sites (unset_all t.faulted t.works)).templates ∙ (unset_templates t.faulted t.works ∙ h);
  fails = λ t h. unset_templates t.faulted t.works ∙ h;
}

digest_templates : (s : State) (r : Result (ℕ × ℕ) DigestFault) (p : Plain machine.State) → PlainDigests page_machine (readied s) r p → p.state.works.templates ≡ s.templates
digest_templates s r p d = digest_keeps page_machine (InDigest s.templates) (templates_each s.templates) d refl

pub record Lasts (s t : State) : Type 0 where
  pub templates : t.templates ≡ s.templates
  pub serial : s.core.serial ≤ t.core.serial

lasts_same : (s : State) → Lasts s s
lasts_same s = record { templates = refl; serial = omega arith }

lasts_on : (s t u : State) → Lasts s t → Lasts t u → Lasts s u
lasts_on s t u a b = record { templates = b.templates ∙ a.templates; serial = omega (arith, a.serial, b.serial) }

lasts_by : (s t : State) → SitesStay s t → Lasts s t
lasts_by s t h = record { templates = h.templates; serial = h.core.serial }

-- ---- a command

ends_last : (due : Bool) (s : State) (d : Option (Result (ℕ × ℕ) DigestFault)) (probed : List (List ℕ)) (t : State) → DigestsWhere due s d probed t → Lasts s t
ends_last true s None probed t h = absurd h
ends_last true s (Some a) probed t (end, d, e, f) = subst (Lasts s) (sym e) (record { templates = digest_templates s a end d; serial = (digest_stays s a end d).serial })
ends_last false s (Some a) probed t h = absurd h
ends_last false s None probed t h = subst (Lasts s) (sym h.0) (lasts_same s)

step_ends : (s : State) (o : Outcome) (t : State) → Ends s o t → Lasts s t
step_ends s o t h = ends_last (live_at s.core.scopes 0) s o.digest o.probed t h.digest

command_lasts : (a : Asked) (s : State) (o : Outcome) (t : State) → Steps a s o t → Lasts s t
command_lasts a s o t h =
    let stay = asked_sites a (begun s) in
    lasts_on s (asked_run a (begun s)) t (record { templates = stay.templates; serial = stay.core.serial }) (step_ends (asked_run a (begun s)) o t h)

-- ---- an event

ready_lasts : (e : Event) (s : State) → Lasts s (ready e s)
ready_lasts unmade s = record { templates = refl; serial = omega arith }
ready_lasts awaited s = record { templates = refl; serial = omega arith }
ready_lasts (made o) s = record { templates = refl; serial = omega arith }
ready_lasts refused s = lasts_same s

rested_lasts : (s : State) → Lasts s (rested s)
rested_lasts s = lasts_by s (rested s) (sites_cond (live_at s.core.scopes 0) s (left_at [] s) (left_sites [] s))

handled_lasts : (x : Happening) (n : ℕ) (p : Trees) (g : Going) → Lasts g.state (handled x n p g)
handled_lasts x n p g =
    let s : State = ready g.event g.state in
    let t : State = followed (handling_run x g.event (scope_of s n) p s.core) s in
    lasts_on g.state s (rested t) (ready_lasts g.event g.state) (lasts_on s t (rested t) (lasts_by s t (handling_sites x g.event (scope_of s n) p s)) (rested_lasts t))

turn_lasts : (b : Bool) (x : Happening) (n : ℕ) (p : Trees) (g : Going) (os : List Told) (h : Going) → MayTakeTurn b x n p g os h → Lasts g.state h.state
turn_lasts true x n p g os h (o, turn, e) = lasts_on g.state (handled x n p g) h.state (handled_lasts x n p g) (step_ends (handled x n p g) _ h.state turn.ends)
turn_lasts false x n p g os h (e, i) = subst (λ (k : Going). Lasts g.state k.state) (sym i) (lasts_same g.state)

handlers_last : (x : Happening) (n : ℕ) (ps : List Trees) (g : Going) (os : List Told) (h : Going) → Handles x n ps g os h → Lasts g.state h.state
handlers_last x n [] g os h (e, i) = subst (λ (k : Going). Lasts g.state k.state) (sym i) (lasts_same g.state)
handlers_last x n (p ∷ ps) g os h (mid, first, rest, turn, more, e) =
    lasts_on g.state mid.state h.state (turn_lasts (has_turn n g) x n p g first mid turn) (handlers_last x n ps mid rest h more)

-- a control loses the focus
touched_lasts : (n : ℕ) (g : Going) → Lasts g.state (touched n g)
touched_lasts n g =
    let s : State = ready g.event g.state in
    let t : State = touch_run (control_at g.state n) s in
    lasts_on g.state s (rested t) (ready_lasts g.event g.state) (lasts_on s t (rested t) (by_control (control_at g.state n) s) (rested_lasts t))
  where
    by_control : (c : Option ControlHere) (s : State) → Lasts s (touch_run c s)
    by_control None s = lasts_same s
    by_control (Some c) s = record { templates = refl; serial = omega arith }

touch_lasts : (b : Bool) (n : ℕ) (g : Going) (os : List Told) (h : Going) → MayTouch b n g os h → Lasts g.state h.state
touch_lasts true n g os h (o, turn, e) = lasts_on g.state (touched n g) h.state (touched_lasts n g) (step_ends (touched n g) _ h.state turn.ends)
touch_lasts false n g os h (e, i) = subst (λ (k : Going). Lasts g.state k.state) (sym i) (lasts_same g.state)

node_lasts : (x : Happening) (n : ℕ) (g : Going) (os : List Told) (h : Going) → HandlesAt x n g os h → Lasts g.state h.state
node_lasts x n g os h (mid, first, rest, touch, more, e) =
    lasts_on g.state mid.state h.state (touch_lasts (has_touch x n g) n g first mid touch) (handlers_last x n (handlers_at g.state n x.type) mid rest h more)

unless_lasts : (b : Bool) (Goes : Going → List Told → Going → Type 0) (g : Going) (os : List Told) (h : Going) → (Goes g os h → Lasts g.state h.state) → Unless b Goes g os h → Lasts g.state h.state
unless_lasts true Goes g os h f (e, i) = subst (λ (k : Going). Lasts g.state k.state) (sym i) (lasts_same g.state)
unless_lasts false Goes g os h f goes = f goes

bubbles_last : (x : Happening) (ns : List ℕ) (g : Going) (os : List Told) (h : Going) → Bubbles x ns g os h → Lasts g.state h.state
bubbles_last x [] g os h (e, i) = subst (λ (k : Going). Lasts g.state k.state) (sym i) (lasts_same g.state)
bubbles_last x (n ∷ ns) g os h goes =
    unless_lasts (is_stopped g) _ g os h
    (λ (mid, first, rest, one, more, e). lasts_on g.state mid.state h.state (node_lasts x n g first mid one) (bubbles_last x ns mid rest h more)) goes

event_lasts : (x : Happening) (n : ℕ) (s : State) (os : List Told) (t : State) → Dispatches x n s os t → Lasts s t
event_lasts x n s os t (h, goes, e) = subst (Lasts s) (sym e) (bubbles_last x (way x.type n s) (before s) os h goes)

pub steps_last : OfEachStep Lasts
steps_last = (command_lasts, event_lasts)

-- ---- numbers that a linking gives

pub linked_anew : LinkedSitesGetNewNumbers
linked_anew = steps_new

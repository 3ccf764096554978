-- What the steps of a linking leave of the core and of sites.
use Rattle.std.proofs.Common.{◌≡◌, ◌∙◌, ◌≤◌, ◌<◌, ◌+◌, ◌-◌, ℕ, Bool, true, false, List, [], ◌∷◌, ◌++◌, length, length-append, drop, cond, Option, Some, None, Result, Ok, Err, refl, ap, sym, subst, arith, slice_get}
use Rattle.std.specs.Prelude.{nat_lt, pos}
use Rattle.ng_core.specs.Burying.{buried}
use Rattle.ng_core.specs.Keeping.{stores}
use Rattle.ng_core.specs.ScopeCalls.{listens, watches}
use Rattle.ng_core.specs.State as act
use Rattle.ng_core.specs.State.{Run, with_fault, with_objects, with_scopes, with_serial}
use Rattle.ng_core.proofs.Grows.{named-grows}
use Rattle.ng_base.specs.Objects.{Object}
use Rattle.ng_base.specs.Views.{ViewTree}
use Rattle.ng_base.specs.declared.fault.Fault.{Fault}
use Rattle.ng_base.specs.declared.fault.Fault.TheVariants.{StoreFull}
use Rattle.ng_base.specs.declared.heap.ObjKind.TheVariants.{Scope as a_scope}
use Rattle.ng_base.specs.declared.value.Value.{Value}
use Rattle.ng_base.specs.declared.value.Value.TheVariants.{Int, Text, Fun, Undefined}
use Rattle.ng_behaviour.specs.ScopeObjects.{id_name, parent_name, root_name, of_object_named, with_scope_object}
use Rattle.ng_behaviour.specs.Scopes.{Scope, path_at, object_at, live_at, with_child}
use Rattle.ng_drawing.specs.Nodes.{node_limit}
use Rattle.ng_drawing.specs.Template.{Piece, Site, Source, of_text, of_nothing, one_way, two_way, of_call, Fragment}
use Rattle.ng_drawing.specs.declared.origin.Origin.{Origin}
use Rattle.ng_language.specs.Objects.{new_object, set_name}
use Rattle.ng_language.specs.Trees.{Trees}
use Rattle.ng_steps.specs.Attending.{installs, installs_all, declares_all, registers_all, registered_on, functions_in, installed_on, first_attended, attended_by}
use Rattle.ng_changes.specs.ChildRun.{child_run}
use Rattle.ng_fire.specs.Blocks.{discarded}
use Rattle.ng_changes.specs.Changes.{changed}
use Rattle.ng_steps.specs.LinkBindings.{set_on, written_to, value_set, set_to_value, seen_over, text_set, set_to_text, shown_over, joined_with, set_to_call, bound_pieces}
use Rattle.ng_steps.specs.LinkingOf.{AreBelow}
use Rattle.ng_changes.specs.ScopeRuns.{object_limit, scope_run}
use Rattle.ng_steps.specs.Links.{Linking, begins_linking, started, registered, registered_many, opening_run, opened_by, handed_to, with_bounds, value_kept, texts_kept, value_bound_by, value_bound, text_bound_by, text_bound, source_bound, scope_of, outlet_scope, step_linked, unless_faulted, steps_linked, rested_on, rested_on_all, all_buried, given_up, first_of, ended_link, link_at}
use Rattle.ng_changes.specs.Runs.{followed, program_run}
use Rattle.ng_steps.proofs.Placed.{ground_below}
use Rattle.ng_steps.proofs.Underway.{IsUnderway, steps_underway, begun_underway}
use Rattle.ng_instances.specs.Bindings.{Bound, bound_text, bound_in, bound_both}
use Rattle.ng_instances.specs.Changing.{Place}
use Rattle.ng_link.specs.Calls.{with_core, left_at, placed_on}
use Rattle.ng_build.specs.Linking.{Opening, a_child, an_isolate, a_slot, LinkStep, makes, stops, opens, binds, installs as installs_step, starts, starts_at, registers, leaves, piece_steps, steps, steps_within, fault_in}
use Rattle.ng_instances.specs.Registering.{Ground, scope_in_ground, outside_in_ground}
use Rattle.ng_link.specs.State.{State, live_nodes}
use Rattle.ng_parts.specs.Directing.{Function, Watching, Hearing, Programs}
use Rattle.ng_write.specs.Making.{value_in}
use Rattle.ng_commands.proofs.EventsStay.{part, Less, less_refl, less_trans, Stays, less_of, stays_refl, stays_trans, fault_stays, number_stays, objects_stay, child_less, child_stays, buried_stay}
use Rattle.ng_commands.proofs.ProgramsStay.{bind_stay, stores_stay}
use Rattle.ng_commands.proofs.Sites.{SitesStay, sites_refl, sites_trans, sites_cond, core_sites, left_sites}
use Rattle.ng_commands.proofs.StepsStay.{changed_sites, followed_sites, program_stays}

-- ---- what is set on a scope

pub set_stays : (scope : ℕ) (name : List ℕ) (v : Value) (c : act.State) → Stays (part c) (part (set_on scope name v c))
set_stays scope name v c = objects_stay (part c) (length (set_on scope name v c).objects) (named-grows c.objects (object_at c.scopes scope) name v)

pub written_stays : (scope : ℕ) (name : List ℕ) (v : ViewTree) (c : act.State) → Stays (part c) (part (written_to scope name v c).0)
written_stays scope name v c = bind_stay (part c) (stores v c).0 (stores v c).1 (λ t d. (set_on scope name (value_in t) d, Ok tt)) (stores_stay v c) (λ t d. set_stays scope name (value_in t) d)

value_stays : (scope : ℕ) (name : List ℕ) (r : Result (ViewTree × ViewTree) Fault) (c : act.State) → Stays (part c) (part (value_set scope name r c).0)
value_stays scope name (Err e) c = stays_refl (part c)
value_stays scope name (Ok v) c = bind_stay (part c) (written_to scope name v.0 c).0 (written_to scope name v.0 c).1 (λ u d. (d, Ok v.1)) (written_stays scope name v.0 c) (λ u d. stays_refl (part d))

text_stays : (scope : ℕ) (name : List ℕ) (ps : List Piece) (r : Result (List (List ℕ)) Fault) (c : act.State) → Stays (part c) (part (text_set scope name ps r c).0)
text_stays scope name ps (Err e) c = stays_refl (part c)
text_stays scope name ps (Ok ts) c = set_stays scope name (Text (joined_with ps ts)) c

call_stays : (scope : ℕ) (name : List ℕ) (over : ℕ) (p : Trees) (c : act.State) → Stays (part c) (part (set_to_call scope name over p c))
call_stays scope name over p c = objects_stay (part c) (length (set_to_call scope name over p c).objects) (named-grows c.objects (object_at c.scopes scope) name (Fun (record { 0 = length c.funs })))

-- ---- the steps of a linking

handed_sites : (e : Fault) (g : Linking) → SitesStay g.state (handed_to e g).state
handed_sites e g = core_sites g.state (with_fault e g.state.core) (fault_stays e (part g.state.core))

value_kept_sites : (r : Result ViewTree Fault) (g : Linking) → SitesStay g.state (value_kept r g).state
value_kept_sites (Ok v) g = sites_refl g.state
value_kept_sites (Err e) g = handed_sites e g

texts_kept_sites : (r : Result (List (List ℕ)) Fault) (g : Linking) → SitesStay g.state (texts_kept r g).state
texts_kept_sites (Ok ts) g = sites_refl g.state
texts_kept_sites (Err e) g = handed_sites e g

registered_sites : (g : Linking) → SitesStay g.state (registered g).state
registered_sites g = core_sites g.state (with_serial g.state.core) (number_stays (part g.state.core))

many_sites : (xs : List LinkStep) (g : Linking) → SitesStay g.state (registered_many xs g).state
many_sites [] g = sites_refl g.state
many_sites (x ∷ xs) g = sites_trans g.state (registered g).state (registered_many xs (registered g)).state (registered_sites g) (many_sites xs (registered g))

pub by_value_sites : (both : Bool) (scope : ℕ) (name : List ℕ) (over : ℕ) (x : Option Site) (g : Linking) → SitesStay g.state (value_bound_by both scope name over x g).state
by_value_sites both scope name over None g = sites_refl g.state
by_value_sites both scope name over (Some x) g =
    let r : Run ViewTree = set_to_value both scope name over x.program g.state.core in
    let h : Linking = record g { state = with_core r.0 g.state } in
    sites_trans g.state h.state (value_kept r.1 h).state (core_sites g.state r.0 (value_stays scope name (seen_over both over x.program g.state.core) g.state.core)) (value_kept_sites r.1 h)

value_bound_sites : (both : Bool) (scope : ℕ) (name : List ℕ) (over : ℕ) (x : Option Site) (b : Bound) (g : Linking) → SitesStay g.state (value_bound both scope name over x b g).state
value_bound_sites both scope name over x b g =
    let h : Linking = with_bounds (g.state.core.serial ∷ []) b (registered g) in
    sites_trans g.state h.state (value_bound_by both scope name over x h).state (registered_sites g) (by_value_sites both scope name over x h)

pub text_by_sites : (count scope : ℕ) (name : List ℕ) (over : ℕ) (site : ℕ → Option Site) (ps : List Piece) (g : Linking) → SitesStay g.state (text_bound_by count scope name over site ps g).state
text_by_sites count scope name over site ps g =
    let ns : List ℕ = drop count g.made.serials in
    let h : Linking = with_bounds ns (bound_text scope name (bound_pieces ps ns)) g in
    let r : Run (List (List ℕ)) = set_to_text scope name over site ps g.state.core in
    let m : Linking = record h { state = with_core r.0 h.state } in
    sites_trans g.state m.state (texts_kept r.1 m).state (core_sites g.state r.0 (text_stays scope name ps (shown_over over site ps g.state.core) g.state.core)) (texts_kept_sites r.1 m)

text_bound_sites : (scope : ℕ) (name : List ℕ) (over : ℕ) (site : ℕ → Option Site) (ps : List Piece) (g : Linking) → SitesStay g.state (text_bound scope name over site ps g).state
text_bound_sites scope name over site ps g =
    let k : Linking = registered_many (piece_steps ps) g in
    sites_trans g.state k.state (text_bound_by (length g.made.serials) scope name over site ps k).state (many_sites (piece_steps ps) g) (text_by_sites (length g.made.serials) scope name over site ps k)

source_sites : (site : ℕ → Option Site) (scope : ℕ) (name : List ℕ) (over : ℕ) (x : Source) (g : Linking) → SitesStay g.state (source_bound site scope name over x g).state
source_sites site scope name over (of_text ps) g = text_bound_sites scope name over site ps g
source_sites site scope name over of_nothing g = core_sites g.state (set_on scope name Undefined g.state.core) (set_stays scope name Undefined g.state.core)
source_sites site scope name over (one_way n) g = value_bound_sites false scope name over (site n) (bound_in scope name) g
source_sites site scope name over (two_way n w) g = value_bound_sites true scope name over (site n) (bound_both scope name over w) g
source_sites site scope name over (of_call p) g = core_sites g.state (set_to_call scope name over p g.state.core) (call_stays scope name over p g.state.core)

-- what directives do
installs_stay : (scope : ℕ) (fs : List Function) (c : act.State) → Stays (part c) (part (installs_all scope fs c))
installs_stay scope [] c = stays_refl (part c)
installs_stay scope (f ∷ fs) c =
    let d : act.State = installs scope f c in
    stays_trans (part c) (part d) (part (installs_all scope fs d)) (objects_stay (part c) (length d.objects) (named-grows c.objects (object_at c.scopes scope) f.name (Fun (record { 0 = length c.funs })))) (installs_stay scope fs d)

declares_stay : (scope : ℕ) (ws : List Watching) (c : act.State) → Stays (part c) (part (declares_all scope ws c))
declares_stay scope [] c = stays_refl (part c)
declares_stay scope (w ∷ ws) c =
    let d : act.State = (watches scope w.kind w.watched w.body c).0 in
    stays_trans (part c) (part d) (part (declares_all scope ws d)) (number_stays (part c)) (declares_stay scope ws d)

listens_stay : (scope : ℕ) (ls : List Hearing) (c : act.State) → Stays (part c) (part (registers_all scope ls c))
listens_stay scope [] c = stays_refl (part c)
listens_stay scope (l ∷ ls) c =
    let d : act.State = (listens scope l.name l.body c).0 in
    stays_trans (part c) (part d) (part (registers_all scope ls d)) (stays_refl (part c)) (listens_stay scope ls d)

either_stays : (b : Bool) (c d : act.State) → Stays (part c) (part d) → Stays (part c) (part (cond b d c))
either_stays true c d h = h
either_stays false c d h = stays_refl (part c)

attended_stays : (scope : ℕ) (ws : List Watching) (ls : List Hearing) (c : act.State) → Stays (part c) (part (registered_on scope ws ls c))
attended_stays scope ws ls c =
    let d : act.State = declares_all scope ws c in
    either_stays (live_at c.scopes scope) c (registers_all scope ls d) (stays_trans (part c) (part d) (part (registers_all scope ls d)) (declares_stay scope ws c) (listens_stay scope ls d))

attended_sites : (scope : ℕ) (o : Option Programs) (s : State) → SitesStay s (attended_by scope o s).0
attended_sites scope None s = sites_refl s
attended_sites scope (Some p) s =
    let t : State = first_attended scope p s in
    let u : State = changed t in
    sites_trans s t (followed (program_run scope p.link u.core) u) (core_sites s t.core (attended_stays scope p.watches p.listeners s.core))
    (sites_trans t u (followed (program_run scope p.link u.core) u) (changed_sites t) (followed_sites (program_run scope p.link u.core) u (program_stays scope p.link u.core)))

started_sites : (scope : ℕ) (p : Trees) (g : Linking) → SitesStay g.state (started scope p g).state
started_sites scope p g = followed_sites (program_run scope p g.state.core) g.state (program_stays scope p g.state.core)

installed_sites : (directive scope : ℕ) (s : State) → SitesStay s (installed_on directive scope s)
installed_sites directive scope s = let fs : List Function = functions_in (slice_get s.directives directive) in core_sites s (installs_all scope fs s.core) (installs_stay scope fs s.core)

-- ---- a scope is made

object_grows : (objects : List Object) (scopes : List Scope) (proto : Option ℕ) (c : ℕ) → length objects ≤ length (with_scope_object objects scopes proto c)
object_grows objects scopes proto c =
    let made : List Object = objects ++ new_object a_scope proto ∷ [] in
    let one : List Object = set_name made (length objects) id_name (Int (pos (length scopes + 1))) in
    let two : List Object = set_name one (length objects) parent_name (of_object_named (object_at scopes c)) in
    let a : length made ≤ length one = named-grows made (length objects) id_name (Int (pos (length scopes + 1))) in
    let b : length one ≤ length two = named-grows one (length objects) parent_name (of_object_named (object_at scopes c)) in
    let d : length two ≤ length (with_scope_object objects scopes proto c) = named-grows two (length objects) root_name (of_object_named (object_at scopes 0)) in
    omega (arith, a, b, d, length-append objects (new_object a_scope proto ∷ []))

abbrev pub with_scope_made : ℕ → Option ℕ → act.State → act.State
with_scope_made parent proto c = with_scopes (with_child c.scopes parent (length c.objects)) (with_objects (with_scope_object c.objects c.scopes proto parent) c)

scope_objects : (parent : ℕ) (proto : Option ℕ) (c : act.State) → Stays (part c) (part (with_objects (with_scope_object c.objects c.scopes proto parent) c))
scope_objects parent proto c = objects_stay (part c) (length (with_scope_object c.objects c.scopes proto parent)) (object_grows c.objects c.scopes proto parent)

pub scope_made_less : (parent : ℕ) (proto : Option ℕ) (c : act.State) → Less (part c) (part (with_scope_made parent proto c))
scope_made_less parent proto c =
    let d : act.State = with_objects (with_scope_object c.objects c.scopes proto parent) c in
    less_trans (part c) (part d) (part (with_scope_made parent proto c)) (less_of (part c) (part d) (scope_objects parent proto c)) (child_less (part d) parent (length c.objects))

pub scope_made : (parent : ℕ) (proto : Option ℕ) (c : act.State) → parent < length c.scopes → Stays (part c) (part (with_scope_made parent proto c))
scope_made parent proto c there =
    let d : act.State = with_objects (with_scope_object c.objects c.scopes proto parent) c in
    stays_trans (part c) (part d) (part (with_scope_made parent proto c)) (scope_objects parent proto c) (child_stays (part d) parent (length c.objects) there)

-- what holds of the core where a scope is made, and where it is not
by_scope : (P : act.State → Type 0) (parent : ℕ) (proto : Option ℕ) (c : act.State) → P c → P (with_scope_made parent proto c) → P (scope_run parent proto c).0
by_scope P parent proto c none one = by_room (nat_lt (length c.objects) object_limit)
  where
    made : Run ℕ
    made = (with_scope_made parent proto c, Ok (length c.scopes))

    full : Run ℕ
    full = (c, Err StoreFull)

    by_room : (b : Bool) → (let r : Run ℕ = cond b made full in P r.0)
    by_room true = one
    by_room false = none

opened_state : (r : Run ℕ) (g : Linking) → (opened_by r g).state ≡ with_core r.0 g.state
opened_state (c, Ok n) g = refl
opened_state (c, Err e) g = refl

scope_run_less : (parent : ℕ) (proto : Option ℕ) (c : act.State) → Less (part c) (part (scope_run parent proto c).0)
scope_run_less parent proto c = by_scope (λ d. Less (part c) (part d)) parent proto c (less_refl (part c)) (scope_made_less parent proto c)

scope_run_stays : (parent : ℕ) (proto : Option ℕ) (c : act.State) → parent < length c.scopes → Stays (part c) (part (scope_run parent proto c).0)
scope_run_stays parent proto c there = by_scope (λ d. Stays (part c) (part d)) parent proto c (stays_refl (part c)) (scope_made parent proto c there)

opening_less : (g : Ground) (o : Opening) (c : act.State) → Less (part c) (part (opening_run g o c).0)
opening_less g (a_child n) c = scope_run_less (scope_in_ground g n) (Some (object_at c.scopes (scope_in_ground g n))) c
opening_less g (an_isolate n) c = scope_run_less (scope_in_ground g n) None c
opening_less g (a_slot n o) c = scope_run_less (scope_in_ground g n) (Some (object_at c.scopes (outside_in_ground g o))) c

opening_stays : (g : Ground) (o : Opening) (c : act.State) → ((n : ℕ) → scope_in_ground g n < length c.scopes) → Stays (part c) (part (opening_run g o c).0)
opening_stays g (a_child n) c there = scope_run_stays (scope_in_ground g n) (Some (object_at c.scopes (scope_in_ground g n))) c (there n)
opening_stays g (an_isolate n) c there = scope_run_stays (scope_in_ground g n) None c (there n)
opening_stays g (a_slot n o) c there = scope_run_stays (scope_in_ground g n) (Some (object_at c.scopes (outside_in_ground g o))) c (there n)

-- ---- all steps: the core of any linking; and the sites, where it is one on a scope that is there

pub step_less : (f : Fragment) (x : LinkStep) (g : Linking) → Less (part g.state.core) (part (step_linked f x g).state.core)
step_less f makes g = less_refl (part g.state.core)
step_less f stops g = less_refl (part g.state.core)
step_less f (opens o) g =
    let r : Run ℕ = opening_run g.made.at_hand o g.state.core in
    subst (λ (s : State). Less (part g.state.core) (part s.core)) (sym (opened_state r g)) (opening_less g.made.at_hand o g.state.core)
step_less f (binds b i o) g = less_of (part g.state.core) _ (source_sites (slice_get f.sites) (scope_of g i) b.name (scope_of g o) b.source g).core
step_less f (installs_step d s) g = less_of (part g.state.core) _ (installed_sites d (scope_of g s) g.state).core
step_less f (starts s p) g = less_of (part g.state.core) _ (started_sites (scope_of g s) p g).core
step_less f (starts_at o p) g = less_of (part g.state.core) _ (started_sites (scope_of g (outlet_scope f o)) p g).core
step_less f registers g = less_of (part g.state.core) _ (registered_sites g).core
step_less f (leaves d s) g = less_of (part g.state.core) _ (attended_sites (scope_of g s) (slice_get g.state.directives d) g.state).core

pub steps_less : (f : Fragment) (xs : List LinkStep) (g : Linking) → Less (part g.state.core) (part (steps_linked f xs g).state.core)
steps_less f [] g = less_refl (part g.state.core)
steps_less f (x ∷ xs) g = by_fault g.fault (steps_less f xs (step_linked f x g))
  where
    more : Linking
    more = steps_linked f xs (step_linked f x g)

    by_fault : (o : Option Fault) → Less (part (step_linked f x g).state.core) (part more.state.core) → Less (part g.state.core) (part (unless_faulted o more g).state.core)
    by_fault None on = less_trans (part g.state.core) (part (step_linked f x g).state.core) (part more.state.core) (step_less f x g) on
    by_fault (Some e) on = less_refl (part g.state.core)

step_sites : (f : Fragment) (x : LinkStep) (g : Linking) → ((n : ℕ) → scope_of g n < length g.state.core.scopes) → SitesStay g.state (step_linked f x g).state
step_sites f makes g there = sites_refl g.state
step_sites f stops g there = sites_refl g.state
step_sites f (opens o) g there =
    let r : Run ℕ = opening_run g.made.at_hand o g.state.core in
    subst (SitesStay g.state) (sym (opened_state r g)) (core_sites g.state r.0 (opening_stays g.made.at_hand o g.state.core there))
step_sites f (binds b i o) g there = source_sites (slice_get f.sites) (scope_of g i) b.name (scope_of g o) b.source g
step_sites f (installs_step d s) g there = installed_sites d (scope_of g s) g.state
step_sites f (starts s p) g there = started_sites (scope_of g s) p g
step_sites f (starts_at o p) g there = started_sites (scope_of g (outlet_scope f o)) p g
step_sites f registers g there = registered_sites g
step_sites f (leaves d s) g there = attended_sites (scope_of g s) (slice_get g.state.directives d) g.state

module _ (base : State) (scope : ℕ) (outsides : List ℕ) where
  -- the scopes of what is under way are there
  firm : (g : Linking) → IsUnderway base scope outsides g.state g.made → (n : ℕ) → scope_of g n < length g.state.core.scopes
  firm g u n = ground_below (length g.state.core.scopes) g.made.at_hand n u.root u.scopes

  -- so it is after one step more
  after : (f : Fragment) (x : LinkStep) (g : Linking) → IsUnderway base scope outsides g.state g.made → g.fault ≡ None → IsUnderway base scope outsides (step_linked f x g).state (step_linked f x g).made
  after f x g u e =
      let one : steps_linked f (x ∷ []) g ≡ step_linked f x g = ap (λ (o : Option Fault). unless_faulted o (step_linked f x g) g) e in
      subst (λ (h : Linking). IsUnderway base scope outsides h.state h.made) one (steps_underway base scope outsides f (x ∷ []) g u)

  steps_on : (f : Fragment) (xs : List LinkStep) (g : Linking) → IsUnderway base scope outsides g.state g.made → SitesStay g.state (steps_linked f xs g).state
  steps_on f [] g u = sites_refl g.state
  steps_on f (x ∷ xs) g u = by_fault g.fault refl (λ e. steps_on f xs (step_linked f x g) (after f x g u e))
    where
      more : Linking
      more = steps_linked f xs (step_linked f x g)

      by_fault : (o : Option Fault) → g.fault ≡ o → (g.fault ≡ None → SitesStay (step_linked f x g).state more.state) → SitesStay g.state (unless_faulted o more g).state
      by_fault None e on = sites_trans g.state (step_linked f x g).state more.state (step_sites f x g (firm g u)) (on e)
      by_fault (Some e) is on = sites_refl g.state

-- no step changes a template or what is linked, whatever the scope
abbrev StillThere : State → State → Type 0
StillThere s t = (t.templates ≡ s.templates) × (t.instances ≡ s.instances)

still : (s t : State) → SitesStay s t → StillThere s t
still s t h = (h.templates, h.instances)

step_still : (f : Fragment) (x : LinkStep) (g : Linking) → StillThere g.state (step_linked f x g).state
step_still f makes g = (refl, refl)
step_still f stops g = (refl, refl)
step_still f (opens o) g =
    let is = opened_state (opening_run g.made.at_hand o g.state.core) g in
    (ap (λ (s : State). s.templates) is, ap (λ (s : State). s.instances) is)
step_still f (binds b i o) g = still g.state _ (source_sites (slice_get f.sites) (scope_of g i) b.name (scope_of g o) b.source g)
step_still f (installs_step d s) g = still g.state _ (installed_sites d (scope_of g s) g.state)
step_still f (starts s p) g = still g.state _ (started_sites (scope_of g s) p g)
step_still f (starts_at o p) g = still g.state _ (started_sites (scope_of g (outlet_scope f o)) p g)
step_still f registers g = (refl, refl)
step_still f (leaves d s) g = still g.state _ (attended_sites (scope_of g s) (slice_get g.state.directives d) g.state)

steps_still : (f : Fragment) (xs : List LinkStep) (g : Linking) → StillThere g.state (steps_linked f xs g).state
steps_still f [] g = (refl, refl)
steps_still f (x ∷ xs) g = by_fault g.fault (steps_still f xs (step_linked f x g))
  where
    more : Linking
    more = steps_linked f xs (step_linked f x g)

    by_fault : (o : Option Fault) → StillThere (step_linked f x g).state more.state → StillThere g.state (unless_faulted o more g).state
    by_fault None on = let one = step_still f x g in (on.0 ∙ one.0, on.1 ∙ one.1)
    by_fault (Some e) on = (refl, refl)

pub steps_templates : (f : Fragment) (xs : List LinkStep) (g : Linking) → (steps_linked f xs g).state.templates ≡ g.state.templates
steps_templates f xs g = (steps_still f xs g).0

pub steps_instances : (f : Fragment) (xs : List LinkStep) (g : Linking) → (steps_linked f xs g).state.instances ≡ g.state.instances
steps_instances f xs g = (steps_still f xs g).1

-- a linking that begins on a scope that is there
pub steps_sites : (f : Fragment) (scope : ℕ) (outsides : List ℕ) (xs : List LinkStep) (s : State) → scope < length s.core.scopes → AreBelow (length s.core.scopes) outsides
    → SitesStay s (steps_linked f xs (begins_linking scope outsides s)).state
steps_sites f scope outsides xs s there outs = steps_on s scope outsides f xs (begins_linking scope outsides s) (begun_underway s scope outsides (omega (arith, there)) there outs)

pub rested_sites : (scope : ℕ) (s : State) → SitesStay s (rested_on scope s)
rested_sites scope s = sites_cond (live_at s.core.scopes scope) s (left_at (path_at s.core.scopes scope) s) (left_sites (path_at s.core.scopes scope) s)

pub all_rested_sites : (ns : List ℕ) (s : State) → SitesStay s (rested_on_all ns s)
all_rested_sites [] s = sites_refl s
all_rested_sites (n ∷ ns) s = sites_trans s (rested_on n s) (rested_on_all ns (rested_on n s)) (rested_sites n s) (all_rested_sites ns (rested_on n s))

all_buried_stay : (ns : List ℕ) (c : act.State) → Stays (part c) (part (all_buried ns c))
all_buried_stay [] c = stays_refl (part c)
all_buried_stay (n ∷ ns) c = stays_trans (part c) (part (buried n c)) (part (all_buried ns (buried n c))) (buried_stay n c) (all_buried_stay ns (buried n c))

-- what was made in vain
pub given_up_sites : (e : Fault) (g : Linking) → SitesStay g.state (given_up e g).state
given_up_sites e g =
    let c : act.State = all_buried (drop 1 g.made.at_hand.scopes) g.state.core in
    sites_trans g.state (with_core c g.state) (changed (with_core c g.state)) (core_sites g.state c (all_buried_stay (drop 1 g.made.at_hand.scopes) g.state.core)) (changed_sites (with_core c g.state))

ended_less : (place : Place) (which : Origin) (scope : ℕ) (f : Fragment) (o : Option Fault) (g : Linking) → Less (part g.state.core) (part (ended_link place which scope f o g).state.core)
ended_less place which scope f None g =
    let p : State = placed_on place which scope f g.made g.state in
    less_of (part p.core) (part (rested_on_all g.made.at_hand.scopes p).core) (all_rested_sites g.made.at_hand.scopes p).core
ended_less place which scope f (Some e) g = less_of (part g.state.core) (part (given_up e g).state.core) (given_up_sites e g).core

pub link_less : (place : Place) (which : Origin) (scope : ℕ) (outsides : List ℕ) (f : Fragment) (s : State) → Less (part s.core) (part (link_at place which scope outsides f s).state.core)
link_less place which scope outsides f s =
    let g : Linking = steps_linked f (steps_within (node_limit - live_nodes s) (steps f.parts)) (begins_linking scope outsides s) in
    less_trans (part s.core) (part g.state.core) _ (steps_less f (steps_within (node_limit - live_nodes s) (steps f.parts)) (begins_linking scope outsides s))
    (ended_less place which scope f (first_of g.fault (fault_in (node_limit - live_nodes s) (steps f.parts))) g)

-- ---- a child of a scope

pub child_run_less : (scope : ℕ) (c : act.State) → Less (part c) (part (child_run scope c).0)
child_run_less scope c = scope_run_less scope (Some (object_at c.scopes scope)) c

-- ---- a scope that was made in vain

pub discarded_sites : (scope : ℕ) (s : State) → SitesStay s (discarded scope s)
discarded_sites scope s =
    let t : State = with_core (buried scope s.core) s in
    sites_trans s t (changed t) (core_sites s (buried scope s.core) (buried_stay scope s.core)) (changed_sites t)

-- The watchers stand in key order, whatever programs and a linking leave for them.
use Rattle.std.proofs.Common.{◌-◌, Bool, true, false, List, [], ◌∷◌, ◌≡◌, ap, cond, drop, length, refl, subst, sym}
use Rattle.std.specs.BTreeMap.{insert_entry}
use Rattle.std.specs.List.Sorted.{IsStrictlySortedBy}
use Rattle.std.specs.Map.{keys_of, remove_entry}
use Rattle.std.specs.Prelude.{ℕ, not, Option, None, Some, Result, Ok, Err, slice_get}
use Rattle.ng_core.specs.State.{Run, Change, adds, removes, handed}
use Rattle.ng_base.specs.declared.fault.Fault.{Fault}
use Rattle.ng_base.specs.declared.fault.Fault.TheVariants.{Depth}
use Rattle.ng_base.specs.declared.path.Key.{Key}
use Rattle.ng_base.specs.declared.value.Value.{Value}
use Rattle.ng_behaviour.specs.Scopes.{path_at, object_at, live_at}
use Rattle.ng_bind.specs.declared.flow.Flow.{Flow}
use Rattle.ng_bind.specs.declared.flow.Flow.TheVariants.{Still, ToDest, ToParent}
use Rattle.ng_drawing.specs.Nodes.{node_limit}
use Rattle.ng_base.specs.Views.{ViewTree}
use Rattle.ng_core.specs.Burying.{buried}
use Rattle.ng_core.specs.State as act
use Rattle.ng_drawing.specs.Cases.{Case}
use Rattle.ng_drawing.specs.Origins.{is_too_deep}
use Rattle.ng_drawing.specs.Template.{Fragment, Site, Source, of_text, of_nothing, one_way, two_way, of_call}
use Rattle.ng_drawing.specs.declared.origin.Origin.{Origin}
use Rattle.ng_language.specs.Trees.{Trees}
use Rattle.ng_parts.specs.Directing.{Programs}
use Rattle.ng_drawing.specs.Named.{fragments_in}
use Rattle.ng_link.proofs.Sorted.{insert_sorted, filter_sorted, remove_sorted}
use Rattle.ng_steps.specs.Attending.{attended_by, first_attended}
use Rattle.ng_fire.specs.Bindings.{bound_fired, fired_with, flow_by, flows, unless_fault, write_run, written_back}
use Rattle.ng_changes.specs.Changes.{applied, applied_all, changed, without_changes}
use Rattle.ng_steps.specs.LinkBindings.{bound_pieces, set_to_text, set_to_value, written_to}
use Rattle.ng_steps.specs.Links.{Linking, all_buried, begins_linking, ended_link, first_of, link_at, opened_by, opened_with, opening_run, outlet_scope, registered, registered_many, rested_on, rested_on_all, scope_of, source_bound, step_linked, steps_linked, texts_kept, unless_faulted, value_bound_by, value_kept, with_bounds}
use Rattle.ng_changes.specs.ChildRun.{child_run}
use Rattle.ng_rows.specs.Chosen.{told_on, goes, cases_due}
use Rattle.ng_fire.specs.Blocks.{Firing, begins_firing, gone, ended, all_gone, linked_then, body_linked, body_made, filled, outlet_emptied, outlets_emptied}
use Rattle.ng_fire.specs.SiteFires.{outlets_filled, bound_site_fired, outlets_fired, site_fired, site_fired_by}
use Rattle.ng_fire.proofs.RepeatWalks.{outlets_keep}
use Rattle.ng_changes.specs.Runs.{program_run, followed, destroy_run}
use Rattle.ng_instances.specs.Bindings.{Bound, bound_both, bound_in, bound_text}
use Rattle.ng_instances.specs.Changing.{Place}
use Rattle.ng_link.specs.Calls.{with_core, declared_at, undeclared_at, left_at, placed_on, unlinked_at}
use Rattle.ng_instances.specs.Due.{Due, all_due}
use Rattle.ng_link.specs.Events.{scope_in}
use Rattle.ng_instances.specs.Instances.{Body, bound_for, instance_path, is_site, linked_at, linked_for}
use Rattle.ng_build.specs.Linking.{LinkStep, makes, stops, opens, binds, installs, starts, starts_at, registers, leaves, fault_in, piece_steps, steps, steps_within}
use Rattle.ng_instances.specs.Registering.{Registered, site_rows}
use Rattle.ng_instances.specs.Rows.{Row, watching_site, with_first, with_row, with_sites}
use Rattle.ng_link.specs.State.{State, Listening, live_nodes}
use Rattle.ng_members.specs.Leaves.{Local}
use Rattle.ng_behaviour.specs.Keys.{key_cmp, key_cmp_total, is_key, begins}
use Rattle.ng_watch.specs.Seen.{Watching, Watcher}
use Rattle.ng_watch.specs.Table.{Table, keeping, with_kept, with_watch, without_watch}
use Rattle.ng_watch.specs.Verdicts.{own_value}

abbrev pub InKeys : Table → Type 0
InKeys t = IsStrictlySortedBy key_cmp (keys_of t)

abbrev pub IsOrdered : State → Type 0
IsOrdered s = InKeys s.watchers

-- what is kept has no part in the order
keeping_keys : (k : Key) (v : Option ViewTree) (t : Table) → keys_of (with_kept k v t) ≡ keys_of t
keeping_keys k v [] = refl
keeping_keys k v (e ∷ t) = by (is_key k e.0) (keeping_keys k v t)
  where
    by : (b : Bool) → keys_of (with_kept k v t) ≡ keys_of t → keys_of (cond b ((e.0, keeping v e.1) ∷ t) (e ∷ with_kept k v t)) ≡ e.0 ∷ keys_of t
    by true more = refl
    by false more = ap (λ (ks : List Key). e.0 ∷ ks) more

pub either : (b : Bool) (s t : State) → IsOrdered s → IsOrdered t → IsOrdered (cond b s t)
either true s t h k = h
either false s t h k = k

-- ---- the calls on the works

declared_ordered : (k : Key) (w : Watching) (l : Listening) (s : State) → IsOrdered s → IsOrdered (declared_at k w l s)
declared_ordered k w l s h =
    either (is_site s.inner s.instances k) s (record s { watchers = with_watch k w s.watchers; declared = insert_entry key_cmp s.declared k l }) h
    (insert_sorted key_cmp key_cmp_total k (record { watch = w; kept = None }) s.watchers h)

undeclared_ordered : (k : Key) (s : State) → IsOrdered s → IsOrdered (undeclared_at k s)
undeclared_ordered k s h =
    either (is_site s.inner s.instances k) s (record s { watchers = without_watch k s.watchers; declared = remove_entry (is_key k) s.declared }) h
    (remove_sorted key_cmp key_cmp_total (is_key k) s.watchers h)

pub left_ordered : (p : List ℕ) (s : State) → IsOrdered s → IsOrdered (left_at p s)
left_ordered p s h = filter_sorted key_cmp key_cmp_total (λ (e : Key × Watcher). not (begins p e.0.path)) s.watchers h

first_ordered : (k : Key) (v : Option ViewTree) (t : Table) → InKeys t → InKeys (with_first k v t)
first_ordered k None t h = h
first_ordered k (Some v) t h = subst (λ (ks : List Key). IsStrictlySortedBy key_cmp ks) (sym (keeping_keys k (Some v) t)) h

sites_ordered : (rs : List Row) (xs : List Site) (t : Table) → InKeys t → InKeys (with_sites rs xs t)
sites_ordered [] xs t h = h
sites_ordered (r ∷ rs) [] t h = h
sites_ordered (r ∷ rs) (x ∷ xs) t h =
    let w : Watching = watching_site r.object r.way x in
    sites_ordered rs xs (with_row r x t) (first_ordered r.key r.kept (with_watch r.key w t) (insert_sorted key_cmp key_cmp_total r.key (record { watch = w; kept = None }) t h))

pub placed_ordered : (place : Place) (which : Origin) (scope : ℕ) (f : Fragment) (r : Registered) (s : State) → IsOrdered s → IsOrdered (placed_on place which scope f r s)
placed_ordered place which scope f r s h = sites_ordered (site_rows s.core.scopes f r) f.sites s.watchers h

-- ---- what programs leave

applied_ordered : (c : Change) (s : State) → IsOrdered s → IsOrdered (applied c s)
applied_ordered (adds w) s h = declared_ordered _ _ _ s h
applied_ordered (removes scope serial) s h = undeclared_ordered _ s h
applied_ordered (act.leaves scope) s h = left_ordered _ s h

all_ordered : (cs : List Change) (s : State) → IsOrdered s → IsOrdered (applied_all cs s)
all_ordered [] s h = h
all_ordered (c ∷ cs) s h = all_ordered cs (applied c s) (applied_ordered c s h)

pub changed_ordered : (s : State) → IsOrdered s → IsOrdered (changed s)
changed_ordered s h = all_ordered s.core.changes (without_changes s) h

pub followed_ordered : {A : Type 0} (r : Run A) (s : State) → IsOrdered s → IsOrdered (followed r s)
followed_ordered r s h = changed_ordered (with_core (handed r) s) h

-- ---- a linking

opened_ordered : (r : Run ℕ) (g : Linking) → IsOrdered g.state → IsOrdered (opened_by r g).state
opened_ordered r g h = by r.1
  where
    by : (o : Result ℕ Fault) → IsOrdered (opened_with o (record g { state = with_core r.0 g.state })).state
    by (Ok n) = h
    by (Err e) = h

kept_ordered : (r : Result ViewTree Fault) (g : Linking) → IsOrdered g.state → IsOrdered (value_kept r g).state
kept_ordered (Ok v) g h = h
kept_ordered (Err e) g h = h

texts_ordered : (r : Result (List (List ℕ)) Fault) (g : Linking) → IsOrdered g.state → IsOrdered (texts_kept r g).state
texts_ordered (Ok ts) g h = h
texts_ordered (Err e) g h = h

many_ordered : (xs : List LinkStep) (g : Linking) → IsOrdered g.state → IsOrdered (registered_many xs g).state
many_ordered [] g h = h
many_ordered (x ∷ xs) g h = many_ordered xs (registered g) h

value_ordered : (both : Bool) (to : ℕ) (name : List ℕ) (over : ℕ) (x : Option Site) (g : Linking) → IsOrdered g.state → IsOrdered (value_bound_by both to name over x g).state
value_ordered both to name over None g h = h
value_ordered both to name over (Some x) g h =
    let r : Run ViewTree = set_to_value both to name over x.program g.state.core in
    kept_ordered r.1 (record g { state = with_core r.0 g.state }) h

source_ordered : (site : ℕ → Option Site) (to : ℕ) (name : List ℕ) (over : ℕ) (x : Source) (g : Linking) → IsOrdered g.state → IsOrdered (source_bound site to name over x g).state
source_ordered site to name over (of_text ps) g h =
    let k : Linking = registered_many (piece_steps ps) g in
    let ns : List ℕ = drop (length g.made.serials) k.made.serials in
    let m : Linking = with_bounds ns (bound_text to name (bound_pieces ps ns)) k in
    let r : Run (List (List ℕ)) = set_to_text to name over site ps k.state.core in
    texts_ordered r.1 (record m { state = with_core r.0 m.state }) (many_ordered (piece_steps ps) g h)
source_ordered site to name over of_nothing g h = h
source_ordered site to name over (one_way n) g h = value_ordered false to name over (site n) (with_bounds (g.state.core.serial ∷ []) (bound_in to name) (registered g)) h
source_ordered site to name over (two_way n w) g h = value_ordered true to name over (site n) (with_bounds (g.state.core.serial ∷ []) (bound_both to name over w) (registered g)) h
source_ordered site to name over (of_call p) g h = h

attended_ordered : (to : ℕ) (o : Option Programs) (s : State) → IsOrdered s → IsOrdered (attended_by to o s).0
attended_ordered to None s h = h
attended_ordered to (Some p) s h =
    let v : State = changed (first_attended to p s) in
    followed_ordered (program_run to p.link v.core) v (changed_ordered (first_attended to p s) h)

step_ordered : (f : Fragment) (x : LinkStep) (g : Linking) → IsOrdered g.state → IsOrdered (step_linked f x g).state
step_ordered f makes g h = h
step_ordered f stops g h = h
step_ordered f (opens o) g h = opened_ordered (opening_run g.made.at_hand o g.state.core) g h
step_ordered f (binds b i o) g h = source_ordered (slice_get f.sites) (scope_of g i) b.name (scope_of g o) b.source g h
step_ordered f (installs d n) g h = h
step_ordered f (starts n p) g h = followed_ordered (program_run (scope_of g n) p g.state.core) g.state h
step_ordered f (starts_at o p) g h = followed_ordered (program_run (scope_of g (outlet_scope f o)) p g.state.core) g.state h
step_ordered f registers g h = h
step_ordered f (leaves d n) g h = attended_ordered (scope_of g n) (slice_get g.state.directives d) g.state h

pub steps_ordered : (f : Fragment) (xs : List LinkStep) (g : Linking) → IsOrdered g.state → IsOrdered (steps_linked f xs g).state
steps_ordered f [] g h = h
steps_ordered f (x ∷ xs) g h = by g.fault (steps_ordered f xs (step_linked f x g) (step_ordered f x g h))
  where
    by : (o : Option Fault) → IsOrdered (steps_linked f xs (step_linked f x g)).state → IsOrdered (unless_faulted o (steps_linked f xs (step_linked f x g)) g).state
    by None rest = rest
    by (Some e) rest = h

rested_ordered : (ns : List ℕ) (s : State) → IsOrdered s → IsOrdered (rested_on_all ns s)
rested_ordered [] s h = h
rested_ordered (n ∷ ns) s h = rested_ordered ns (rested_on n s) (either (live_at s.core.scopes n) s (left_at (path_at s.core.scopes n) s) h (left_ordered (path_at s.core.scopes n) s h))

ended_link_ordered : (place : Place) (which : Origin) (scope : ℕ) (f : Fragment) (e : Option Fault) (g : Linking) → IsOrdered g.state → IsOrdered (ended_link place which scope f e g).state
ended_link_ordered place which scope f None g h = rested_ordered g.made.at_hand.scopes (placed_on place which scope f g.made g.state) (placed_ordered place which scope f g.made g.state h)
ended_link_ordered place which scope f (Some e) g h = changed_ordered (with_core (all_buried (drop 1 g.made.at_hand.scopes) g.state.core) g.state) h

pub link_ordered : (place : Place) (which : Origin) (scope : ℕ) (outs : List ℕ) (f : Fragment) (s : State) → IsOrdered s → IsOrdered (link_at place which scope outs f s).state
link_ordered place which scope outs f s h =
    let room : ℕ = node_limit - live_nodes s in
    let g : Linking = steps_linked f (steps_within room (steps f.parts)) (begins_linking scope outs s) in
    ended_link_ordered place which scope f (first_of g.fault (fault_in room (steps f.parts))) g (steps_ordered f (steps_within room (steps f.parts)) (begins_linking scope outs s) h)

-- ---- the fire of a block

pub unlinked_ordered : (holder p : List ℕ) (s : State) → IsOrdered s → IsOrdered (unlinked_at holder p s)
unlinked_ordered holder p s h = left_ordered p s h

ended_ordered : (p : List ℕ) (g : Firing) → IsOrdered g.state → IsOrdered (ended p g).state
ended_ordered p g h = followed_ordered (destroy_run (scope_in (linked_at p g.state.instances)) g.state.core) g.state h

gone_ordered : (holder : List ℕ) (b : Body) (g : Firing) → IsOrdered g.state → IsOrdered (gone holder b g).state
gone_ordered holder b g h = unlinked_ordered holder b.path (ended b.path g).state (ended_ordered b.path g h)

all_gone_ordered : (holder : List ℕ) (bs : List Body) (g : Firing) → IsOrdered g.state → IsOrdered (all_gone holder bs g).state
all_gone_ordered holder [] g h = h
all_gone_ordered holder (b ∷ bs) g h = all_gone_ordered holder bs (gone holder b g) (gone_ordered holder b g h)

then_ordered : (scope : ℕ) (e : Option Fault) (l : Linking) (g : Firing) → IsOrdered l.state → IsOrdered (linked_then scope e l g).state
then_ordered scope None l g h = h
then_ordered scope (Some e) l g h = changed_ordered (with_core (buried scope l.state.core) l.state) h

firing_either : (b : Bool) (g k : Firing) → IsOrdered g.state → IsOrdered k.state → IsOrdered (cond b g k).state
firing_either true g k h j = h
firing_either false g k h j = j

made_ordered : (place : Place) (outs : List ℕ) (names : List Local) (which : Origin) (f : Fragment) (c : act.State) (r : Result ℕ Fault) (g : Firing) → IsOrdered g.state → IsOrdered (body_made place outs names which f c r g).state
made_ordered place outs names which f c (Err e) g h = h
made_ordered place outs names which f c (Ok child) g h =
    let s : State = with_core (told_on child names c) g.state in
    let l : Linking = link_at place which child outs f s in
    firing_either (is_too_deep which) (linked_then child (Some Depth) (begins_linking child outs s) g) (body_linked place which f child outs s g) (then_ordered child (Some Depth) (begins_linking child outs s) g h)
    (then_ordered child l.fault l g (link_ordered place which child outs f s h))

filled_ordered : (place : Place) (scope : ℕ) (outs : List ℕ) (names : List Local) (which : Origin) (g : Firing) → IsOrdered g.state → IsOrdered (filled place scope outs names which g).state
filled_ordered place scope outs names which g h =
    let r = child_run scope g.state.core in
    made_ordered place outs names which (fragments_in g.state.templates which) r.0 r.1 g h

emptied_ordered : (holder : List ℕ) (v : ViewTree) (ds : List Due) (g : Firing) → IsOrdered g.state → IsOrdered (outlets_emptied holder v ds g).state
emptied_ordered holder v [] g h = h
emptied_ordered holder v (d ∷ ds) g h =
    emptied_ordered holder v ds (outlet_emptied holder v d g) (firing_either (goes d.filling v) (all_gone holder d.bodies g) g (all_gone_ordered holder d.bodies g h) h)

filled_all_ordered : (holder : List ℕ) (cases : List Case) (v : ViewTree) (ds : List Due) (g : Firing) → IsOrdered g.state → IsOrdered (outlets_filled holder cases v ds g).state
filled_all_ordered holder cases v ds g h =
    outlets_keep (λ k. IsOrdered k.state) (λ _ _ _ k. k) (λ _ _ k. k) (λ _ _ k. k) ended_ordered (λ holder p k. unlinked_ordered holder p k.state) (λ _ _ _ _ k. k) filled_ordered holder cases v ds g h

outlets_ordered : (holder : List ℕ) (v : ViewTree) (ds : List Due) (g : Firing) → IsOrdered g.state → IsOrdered (outlets_fired holder v ds g).state
outlets_ordered holder v ds g h = filled_all_ordered holder (cases_due ds) v ds (outlets_emptied holder v ds g) (emptied_ordered holder v ds g h)

-- a binding's fire writes values alone
with_ordered : {A : Type 0} (r : Run A) (g : Firing) → IsOrdered g.state → IsOrdered (fired_with r g).state
with_ordered {A} r g h = by r.1
  where
    by : (o : Result A Fault) → IsOrdered (unless_fault o (record g { state = with_core r.0 g.state })).state
    by (Ok v) = h
    by (Err e) = h

back_ordered : (scope : ℕ) (name : List ℕ) (v : ViewTree) (o : Result Value Fault) (g : Firing) → IsOrdered g.state → IsOrdered (written_back scope name v o g).state
back_ordered scope name v (Ok w) g h = h
back_ordered scope name v (Err e) g h = with_ordered (written_to scope name v g.state.core) g h

flows_ordered : (r : Result Flow Fault) (scope : ℕ) (name : List ℕ) (over : ℕ) (w : Option Trees) (v o : ViewTree) (g : Firing) → IsOrdered g.state → IsOrdered (flows r scope name over w v o g).state
flows_ordered (Ok Still) scope name over w v o g h = h
flows_ordered (Ok ToDest) scope name over w v o g h = with_ordered (written_to scope name v g.state.core) g h
flows_ordered (Ok ToParent) scope name over w v o g h =
    let r : Run Value = write_run over w o g.state.core in
    back_ordered scope name v r.1 (record g { state = with_core r.0 g.state }) h
flows_ordered (Err e) scope name over w v o g h = h

bound_ordered : (b : Bound) (path : List ℕ) (v : ViewTree) (former : Option ViewTree) (g : Firing) → IsOrdered g.state → IsOrdered (bound_fired b path v former g).state
bound_ordered (bound_text scope name ps) path v former g h = h
bound_ordered (bound_in scope name) path v former g h = with_ordered (written_to scope name v g.state.core) g h
bound_ordered (bound_both scope name over w) path v former g h =
    let o : ViewTree = own_value g.state.core.objects (object_at g.state.core.scopes scope) name in
    flows_ordered (flow_by g.state.core.objects v o former) scope name over w v o g h

pub site_ordered : (k : Key) (v : ViewTree) (value former : Option ViewTree) (s : State) → IsOrdered s → IsOrdered (site_fired k v value former s).state
site_ordered k v value former s h = by (bound_for s.inner s.instances k)
  where
    on : (b : Bound) (w : Option ViewTree) → IsOrdered (bound_site_fired w b k former s).state
    on b None = h
    on b (Some w) = bound_ordered b k.path w former (begins_firing s) h

    by : (o : Option Bound) → IsOrdered (site_fired_by o k v value former s).state
    by None = outlets_ordered (instance_path s.inner k.path) v (all_due k (linked_for s.inner k.path s.instances)) (begins_firing s) h
    by (Some b) = on b value

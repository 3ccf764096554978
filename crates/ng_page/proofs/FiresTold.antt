-- What a fire leaves of the core, and that the fault of a fire was handed over.
use Rattle.std.proofs.Common.{◌≡◌, ◌⊎◌, inl, inr, ℕ, Bool, true, false, List, [], ◌∷◌, cond, Option, Some, None, Result, Ok, Err, refl}
use Rattle.std.specs.Prelude.{is_some}
use Rattle.ng_core.specs.State as act
use Rattle.ng_core.specs.State.{Run, with_fault}
use Rattle.ng_base.specs.Views.{ViewTree}
use Rattle.ng_base.specs.declared.fault.Fault.{Fault}
use Rattle.ng_base.specs.declared.fault.Fault.TheVariants.{Depth, NotAssignable}
use Rattle.ng_base.specs.declared.path.Key.{Key}
use Rattle.ng_base.specs.declared.value.Value.{Value}
use Rattle.ng_base.specs.declared.value.Value.TheVariants.{Text}
use Rattle.ng_behaviour.specs.Scopes.{object_at}
use Rattle.ng_bind.specs.declared.flow.Flow.{Flow}
use Rattle.ng_bind.specs.declared.flow.Flow.TheVariants.{Still, ToDest, ToParent}
use Rattle.ng_drawing.specs.Origins.{is_too_deep}
use Rattle.ng_drawing.specs.Template.{Fragment}
use Rattle.ng_drawing.specs.Cases.{Case}
use Rattle.ng_drawing.specs.declared.origin.Origin.{Origin}
use Rattle.ng_language.specs.Trees.{Trees}
use Rattle.ng_fire.specs.Bindings.{text_kept, unless_fault, fired_with, flow_by, write_run, written_back, flows, bound_fired}
use Rattle.ng_changes.specs.ChildRun.{child_run}
use Rattle.ng_rows.specs.Chosen.{told_on, goes, cases_due}
use Rattle.ng_fire.specs.Blocks.{Firing, begins_firing, went, ended, gone, all_gone, faulted_with, discarded, linked_then, body_made, filled, outlet_emptied, outlets_emptied, body_linked}
use Rattle.ng_fire.specs.Fires.{fired as fires, fire_run, value_at}
use Rattle.ng_steps.specs.LinkBindings.{set_on, written_to}
use Rattle.ng_steps.specs.Links.{Linking, begins_linking, link_at}
use Rattle.ng_rows.specs.RepeatRows.{items_made}
use Rattle.ng_changes.specs.Runs.{destroy_run}
use Rattle.ng_fire.specs.SiteFires.{outlets_filled, outlets_fired, site_fired_by, site_fired}
use Rattle.ng_fire.proofs.RepeatWalks.{outlets_keep}
use Rattle.ng_instances.specs.Bindings.{Bound, bound_text, bound_in, bound_both}
use Rattle.ng_instances.specs.Changing.{Place}
use Rattle.ng_link.specs.Calls.{with_core, keeping_at, unlinked_at, arranged_at}
use Rattle.ng_instances.specs.Due.{Due, all_due}
use Rattle.ng_link.specs.Events.{scope_in}
use Rattle.ng_instances.specs.Instances.{Body, linked_at, is_site, instance_path, linked_for, bound_for}
use Rattle.ng_link.specs.State.{State}
use Rattle.ng_drawing.specs.Named.{fragments_in}
use Rattle.ng_members.specs.Leaves.{Local}
use Rattle.ng_watch.specs.Table.{kept_at}
use Rattle.ng_watch.specs.Verdicts.{own_value}
use Rattle.ng_write.specs.Making.{value_in}
use Rattle.ng_page.proofs.LinksStay.{set_stays, written_stays, link_less, child_run_less, discarded_sites}
use Rattle.ng_commands.proofs.EventsStay.{part, Less, less_refl, less_trans, Stays, less_of, stays_refl, fault_stays}
use Rattle.ng_page.proofs.RepeatsStay.{told_stay, items_stay}
use Rattle.ng_act.proofs.Programs.{some_first}
use Rattle.ng_commands.proofs.Sites.{SitesStay, sites_refl, sites_trans, core_sites}
use Rattle.ng_commands.proofs.StepsStay.{followed_sites, destroyed_stays, write_stays}
use Rattle.ng_page.proofs.FiresStay.{run_sites, fired_some}

-- ---- how far a fire has come

pub record Onward (c : act.State) (g : Firing) : Type 0 where
  pub stays : Less (part c) (part g.state.core)
  pub told : g.faulted ≡ true → is_some g.state.core.handed.first ≡ true

-- a step that leaves the core on, with the same faults or one that it has handed over
on_with : (c : act.State) (g : Firing) (s : State) (added : Bool) → Less (part g.state.core) (part s.core) → Onward c g → Onward c (record { state = s; faulted = g.faulted; added = added })
on_with c g s added h on = record { stays = less_trans (part c) (part g.state.core) (part s.core) on.stays h; told = λ e. h.some (on.told e) }

on_fault : (c : act.State) (e : Fault) (g : Firing) → Onward c g → Onward c (faulted_with e g)
on_fault c e g on = record {
  stays = less_trans (part c) (part g.state.core) (part (with_fault e g.state.core)) on.stays (less_of (part g.state.core) (part (with_fault e g.state.core)) (fault_stays e (part g.state.core)));
  told = λ _. some_first g.state.core.handed.first e;
}

on_ended : (c : act.State) (p : List ℕ) (g : Firing) → Onward c g → Onward c (ended p g)
on_ended c p g on =
    let scope : ℕ = scope_in (linked_at p g.state.instances) in
    on_with c g (ended p g).state (ended p g).added (less_of (part g.state.core) (part (ended p g).state.core) (followed_sites (destroy_run scope g.state.core) g.state (destroyed_stays scope g.state.core)).core) on

on_gone : (c : act.State) (holder : List ℕ) (b : Body) (g : Firing) → Onward c g → Onward c (gone holder b g)
on_gone c holder b g on =
    let scope : ℕ = scope_in (linked_at b.path g.state.instances) in
    let h : Firing = went (destroy_run scope g.state.core) g in
    on_with c g (unlinked_at holder b.path h.state) h.added (less_of (part g.state.core) (part h.state.core) (followed_sites (destroy_run scope g.state.core) g.state (destroyed_stays scope g.state.core)).core) on

on_all_gone : (c : act.State) (holder : List ℕ) (bs : List Body) (g : Firing) → Onward c g → Onward c (all_gone holder bs g)
on_all_gone c holder [] g on = on
on_all_gone c holder (b ∷ bs) g on = on_all_gone c holder bs (gone holder b g) (on_gone c holder b g on)

on_linked : (c : act.State) (scope : ℕ) (o : Option Fault) (l : Linking) (g : Firing) → Less (part g.state.core) (part l.state.core) → Onward c g → Onward c (linked_then scope o l g)
on_linked c scope None l g h on = on_with c g l.state _ h on
on_linked c scope (Some e) l g h on =
    on_fault c e _
    (on_with c g (discarded scope l.state) _
    (less_trans (part g.state.core) (part l.state.core) (part (discarded scope l.state).core) h (less_of (part l.state.core) (part (discarded scope l.state).core) (discarded_sites scope l.state).core)) on)

on_either : (c : act.State) (b : Bool) (g h : Firing) → Onward c g → Onward c h → Onward c (cond b g h)
on_either c true g h one two = one
on_either c false g h one two = two

on_made : (c : act.State) (place : Place) (outsides : List ℕ) (names : List Local) (which : Origin) (f : Fragment) (d : act.State) (r : Result ℕ Fault) (g : Firing) → Less (part g.state.core) (part d) → Onward c g
    → Onward c (body_made place outsides names which f d r g)
on_made c place outsides names which f d (Err e) g h on = on_fault c e g on
on_made c place outsides names which f d (Ok child) g h on =
    let s : State = with_core (told_on child names d) g.state in
    let began = less_trans (part g.state.core) (part d) (part s.core) h (less_of (part d) (part s.core) (told_stay child names d)) in
    let l : Linking = link_at place which child outsides f s in
    on_either c (is_too_deep which) (linked_then child (Some Depth) (begins_linking child outsides s) g) (body_linked place which f child outsides s g)
    (on_linked c child (Some Depth) (begins_linking child outsides s) g began on)
    (on_linked c child l.fault l g (less_trans (part g.state.core) (part s.core) (part l.state.core) began (link_less place which child outsides f s)) on)

on_filled : (c : act.State) (place : Place) (scope : ℕ) (outsides : List ℕ) (names : List Local) (which : Origin) (g : Firing) → Onward c g → Onward c (filled place scope outsides names which g)
on_filled c place scope outsides names which g on =
    let r : Run ℕ = child_run scope g.state.core in
    on_made c place outsides names which (fragments_in g.state.templates which) r.0 r.1 g (child_run_less scope g.state.core) on

on_emptied : (c : act.State) (holder : List ℕ) (v : ViewTree) (ds : List Due) (g : Firing) → Onward c g → Onward c (outlets_emptied holder v ds g)
on_emptied c holder v [] g on = on
on_emptied c holder v (d ∷ ds) g on =
    on_emptied c holder v ds (outlet_emptied holder v d g) (on_either c (goes d.filling v) (all_gone holder d.bodies g) g (on_all_gone c holder d.bodies g on) on)

on_come : (c : act.State) (holder : List ℕ) (cases : List Case) (v : ViewTree) (ds : List Due) (g : Firing) → Onward c g → Onward c (outlets_filled holder cases v ds g)
on_come c =
    outlets_keep (Onward c)
    (λ scope names g on. on_with c g (with_core (told_on scope names g.state.core) g.state) g.added (less_of (part g.state.core) _ (told_stay scope names g.state.core)) on)
    (λ e g on. on_fault c e g on)
    (λ es g on. on_with c g (with_core (items_made es [] g.state.core).0 g.state) g.added (less_of (part g.state.core) _ (items_stay es [] g.state.core)) on)
    (on_ended c)
    (λ holder p g on. on_with c g (unlinked_at holder p g.state) g.added (less_refl (part g.state.core)) on)
    (λ holder o bs g on. on_with c g (arranged_at holder o bs g.state) g.added (less_refl (part g.state.core)) on)
    (on_filled c)

on_outlets : (c : act.State) (holder : List ℕ) (v : ViewTree) (ds : List Due) (g : Firing) → Onward c g → Onward c (outlets_fired holder v ds g)
on_outlets c holder v ds g on = on_come c holder (cases_due ds) v ds (outlets_emptied holder v ds g) (on_emptied c holder v ds g on)

-- ---- what a binding's site writes

-- a run, of whose fault the fire tells
pub record IsSet (g h : Firing) : Type 0 where
  pub sites : SitesStay g.state h.state
  pub told : h.faulted ≡ true → (g.faulted ≡ true) ⊎ (is_some h.state.core.handed.first ≡ true)

fired_set : {A : Type 0} (r : Run A) (g : Firing) → Stays (part g.state.core) (part r.0) → IsSet g (fired_with r g)
fired_set r g h = by_end r.1
  where
    begun : Firing
    begun = record g { state = with_core r.0 g.state }

    by_end : {A : Type 0} (o : Result A Fault) → IsSet g (unless_fault o begun)
    by_end (Ok v) = record { sites = core_sites g.state r.0 h; told = λ e. inl e }
    by_end (Err e) = record {
      sites = sites_trans g.state begun.state (faulted_with e begun).state (core_sites g.state r.0 h) (core_sites begun.state (with_fault e r.0) (fault_stays e (part r.0)));
      told = λ _. inr (some_first r.0.handed.first e);
    }

writes_stay : (over : ℕ) (o : Option Trees) (v : ViewTree) (c : act.State) → Stays (part c) (part (write_run over o v c).0)
writes_stay over None v c = stays_refl (part c)
writes_stay over (Some p) v c = write_stays over p (value_in v) c

-- what goes to the parent, or back
back_set : (scope : ℕ) (name : List ℕ) (v : ViewTree) (g : Firing) (c : act.State) (r : Result Value Fault) → Stays (part g.state.core) (part c)
    → IsSet g (written_back scope name v r (record g { state = with_core c g.state }))
back_set scope name v g c (Ok w) h = record { sites = core_sites g.state c h; told = λ e. inl e }
back_set scope name v g c (Err e) h =
    let begun : Firing = record g { state = with_core c g.state } in
    let back : Firing = fired_with (written_to scope name v c) begun in
    let one : IsSet begun back = fired_set (written_to scope name v c) begun (written_stays scope name v c) in
    record {
      sites = sites_trans g.state begun.state (faulted_with NotAssignable back).state (core_sites g.state c h)
          (sites_trans begun.state back.state (faulted_with NotAssignable back).state one.sites (core_sites back.state (with_fault NotAssignable back.state.core) (fault_stays NotAssignable (part back.state.core))));
      told = λ _. inr (some_first back.state.core.handed.first NotAssignable);
    }

flows_set : (r : Result Flow Fault) (scope : ℕ) (name : List ℕ) (over : ℕ) (w : Option Trees) (v o : ViewTree) (g : Firing) → IsSet g (flows r scope name over w v o g)
flows_set (Ok Still) scope name over w v o g = record { sites = sites_refl g.state; told = λ e. inl e }
flows_set (Ok ToDest) scope name over w v o g = fired_set (written_to scope name v g.state.core) g (written_stays scope name v g.state.core)
flows_set (Ok ToParent) scope name over w v o g = let r : Run Value = write_run over w o g.state.core in back_set scope name v g r.0 r.1 (writes_stay over w o g.state.core)
flows_set (Err e) scope name over w v o g = record { sites = sites_refl g.state; told = λ e. inl e }

pub bound_set : (b : Bound) (path : List ℕ) (v : ViewTree) (former : Option ViewTree) (g : Firing) → IsSet g (bound_fired b path v former g)
bound_set (bound_text scope name ps) path v former g =
    record { sites = core_sites g.state (set_on scope name (Text (text_kept path ps g.state)) g.state.core) (set_stays scope name (Text (text_kept path ps g.state)) g.state.core); told = λ e. inl e }
bound_set (bound_in scope name) path v former g = fired_set (written_to scope name v g.state.core) g (written_stays scope name v g.state.core)
bound_set (bound_both scope name over w) path v former g =
    let o : ViewTree = own_value g.state.core.objects (object_at g.state.core.scopes scope) name in
    flows_set (flow_by g.state.core.objects v o former) scope name over w v o g

-- ---- the fire of a site

by_bound_onward : (o : Option Bound) (k : Key) (v : ViewTree) (value former : Option ViewTree) (s : State) → Onward s.core (site_fired_by o k v value former s)
by_bound_onward None k v value former s =
    on_outlets s.core (instance_path s.inner k.path) v (all_due k (linked_for s.inner k.path s.instances)) (begins_firing s) (record { stays = less_refl (part s.core); told = λ e. absurd (cc) })
by_bound_onward (Some b) k v None former s = record { stays = less_refl (part s.core); told = λ e. absurd (cc) }
by_bound_onward (Some b) k v (Some w) former s =
    let h : Firing = bound_fired b k.path w former (begins_firing s) in
    let set : IsSet (begins_firing s) h = bound_set b k.path w former (begins_firing s) in
    record { stays = less_of (part s.core) (part h.state.core) set.sites.core; told = λ e. by_told h (set.told e) }
  where
    by_told : (h : Firing) → (false ≡ true) ⊎ (is_some h.state.core.handed.first ≡ true) → is_some h.state.core.handed.first ≡ true
    by_told h (inl none) = absurd (cc)
    by_told h (inr handed) = handed

site_onward : (k : Key) (v : ViewTree) (value former : Option ViewTree) (s : State) → Onward s.core (site_fired k v value former s)
site_onward k v value former s = by_bound_onward (bound_for s.inner s.instances k) k v value former s

-- ---- the fire of a watcher

pub record FireTold (c : act.State) (r : State × Bool) : Type 0 where
  pub stays : Less (part c) (part r.0.core)
  pub told : r.1 ≡ true → is_some r.0.core.handed.first ≡ true

told_either : (c : act.State) (b : Bool) (p q : State × Bool) → FireTold c p → FireTold c q → FireTold c (cond b p q)
told_either c true p q h k = h
told_either c false p q h k = k

pub fires_told : (k : Key) (t : ViewTree) (s : State) → FireTold s.core (fires k t s)
fires_told k t s =
    let u : State = keeping_at k t s in
    let on : Onward u.core (site_fired k t (value_at s k) (kept_at k s.watchers) u) = site_onward k t (value_at s k) (kept_at k s.watchers) u in
    told_either s.core (is_site s.inner s.instances k) _ _ (record { stays = on.stays; told = on.told })
    (record { stays = less_of (part u.core) _ (run_sites k s u refl).core; told = λ e. fired_some (fire_run k s) u e })

-- Whatever is done to a page, its watchers stand in key order; so each digest over them comes to an end.
use Rattle.std.proofs.Common.{◌≡◌, ℕ, Bool, true, false, List, [], ◌∷◌, cond, refl, sym, ap, subst, not, Option, None, Some}
use Rattle.std.specs.Prelude.{is_err}
use Rattle.std.specs.List.Sorted.{IsStrictlySortedBy}
use Rattle.std.specs.Map.{keys_of}
use Rattle.ng_core.specs.State.{Run, Task}
use Rattle.ng_app.specs.App.{Facts}
use Rattle.ng_app.specs.Directives.{all_programs}
use Rattle.ng_base.specs.Views.{ViewTree}
use Rattle.ng_base.specs.declared.fault.Fault.{Fault}
use Rattle.ng_base.specs.declared.path.Key.{Key}
use Rattle.ng_base.specs.declared.value.Value.{Value}
use Rattle.ng_base.specs.declared.value.Value.TheVariants as value
use Rattle.ng_control.specs.State.{typed_in, checked_in}
use Rattle.ng_drawing.specs.Template.{Fragment, Template}
use Rattle.ng_fire.proofs.Ordered.{InKeys, IsOrdered, either, changed_ordered, followed_ordered, link_ordered, site_ordered}
use Rattle.ng_fire.specs.Fires.{fired as fires, fire_of_site, fire_run, fired_by, value_at}
use Rattle.ng_settling.specs.Inputs.{write_run, all_run, written}
use Rattle.ng_steps.specs.Links.{Linking, link_at}
use Rattle.ng_changes.specs.Runs.{task_run, without_task, ran_of, program_run, followed, destroyed}
use Rattle.ng_settling.specs.Settling as settling
use Rattle.ng_fire.specs.SiteFires.{site_fired}
use Rattle.ng_language.specs.Trees.{Trees}
use Rattle.ng_instances.specs.Changing.{at_top}
use Rattle.ng_link.specs.Calls.{blank, with_core, with_control_at, keeping_at, unset_at, ended_at, is_drawn}
use Rattle.ng_build.specs.Controls.{ControlHere, state_under, read_as}
use Rattle.ng_link.specs.Events.{control_at, scope_of}
use Rattle.ng_instances.specs.Instances.{is_site}
use Rattle.ng_link.proofs.Sorted.{none_in_order, filter_sorted}
use Rattle.ng_link.specs.State.{State}
use Rattle.ng_drawing.specs.Named.{fragments_in}
use Rattle.ng_app.specs.Installing.{installed}
use Rattle.ng_page.specs.Answered.{ready_place}
use Rattle.ng_commands.specs.Commands.{Asked, applies, queues, probes, digests, destroys_scope, emits, broadcasts, types, checks, begun, emit_run, broadcast_run, typed_run, checked_run, asked_run}
use Rattle.ng_page.specs.Opening.{prepared, linked_by, opening, page_origin, templates_for}
use Rattle.ng_page.specs.PageLaws.{by_test, page_laws}
use Rattle.ng_page.specs.PageMachine as page
use Rattle.ng_page.specs.PageMachine.{page_machine}
use Rattle.ng_behaviour.specs.Keys.{key_cmp, is_key}
use Rattle.ng_watch.specs.Seen.{Watcher}
use Rattle.ng_watch.specs.Table.{Table, keeping, kept_at, with_kept}
use Rattle.ng_watch.specs.Ended.{is_over}
use Rattle.ng_laws.proofs.Ends.{ShortEnds, short_ends}

-- ---- the calls on the works

kept_one : (b : Bool) (k : Key) (v : Option ViewTree) (e : Key × Watcher) (es : Table) → keys_of (with_kept k v es) ≡ keys_of es → keys_of (cond b ((e.0, keeping v e.1) ∷ es) (e ∷ with_kept k v es)) ≡ keys_of (e ∷ es)
kept_one true k v e es h = refl
kept_one false k v e es h = ap (λ ks. e.0 ∷ ks) h

kept_keys : (k : Key) (v : Option ViewTree) (t : Table) → keys_of (with_kept k v t) ≡ keys_of t
kept_keys k v [] = refl
kept_keys k v (e ∷ es) = kept_one (is_key k e.0) k v e es (kept_keys k v es)

kept_ordered : (k : Key) (v : Option ViewTree) (t : Table) → InKeys t → InKeys (with_kept k v t)
kept_ordered k v t h = subst (λ ks. IsStrictlySortedBy key_cmp ks) (sym (kept_keys k v t)) h

unset_ordered : (k : Key) (s : State) → IsOrdered s → IsOrdered (unset_at k s)
unset_ordered k s h = either (is_drawn s k) s (record s { watchers = with_kept k None s.watchers }) h (kept_ordered k None s.watchers h)

ended_ordered : (s : State) → IsOrdered s → IsOrdered (ended_at s)
ended_ordered s h = filter_sorted key_cmp page_laws.total (λ (e : Key × Watcher). not (is_over s.core.objects e.1)) s.watchers h

-- ---- what programs leave

ran_ordered : (ts : List Task) (s : State) → IsOrdered s → IsOrdered (ran_of ts s)
ran_ordered [] s h = h
ran_ordered (t ∷ ts) s h = followed_ordered (task_run t (without_task ts s.core)) s h

fired_ordered : (o : Option (Run ViewTree)) (s : State) → IsOrdered s → IsOrdered (fired_by o s).0
fired_ordered None s h = h
fired_ordered (Some r) s h = followed_ordered r s h

fires_ordered : (k : Key) (now : ViewTree) (s : State) → IsOrdered s → IsOrdered (fires k now s).0
fires_ordered k now s h = by (is_site s.inner s.instances k)
  where
    t : State
    t = keeping_at k now s

    kept : IsOrdered t
    kept = kept_ordered k (Some now) s.watchers h

    by : (b : Bool) → IsOrdered (cond b (fire_of_site (site_fired k now (value_at s k) (kept_at k s.watchers) t)) (fired_by (fire_run k s) t)).0
    by true = site_ordered k now (value_at s k) (kept_at k s.watchers) t kept
    by false = fired_ordered (fire_run k s) t kept

unset_all_ordered : (ks : List Key) (s : State) → IsOrdered s → IsOrdered (settling.unset_all ks s)
unset_all_ordered [] s h = h
unset_all_ordered (k ∷ ks) s h = unset_all_ordered ks (unset_at k s) (unset_ordered k s h)

-- ---- the machine of a page

abbrev pub IsGood : page.State → Type 0
IsGood s = IsOrdered s.works

tested_good : (s : page.State) (k : Key) → IsGood s → IsGood (page_machine.tested s k)
tested_good s k h = by_test (λ t. IsGood t) s k h (λ f. h)

fired_good : (s : page.State) (k : Key) → IsGood s → IsGood (page_machine.fired s k)
fired_good s k h = by (page.handed_on_at s k)
  where
    by : (o : Option ViewTree) → IsGood (page.fired_by k o s)
    by None = h
    by (Some t) = fires_ordered k t s.works h

tested_same : (s : page.State) (k : Key) → page_machine.keys (page_machine.tested s k) ≡ page_machine.keys s
tested_same s k = by_test (λ t. page_machine.keys t ≡ page_machine.keys s) s k refl (λ f. refl)

ran_good : (s : page.State) → IsGood s → IsGood (page_machine.ran s)
ran_good s h = ran_ordered s.works.core.tasks s.works h

settled_good : (s : page.State) → IsGood s → IsGood (page_machine.settled s)
settled_good s h = ended_ordered (settling.unset_all s.faulted s.works) (unset_all_ordered s.faulted s.works h)

failed_good : (s : page.State) → IsGood s → IsGood (page_machine.failed s)
failed_good s h = unset_all_ordered s.faulted s.works h

pub page_ends : (s : State) → IsOrdered s → ShortEnds page_machine IsGood (ready_place s)
page_ends s h = short_ends page_machine page_laws.total IsGood (λ t g. g) tested_same tested_good fired_good ran_good settled_good failed_good (ready_place s) (refl, refl, h) refl

-- ---- the opening

prepared_ordered : (u : Template) (f : Facts) → IsOrdered (prepared u f)
prepared_ordered u f = followed_ordered (program_run 0 f.run (installed f)) (blank (templates_for u f) (all_programs f.directives) (installed f)) (none_in_order key_cmp)

by_ordered : (o : Option Fault) (s : State) → IsOrdered s → IsOrdered (linked_by o s)
by_ordered None s h = h
by_ordered (Some f) s h = h

pub opening_ordered : (f : Facts) (t : Template) → IsOrdered (opening f t)
opening_ordered f t =
    let s : State = prepared t f in
    let own : Fragment = fragments_in s.templates page_origin in
    let l : Linking = link_at at_top page_origin 0 [] own s in
    by_ordered l.fault l.state (link_ordered at_top page_origin 0 [] own s (prepared_ordered t f))

-- ---- the commands

-- what is put in to a control
all_ordered : (scope : ℕ) (ps : List Trees) (s : State) → IsOrdered s → IsOrdered (all_run scope ps s)
all_ordered scope [] s h = h
all_ordered scope (p ∷ ps) s h = all_ordered scope ps (followed (program_run scope p s.core) s) (followed_ordered (program_run scope p s.core) s h)

written_ordered : (scope : ℕ) (p : Trees) (v : Value) (ps : List Trees) (s : State) → IsOrdered s → IsOrdered (written scope p v ps s)
written_ordered scope p v ps s h = by_end (is_err (write_run scope p v s.core).1)
  where
    t : State
    t = followed (write_run scope p v s.core) s

    by_end : (b : Bool) → IsOrdered (cond b t (all_run scope ps t))
    by_end true = followed_ordered (write_run scope p v s.core) s h
    by_end false = all_ordered scope ps t (followed_ordered (write_run scope p v s.core) s h)

typed_ordered : (t : List ℕ) (scope : ℕ) (c : Option ControlHere) (s : State) → IsOrdered s → IsOrdered (typed_run t scope c s)
typed_ordered t scope None s h = h
typed_ordered t scope (Some c) s h = written_ordered scope c.writes (read_as t (state_under c.key s.controls)) c.changes (with_control_at (λ x. typed_in x t) c.key s) h

checked_ordered : (b : Bool) (scope : ℕ) (c : Option ControlHere) (s : State) → IsOrdered s → IsOrdered (checked_run b scope c s)
checked_ordered b scope None s h = h
checked_ordered b scope (Some c) s h = written_ordered scope c.writes (value.Bool b) c.changes (with_control_at checked_in c.key s) h

program_ordered : (a : Asked) (s : State) → IsOrdered s → IsOrdered (asked_run a s)
program_ordered (applies scope p) s h = followed_ordered (program_run scope p s.core) s h
program_ordered (queues p) s h = h
program_ordered (probes p) s h = h
program_ordered digests s h = h
program_ordered (destroys_scope scope) s h = changed_ordered (with_core (destroyed scope s.core) s) h
program_ordered (emits scope name d) s h = followed_ordered (emit_run scope name d s.core) s h
program_ordered (broadcasts scope name d) s h = followed_ordered (broadcast_run scope name d s.core) s h
program_ordered (types n t) s h = typed_ordered t (scope_of s n) (control_at s n) s h
program_ordered (checks n b) s h = checked_ordered b (scope_of s n) (control_at s n) s h

pub asked_ordered : (a : Asked) (s : State) → IsOrdered s → IsOrdered (asked_run a (begun s))
asked_ordered a s h = program_ordered a (begun s) h

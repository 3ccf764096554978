use Rattle.std.proofs.Common.{◌≡◌, ◌∙◌, ℕ, List, ap, length, map, subst, sym}
use Rattle.std.specs.Prelude.{Option}
use Rattle.ng_core.specs.declared.core_state.Core.{Core}
use Rattle.ng_base.specs.Views.{ViewTree}
use Rattle.ng_changes.proofs.Entries.{if_ok}
use Rattle.ng_fire.proofs.Served.{all_are_due}
use Rattle.ng_fire.proofs.WithoutRows.{same_fired, still_due}
use Rattle.ng_fire.specs.Blocks.{begins_firing}
use Rattle.ng_fire.specs.Fires.{value_at}
use Rattle.ng_fire.specs.Serving.{AreDue}
use Rattle.ng_fire.specs.SiteFires.{outlets_fired, site_fired_by}
use Rattle.ng_language.specs.Views.{ViewStands}
use Rattle.ng_instances.specs.Bindings.{Bound}
use Rattle.ng_link.specs.Calls.{keeping_at}
use Rattle.ng_instances.specs.Due.{Due, all_due, due_of, without_rows}
use Rattle.ng_instances.specs.Instances.{instance_path, linked_at, linked_for}
use Rattle.ng_link.specs.State.{State, state_of, templates_of}
use Rattle.ng_value.specs.Snaps.{snap_of}
use Rattle.ng_watch.specs.Table.{kept_at}
use Rattle.ng_fire.proofs.firing.fire_filling.Goals as goal

pub fire_outlets-requires-clause-due : goal.fire_outlets-requires-clause-due
fire_outlets-requires-clause-due c =
    let old : State = state_of c.args.works.now in
    let w = c.keep_site.new.works in
    let s : State = state_of w in
    let k = c.args.key.now in
    let holder : c.in_ok-holder.holder ≡ instance_path s.inner k.path = c.in_ok-holder.ensures ∙ c.instance_path.ensures in
    let due : map due_of c.args.all.now ≡ map without_rows (all_due k (linked_at (instance_path s.inner k.path) s.instances)) = c.requires.due ∙ sym (ap (λ (x : State). map without_rows (all_due k (linked_for x.inner k.path x.instances))) c.in_ok-keep_site.ensures.state) in
    subst (λ (p : List ℕ). AreDue (templates_of w) p s.instances (map due_of c.args.all.now)) (sym holder)
    (subst (λ (ds : List Due). AreDue (templates_of w) (instance_path s.inner k.path) s.instances ds) (sym due)
    (still_due (templates_of w) (instance_path s.inner k.path) s.instances (all_due k (linked_at (instance_path s.inner k.path) s.instances))
    (all_are_due (templates_of w) (instance_path s.inner k.path) s.instances k c.in_ok-keep_site.ensures.whole.bodies)))

-- what a dirty test kept names objects that are there
pub fire_outlets-requires-clause-value : goal.fire_outlets-requires-clause-value
fire_outlets-requires-clause-value c =
    let stands = c.in_ok-dirty_value.ensures.snapshot (snap_of c.args.snapshot) c.requires.dirty in
    subst (λ (x : Core). ViewStands (length x.store) (snap_of c.in_ok-value.value)) (sym c.keep_site.ensures.core)
    (subst (λ (v : ViewTree). ViewStands (length c.args.works.now.core.store) v) (sym c.in_ok-value.ensures) stands)

pub returns-clause-fired : goal.returns-clause-fired
returns-clause-fired c =
    let s : State = state_of c.args.works.now in
    let w = c.keep_site.new.works in
    let k = c.args.key.now in
    let v = snap_of c.args.snapshot in
    let t : State = keeping_at k v s in
    let state : state_of w ≡ t = c.in_ok-keep_site.ensures.state in
    let holder : c.in_ok-holder.holder ≡ instance_path t.inner k.path = c.in_ok-holder.ensures ∙ (c.instance_path.ensures ∙ ap (λ (x : State). instance_path x.inner k.path) state) in
    if_ok c.fire_outlets.result c.fire_outlets.ensures.fired
    (λ f fired. fired
    ∙ (ap (λ (p : List ℕ). outlets_fired p (snap_of c.in_ok-value.value) (map due_of c.args.all.now) (begins_firing (state_of w))) holder
    ∙ (ap (λ (x : ViewTree). outlets_fired (instance_path t.inner k.path) x (map due_of c.args.all.now) (begins_firing (state_of w))) c.in_ok-value.ensures
    ∙ (ap (λ (ds : List Due). outlets_fired (instance_path t.inner k.path) v ds (begins_firing (state_of w))) c.requires.due
    ∙ (same_fired (instance_path t.inner k.path) v (all_due k (linked_for t.inner k.path t.instances)) (begins_firing (state_of w))
    ∙ (ap (λ (x : State). outlets_fired (instance_path t.inner k.path) v (all_due k (linked_for t.inner k.path t.instances)) (begins_firing x)) state
    ∙ sym (ap (λ (o : Option Bound). site_fired_by o k v (value_at s k) (kept_at k s.watchers) t) c.requires.unbound)))))))

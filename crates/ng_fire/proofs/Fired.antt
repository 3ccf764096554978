-- What a fire runs.
use Rattle.std.proofs.Common.{◌≡◌, ◌∙◌, ◌<◌, ℕ, Bool, true, false, List, length, Option, Some, None, refl, ap, subst, sym, if◌then◌else◌}
use Rattle.std.specs.Prelude.{Ok, option_map}
use Rattle.std.specs.Map.{lookup}
use Rattle.std.specs.Option.{ForSome}
use Rattle.ng_core.specs.Keeping.{stores}
use Rattle.ng_act.specs.Asked.{a_body}
use Rattle.ng_core.specs.State as act
use Rattle.ng_core.specs.State.{Run, ◌>>=◌}
use Rattle.ng_base.specs.Objects.{Object}
use Rattle.ng_base.specs.Views.{ViewTree}
use Rattle.ng_base.specs.declared.path.Key.{Key}
use Rattle.ng_changes.proofs.Rising.{mark, Rises, rises-refl}
use Rattle.ng_changes.proofs.Entries.{listener_found}
use Rattle.ng_changes.proofs.Runs.{asked_rises}
use Rattle.ng_changes.proofs.RisingPrograms.{bind-rises, stores-rises}
use Rattle.ng_fire.proofs.Snapshots.{dirty_stands}
use Rattle.ng_fire.specs.Blocks.{Firing}
use Rattle.ng_settling.specs.ListenerRuns.{former_value, listener_locals, listener_run}
use Rattle.ng_fire.specs.Fires.{adds_by, fire_adds, fire_of_site, fire_run, fired, fired_by, listener_at, value_at}
use Rattle.ng_changes.specs.Runs.{asked_first}
use Rattle.ng_fire.specs.SiteFires.{site_fired}
use Rattle.ng_changes.specs.Whole.{ListenersStand}
use Rattle.ng_language.specs.Objects.{AreObjects}
use Rattle.ng_language.specs.Views.{ViewStands}
use Rattle.ng_link.specs.Calls.{keeping_at}
use Rattle.ng_instances.specs.Instances.{is_site}
use Rattle.ng_link.specs.State.{State, Listening}
use Rattle.ng_behaviour.specs.Keys.{is_key}
use Rattle.ng_watch.specs.Now.{value_now}
use Rattle.ng_watch.specs.Seen.{Watching, Watcher, WatchStands}
use Rattle.ng_watch.specs.Table.{kept_at}
use Rattle.ng_watch.specs.Verdicts.{dirty, verdict}

-- the watch of a key

pub watch_stands : (n : ℕ) (o : Option Watcher) (x : Watching) → option_map (λ (w : Watcher). w.watch) o ≡ Some x → ForSome o (λ w. WatchStands n w.watch) → WatchStands n x
watch_stands n None x e f = absurd (cc)
watch_stands n (Some w) x e f = let q : w.watch ≡ x = cc in subst (λ (y : Watching). WatchStands n y) q (f w refl)

pub dirty_found : (objects : List Object) → AreObjects objects → (o : Option Watcher) (x : Watching) (v now : ViewTree) → option_map (λ (w : Watcher). w.watch) o ≡ Some x → ForSome o (λ w. verdict objects w ≡ Ok (dirty now)) → WatchStands (length objects) x → value_now objects x ≡ Ok v → ViewStands (length objects) v → ViewStands (length objects) now
dirty_found objects a None x v now e d ws q s = absurd (cc)
dirty_found objects a (Some w) x v now e d ws q s =
    let i : x ≡ w.watch = cc in
    dirty_stands objects a w v now (subst (λ (y : Watching). WatchStands (length objects) y) i ws) (rw (← i) q) s (d w refl)

-- the program of a key

pub listener_scope : (n : ℕ) (s : State) (k : Key) (l : Listening) → ListenersStand n s.declared → listener_at s k ≡ Some l → l.scope < n
listener_scope n s k l h e = by (is_site s.inner s.instances k) e
  where
    by : (b : Bool) → (if b then None else lookup (is_key k) s.declared) ≡ Some l → l.scope < n
    by true e = absurd (cc)
    by false e = listener_found n (is_key k) s.declared h l e

-- the fire of a site

pub fired_site : (k : Key) (v : ViewTree) (s : State) (g : Firing) → is_site s.inner s.instances k ≡ true → g ≡ site_fired k v (value_at s k) (kept_at k s.watchers) (keeping_at k v s) → fire_of_site g ≡ fired k v s
fired_site k v s g site e =
    let f : Firing = site_fired k v (value_at s k) (kept_at k s.watchers) (keeping_at k v s) in
    ap fire_of_site e ∙ sym (ap (λ (b : Bool). if b then fire_of_site f else fired_by (fire_run k s) (keeping_at k v s)) site)

pub adds_site : (k : Key) (v : ViewTree) (s : State) (g : Firing) → is_site s.inner s.instances k ≡ true → g ≡ site_fired k v (value_at s k) (kept_at k s.watchers) (keeping_at k v s) → g.added ≡ fire_adds k v s
adds_site k v s g site e =
    let f : Firing = site_fired k v (value_at s k) (kept_at k s.watchers) (keeping_at k v s) in
    ap (λ (h : Firing). h.added) e ∙ sym (ap (λ (b : Bool). if b then f.added else adds_by (fire_run k s)) site)

-- a fire lowers no number of registration, and changes no path

former_rises : (former : Option ViewTree) (v : ViewTree) (c : act.State) → Rises (mark c) (mark (former_value former v c).0)
former_rises None v c = rises-refl (mark c)
former_rises (Some f) v c = stores-rises f c

pub listener_rises : (l : Listening) (former : Option ViewTree) (v : ViewTree) (c : act.State) → Rises (mark c) (mark (listener_run l former v c).0)
listener_rises l former v c =
    let r : Run ViewTree = stores v c in
    bind-rises (mark c) r.0 r.1 (λ w d. former_value former w d >>= λ o e. asked_first (a_body l.scope (listener_locals w o) l.body) e) (stores-rises v c)
    (λ w d. let q : Run ViewTree = former_value former w d in
    bind-rises (mark d) q.0 q.1 (λ o e. asked_first (a_body l.scope (listener_locals w o) l.body) e) (former_rises former w d)
    (λ o e. asked_rises (a_body l.scope (listener_locals w o) l.body) e))

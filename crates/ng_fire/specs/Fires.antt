-- The fire of a watcher that was dirty (guide: Scopes, "Scope `$watch` Depths"; API: `$watch`). It keeps the snapshot of now; the
-- former one is what it had kept before.
use Rattle.std.specs.Prelude.{◌≡◌, Bool, false, Option, Some, None, Result, Ok, Err, is_err, if◌then◌else◌}
use Rattle.std.specs.Map.{lookup}
use Rattle.std.specs.Option.{ForSome}
use Rattle.ng_core.specs.State as act
use Rattle.ng_core.specs.State.{Run}
use Rattle.ng_base.specs.Views.{ViewTree}
use Rattle.ng_base.specs.declared.fault.Fault.{Fault}
use Rattle.ng_base.specs.declared.path.Key.{Key}
use Rattle.ng_changes.specs.Changes.{has_additions}
use Rattle.ng_changes.specs.Runs.{followed}
use Rattle.ng_link.specs.Calls.{keeping_at}
use Rattle.ng_fire.specs.Blocks.{Firing}
use Rattle.ng_fire.specs.SiteFires.{site_fired}
use Rattle.ng_instances.specs.Instances.{is_site}
use Rattle.ng_link.specs.State.{State, Listening}
use Rattle.ng_behaviour.specs.Keys.{is_key}
use Rattle.ng_watch.specs.Now.{value_now}
use Rattle.ng_watch.specs.Seen.{Watcher}
use Rattle.ng_watch.specs.Table.{found, kept_at}
use Rattle.ng_watch.specs.Verdicts.{verdict, dirty}
use Rattle.ng_settling.specs.ListenerRuns.{listener_run}

-- the value now of a watcher
abbrev pub value_of : State → Option Watcher → Option ViewTree
value_of s None = None
value_of s (Some w) = by (value_now s.core.objects w.watch)
  where
    by : Result ViewTree Fault → Option ViewTree
    by (Ok v) = Some v
    by (Err f) = None

abbrev pub value_at : State → Key → Option ViewTree
value_at s k = value_of s (found k s.watchers)

-- the program of the declared watch of a key; the site of a template has none, and only shows what it keeps
abbrev pub listener_at : State → Key → Option Listening
listener_at s k = if is_site s.inner s.instances k then None else lookup (is_key k) s.declared

-- the test of a watcher was dirty, and this is the snapshot of now
abbrev pub IsDirtyWith : ViewTree → State → Key → Type 0
IsDirtyWith now s k = ForSome (found k s.watchers) (λ w. verdict s.core.objects w ≡ Ok (dirty now))

-- what a fire runs, where it runs anything
abbrev pub run_with : Option Listening → Option ViewTree → Option ViewTree → act.State → Option (Run ViewTree)
run_with None former value c = None
run_with (Some l) former None c = None
run_with (Some l) former (Some v) c = Some (listener_run l former v c)

abbrev pub fire_run : Key → State → Option (Run ViewTree)
fire_run k s = run_with (listener_at s k) (kept_at k s.watchers) (value_at s k) s.core

-- the state after that, and whether the fire itself faulted
abbrev pub fired_by : Option (Run ViewTree) → State → State × Bool
fired_by None s = (s, false)
fired_by (Some r) s = (followed r s, is_err r.1)

-- whether it left a watcher more
abbrev pub adds_by : Option (Run ViewTree) → Bool
adds_by None = false
adds_by (Some r) = has_additions r.0.changes

-- The fire of a dirty watcher: it keeps the snapshot of now. Then its program runs, or the outlets that the site fills get what the value
-- calls for.
abbrev pub fire_of_site : Firing → State × Bool
fire_of_site g = (g.state, g.faulted)

abbrev pub fired : Key → ViewTree → State → State × Bool
fired k now s =
    if is_site s.inner s.instances k then fire_of_site (site_fired k now (value_at s k) (kept_at k s.watchers) (keeping_at k now s))
    else fired_by (fire_run k s) (keeping_at k now s)

-- whether the fire leaves a watcher more
abbrev pub fire_adds : Key → ViewTree → State → Bool
fire_adds k now s = if is_site s.inner s.instances k then (site_fired k now (value_at s k) (kept_at k s.watchers) (keeping_at k now s)).added else adds_by (fire_run k s)

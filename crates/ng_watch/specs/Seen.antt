-- What contracts see of a watcher.
use Rattle.std.specs.Prelude.{ℕ, ◌<◌, Bool, Option, option_map}
use Rattle.ng_base.specs.Views.{ViewTree}
use Rattle.ng_language.specs.Trees.{Trees}
use Rattle.ng_parse.specs.ProgramOf.{program}
use Rattle.ng_value.specs.Snaps.{snap_of}
use Rattle.ng_watch.specs.declared.watch.Watch.{Watch}
use Rattle.ng_watch.specs.declared.watch.WatchKind.{WatchKind}
use Rattle.ng_watch.specs.declared.watch.WatchKind.TheVariants as kinds
use Rattle.ng_watch.specs.declared.watched.Watched.{Watched}

-- a program that is watched over a scope, and what is kept of its value
pub record Watching : Type 0 where
  pub kind : WatchKind
  pub program : Trees
  pub one_time : Bool
  pub scope : ℕ

-- a watch with the snapshot that it has kept
pub record Watcher : Type 0 where
  pub watch : Watching
  pub kept : Option ViewTree

abbrev pub watching_of : Watch → Watching
watching_of w = record { kind = w.kind; program = program w.program; one_time = w.one_time; scope = w.scope.0 }

abbrev pub watcher_of : Watched → Watcher
watcher_of w = record { watch = watching_of w.watch; kept = option_map snap_of w.kept }

-- a two-way binding's isolate scope is one of so many objects
abbrev pub DestStands : ℕ → WatchKind → Type 0
DestStands count (kinds.TwoWay dest name) = dest.0 < count
DestStands count kind = Unit {0}

-- the objects that a watch names are among so many
abbrev pub WatchStands : ℕ → Watching → Type 0
WatchStands count w = (w.scope < count) × DestStands count w.kind

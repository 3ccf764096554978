-- What programs have left for the watchers to become is done, in order (API: `$rootScope.Scope`, `$watch`, `$destroy`).
use Rattle.std.specs.Prelude.{ℕ, Bool, true, false, List, [], ◌∷◌}
use Rattle.std.specs.List.{list_any}
use Rattle.ng_core.specs.State as act
use Rattle.ng_core.specs.State.{Change, adds, removes, leaves}
use Rattle.ng_base.specs.declared.path.Key.{Key}
use Rattle.ng_behaviour.specs.Scopes.{path_at, object_at}
use Rattle.ng_language.specs.declared.snapshots.SnapKind.{SnapKind}
use Rattle.ng_language.specs.declared.snapshots.SnapKind.TheVariants as snaps
use Rattle.ng_link.specs.Calls.{with_core, declared_at, undeclared_at, left_at}
use Rattle.ng_build.specs.Shape.{key_on}
use Rattle.ng_link.specs.State.{State, Listening}
use Rattle.ng_watch.specs.Seen.{Watching}
use Rattle.ng_watch.specs.declared.watch.WatchKind.{WatchKind}
use Rattle.ng_watch.specs.declared.watch.WatchKind.TheVariants as kinds

abbrev pub kind_of : SnapKind → WatchKind
kind_of snaps.Reference = kinds.Reference
kind_of snaps.Collection = kinds.Collection
kind_of snaps.Deep = kinds.Deep

-- the key of a number on a scope
abbrev pub key_in : State → ℕ → ℕ → Key
key_in s scope serial = key_on (path_at s.core.scopes scope) serial

-- a declared watch, over its scope's object
abbrev pub watching_in : State → act.Declared → Watching
watching_in s w = record { kind = kind_of w.kind; program = w.watched; one_time = false; scope = object_at s.core.scopes w.scope }

-- what it runs
abbrev pub listening_in : act.Declared → Listening
listening_in w = record { scope = w.scope; body = w.body }

-- one of the changes is done
abbrev pub applied : Change → State → State
applied (adds w) s = declared_at (key_in s w.scope w.serial) (watching_in s w) (listening_in w) s
applied (removes scope serial) s = undeclared_at (key_in s scope serial) s
applied (leaves scope) s = left_at (path_at s.core.scopes scope) s

abbrev pub applied_all : List Change → State → State
applied_all [] s = s
applied_all (c ∷ cs) s = applied_all cs (applied c s)

-- no change waits
abbrev pub without_changes : State → State
without_changes s = with_core (record s.core { changes = [] }) s

-- all changes that wait are done
abbrev pub changed : State → State
changed s = applied_all s.core.changes (without_changes s)

-- whether a change is a watcher more
abbrev pub is_addition : Change → Bool
is_addition (adds w) = true
is_addition (removes scope serial) = false
is_addition (leaves scope) = false

abbrev pub has_additions : List Change → Bool
has_additions cs = list_any is_addition cs

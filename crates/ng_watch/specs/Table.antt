-- The watchers of a page, in key order (guide: Scopes, "Scope Hierarchies").
use Rattle.std.specs.Prelude.{ℕ, not, List, [], ◌∷◌, map, find, slice_get, Option, None, option_map, option_and_then, if◌then◌else◌}
use Rattle.std.specs.List.{filter}
use Rattle.std.specs.Map.{lookup, remove_entry}
use Rattle.std.specs.Option.{ForSome}
use Rattle.std.specs.BTreeMap.{insert_entry}
use Rattle.ng_base.specs.Views.{ViewTree}
use Rattle.ng_base.specs.declared.path.Key.{Key}
use Rattle.ng_behaviour.specs.Keys.{key_cmp, is_key, is_above, begins}
use Rattle.ng_watch.specs.Seen.{Watching, Watcher, watcher_of, WatchStands}
use Rattle.ng_watch.specs.declared.watched.Watched.{Watched}

-- keys with their watchers
abbrev pub Table : Type 0
Table = List (Key × Watcher)

abbrev pub entry_of : Key × Watched → Key × Watcher
entry_of e = (e.0, watcher_of e.1)

-- what the list of the code stands for
abbrev pub watchers_of : List (Key × Watched) → Table
watchers_of rows = map entry_of rows

-- the watcher of a key
abbrev pub found : Key → Table → Option Watcher
found k t = lookup (is_key k) t

-- what the watcher of a key has kept
abbrev pub kept_at : Key → Table → Option ViewTree
kept_at k t = option_and_then (λ w. w.kept) (found k t)

-- a watch more, at the place of its key, which has kept nothing yet
abbrev pub with_watch : Key → Watching → Table → Table
with_watch k w t = insert_entry key_cmp t k (record { watch = w; kept = None })

-- without the watcher of a key
abbrev pub without_watch : Key → Table → Table
without_watch k t = remove_entry (is_key k) t

-- the watchers of a scope and of those below it
abbrev pub under : List ℕ → Table → Table
under p t = filter (λ e. begins p e.0.path) t

-- without the watchers of a scope and of those below it
abbrev pub without_under : List ℕ → Table → Table
without_under p t = filter (λ e. not (begins p e.0.path)) t

-- the least key
abbrev pub first_key : Table → Option Key
first_key t = option_map (λ e. e.0) (slice_get t 0)

-- the least key above one
abbrev pub key_after : Key → Table → Option Key
key_after k t = option_map (λ e. e.0) (find (λ e. is_above k e.0) t)

abbrev pub keeping : Option ViewTree → Watcher → Watcher
keeping s w = record { watch = w.watch; kept = s }

-- the watcher of a key keeps a snapshot, or none
abbrev pub with_kept : Key → Option ViewTree → Table → Table
with_kept k s [] = []
with_kept k s (e ∷ es) = if is_key k e.0 then (e.0, keeping s e.1) ∷ es else e ∷ with_kept k s es

-- the objects that the watchers name are among so many
abbrev pub AllStand : ℕ → Table → Type 0
AllStand count t = (k : Key) → ForSome (found k t) (λ w. WatchStands count w.watch)

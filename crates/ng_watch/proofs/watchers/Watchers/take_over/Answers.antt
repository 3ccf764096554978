use Rattle.std.proofs.Common.{ap, length, map, subst, sym, ◌∙◌}
use Rattle.std.specs.Prelude.{not}
use Rattle.std.specs.List.{AllByRecursion, filter}
use Rattle.std.specs.Map.{keys_of}
use Rattle.ng_base.specs.declared.path.Key.{Key}
use Rattle.ng_watch.specs.Chunks.{Rows}
use Rattle.ng_watch.specs.declared.watched.Watched.{Watched}
use Rattle.ng_watch.specs.Ended.{is_over}
use Rattle.ng_watch.specs.Seen.{watcher_of, watching_of, WatchStands}
use Rattle.ng_watch.specs.Table.{AllStand, entry_of, watchers_of}
use Rattle.ng_watch.proofs.Taking.{all_stand, seen_apart}
use Rattle.ng_watch.proofs.watchers.Watchers.take_over.Goals as goal

pub returns-clause-taken : goal.returns-clause-taken
returns-clause-taken c = seen_apart (λ e. is_over c.args.store.now e.1) c.self.inside.table _ (watchers_of c.args.self.now) (c.in_ok-rows.ensures.taken (λ e. is_over c.args.store.now (watcher_of e.1)) (c.deref.ensures.value ∙ c.in_ok-keys.ensures ∙ ap (λ (es : Rows). keys_of (filter (λ (e : Key × Watched). is_over c.args.store.now (watcher_of e.1)) es)) c.chunks.ensures.rows)).0 (ap (map entry_of) c.self.view_is)

pub returns-clause-removed : goal.returns-clause-removed
returns-clause-removed c = seen_apart (λ e. not (is_over c.args.store.now e.1)) c.self.inside.table _ (watchers_of c.args.self.now) (c.in_ok-rows.ensures.taken (λ e. is_over c.args.store.now (watcher_of e.1)) (c.deref.ensures.value ∙ c.in_ok-keys.ensures ∙ ap (λ (es : Rows). keys_of (filter (λ (e : Key × Watched). is_over c.args.store.now (watcher_of e.1)) es)) c.chunks.ensures.rows)).1 (ap (map entry_of) c.self.view_is)

pub keys_over-requires : goal.keys_over-requires
keys_over-requires c = subst (λ (es : Rows). AllByRecursion (λ (e : Key × Watched). WatchStands (length c.args.store.now) (watching_of e.1.watch)) es) (sym c.chunks.ensures.rows) (all_stand (length c.args.store.now) c.self.inside.table c.chunks.ensures.ordered (subst (AllStand (length c.args.store.now)) (sym (ap (map entry_of) c.self.view_is)) c.requires))

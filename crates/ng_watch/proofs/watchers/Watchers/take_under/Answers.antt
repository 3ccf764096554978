use Rattle.std.proofs.Common.{ap, map, subst, sym, ◌∙◌}
use Rattle.std.specs.Prelude.{not}
use Rattle.std.specs.List.{filter}
use Rattle.std.specs.List.Sorted.{IsStrictlySortedBy}
use Rattle.std.specs.Map.{keys_of}
use Rattle.ng_base.specs.declared.path.Key.{Key}
use Rattle.ng_watch.specs.Chunks.{Rows}
use Rattle.ng_watch.specs.declared.watched.Watched.{Watched}
use Rattle.ng_behaviour.specs.Keys.{begins, key_cmp}
use Rattle.ng_watch.specs.Table.{entry_of, watchers_of}
use Rattle.ng_watch.proofs.Taking.{seen_apart}
use Rattle.ng_watch.proofs.watchers.Watchers.take_under.Goals as goal

pub returns-clause-taken : goal.returns-clause-taken
returns-clause-taken c = seen_apart (λ e. begins c.args.p.now e.0.path) c.self.inside.table _ (watchers_of c.args.self.now) (c.in_ok-rows.ensures.taken (λ e. begins c.args.p.now e.0.path) (c.deref.ensures.value ∙ c.in_ok-keys.ensures ∙ ap (λ (es : Rows). keys_of (filter (λ (e : Key × Watched). begins c.args.p.now e.0.path) es)) c.chunks.ensures.rows)).0 (ap (map entry_of) c.self.view_is)

pub returns-clause-removed : goal.returns-clause-removed
returns-clause-removed c = seen_apart (λ e. not (begins c.args.p.now e.0.path)) c.self.inside.table _ (watchers_of c.args.self.now) (c.in_ok-rows.ensures.taken (λ e. begins c.args.p.now e.0.path) (c.deref.ensures.value ∙ c.in_ok-keys.ensures ∙ ap (λ (es : Rows). keys_of (filter (λ (e : Key × Watched). begins c.args.p.now e.0.path) es)) c.chunks.ensures.rows)).1 (ap (map entry_of) c.self.view_is)

pub keys_under-requires : goal.keys_under-requires
keys_under-requires c = subst (λ (es : Rows). IsStrictlySortedBy key_cmp (keys_of es)) (sym c.chunks.ensures.rows) c.chunks.ensures.ordered

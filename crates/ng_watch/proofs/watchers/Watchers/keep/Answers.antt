use Rattle.std.proofs.Common.{Some, ap, refl, option_map, map, sym, ◌∙◌}
use Rattle.ng_watch.specs.Seen.{Watcher, watcher_of}
use Rattle.ng_watch.specs.Table.{watchers_of, entry_of}
use Rattle.ng_watch.proofs.Tables.{there, never_none, none_kept, former-seen, kept_written}
use Rattle.ng_watch.proofs.watchers.Watchers.keep.Goals as goal

pub unreachable-requires : goal.unreachable-requires
unreachable-requires c = never_none watcher_of _ _ c.requires (there c.args.key.now c.self.inside.table (watchers_of c.args.self.now) _ refl (ap (map entry_of) c.self.view_is)) (none_kept _ (sym c.in-None.is ∙ c.set_kept.ensures.former))

pub returns-clause-former : goal.returns-clause-former
returns-clause-former c = ap (option_map (λ (w : Watcher). w.kept)) (there c.args.key.now c.self.inside.table (watchers_of c.args.self.now) _ refl (ap (map entry_of) c.self.view_is)) ∙ former-seen _ c.in-Some.former c.in-Some.ensures.former

pub returns-clause-kept : goal.returns-clause-kept
returns-clause-kept c = kept_written c.args.key.now (Some c.args.s) c.self.inside.table c.set_kept.new.self (watchers_of c.args.self.now) c.set_kept.ensures.kept (ap (map entry_of) c.self.view_is)

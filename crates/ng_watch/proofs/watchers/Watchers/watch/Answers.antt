use Rattle.std.proofs.Common.{◌∙◌, ap, option_map, map}
use Rattle.ng_watch.specs.Table.{watchers_of, entry_of}
use Rattle.std.specs.Option.{option_copied}
use Rattle.ng_watch.specs.Seen.{Watcher, watcher_of}
use Rattle.ng_watch.proofs.Tables.{there, never_none}
use Rattle.ng_watch.proofs.watchers.Watchers.watch.Goals as goal

pub unreachable-requires : goal.unreachable-requires
unreachable-requires c = never_none watcher_of _ _ c.requires (there c.args.key.now c.self.inside.table (watchers_of c.args.self.now) (option_copied c.get.result) c.get.ensures.value (ap (map entry_of) c.self.view_is)) (ap option_copied c.in-None.is)

pub returns : goal.returns
returns c = ap (option_map (λ (w : Watcher). w.watch)) (there c.args.key.now c.self.inside.table (watchers_of c.args.self.now) (option_copied c.get.result) c.get.ensures.value (ap (map entry_of) c.self.view_is) ∙ ap (λ r. option_map watcher_of (option_copied r)) c.in-Some.is)

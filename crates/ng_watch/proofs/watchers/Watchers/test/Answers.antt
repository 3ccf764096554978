use Rattle.std.proofs.Common.{◌∙◌, ap, map}
use Rattle.std.specs.Option.{option_copied, option_map}
use Rattle.ng_watch.specs.Seen.{watcher_of}
use Rattle.ng_watch.specs.Table.{watchers_of, entry_of}
use Rattle.ng_watch.proofs.Tables.{there, never_none}
use Rattle.ng_watch.proofs.watchers.Watchers.test.Goals as goal

pub unreachable-requires : goal.unreachable-requires
unreachable-requires c = never_none watcher_of _ _ c.requires.there (there c.args.key.now c.self.inside.table (watchers_of c.args.self.now) (option_copied c.get.result) c.get.ensures.value (ap (map entry_of) c.self.view_is)) (ap option_copied c.in-None.is)

pub verdict-requires : goal.verdict-requires
verdict-requires c = c.requires.stands (watcher_of c.in-Some.watched.now) (there c.args.key.now c.self.inside.table (watchers_of c.args.self.now) (option_copied c.get.result) c.get.ensures.value (ap (map entry_of) c.self.view_is) ∙ ap (λ r. option_map watcher_of (option_copied r)) c.in-Some.is)

pub returns : goal.returns
returns c =
    let t = there c.args.key.now c.self.inside.table (watchers_of c.args.self.now) (option_copied c.get.result) c.get.ensures.value (ap (map entry_of) c.self.view_is) ∙ ap (λ r. option_map watcher_of (option_copied r)) c.in-Some.is in
    rw t c.verdict.ensures

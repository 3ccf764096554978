use Rattle.std.proofs.Common.{◌∙◌, ap, sym, option_map, map}
use Rattle.std.specs.Prelude.{is_some}
use Rattle.ng_watch.specs.Table.{watchers_of, entry_of}
use Rattle.std.specs.Option.{option_copied}
use Rattle.ng_watch.specs.Seen.{watcher_of}
use Rattle.ng_watch.proofs.Tables.{there}
use Rattle.ng_watch.proofs.watchers.Watchers.has.Goals as goal

pub returns-in-None : goal.returns-in-None
returns-in-None c =
    sym (ap is_some (there c.args.key.now c.self.inside.table (watchers_of c.args.self.now) (option_copied c.get.result) c.get.ensures.value (ap (map entry_of) c.self.view_is) ∙ ap (λ r. option_map watcher_of (option_copied r)) c.in-None.is))

pub returns-in-Some : goal.returns-in-Some
returns-in-Some c =
    sym (ap is_some (there c.args.key.now c.self.inside.table (watchers_of c.args.self.now) (option_copied c.get.result) c.get.ensures.value (ap (map entry_of) c.self.view_is) ∙ ap (λ r. option_map watcher_of (option_copied r)) c.in-Some.is))

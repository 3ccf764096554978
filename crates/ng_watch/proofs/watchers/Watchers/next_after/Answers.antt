use Rattle.std.proofs.Common.{ap, map, ◌∙◌}
use Rattle.ng_watch.specs.Table.{watchers_of, entry_of}
use Rattle.ng_watch.proofs.Tables.{after_all, key_next}
use Rattle.ng_watch.proofs.watchers.Watchers.next_after.Goals as goal

pub returns-clause-key : goal.returns-clause-key
returns-clause-key c = c.next_after.ensures ∙ key_next c.args.key.now c.self.inside.table (watchers_of c.args.self.now) (ap (map entry_of) c.self.view_is)

pub returns-clause-there : goal.returns-clause-there
returns-clause-there c = after_all c.args.key.now c.next_after.result (watchers_of c.args.self.now) (c.next_after.ensures ∙ key_next c.args.key.now c.self.inside.table (watchers_of c.args.self.now) (ap (map entry_of) c.self.view_is))

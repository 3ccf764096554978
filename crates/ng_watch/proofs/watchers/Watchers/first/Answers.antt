use Rattle.std.proofs.Common.{ap, map, ◌∙◌}
use Rattle.ng_watch.specs.Table.{watchers_of, entry_of}
use Rattle.ng_watch.proofs.Tables.{first_all, key_first}
use Rattle.ng_watch.proofs.watchers.Watchers.first.Goals as goal

pub returns-clause-key : goal.returns-clause-key
returns-clause-key c = c.first.ensures ∙ key_first c.self.inside.table (watchers_of c.args.self.now) (ap (map entry_of) c.self.view_is)

pub returns-clause-there : goal.returns-clause-there
returns-clause-there c = first_all c.first.result (watchers_of c.args.self.now) (c.first.ensures ∙ key_first c.self.inside.table (watchers_of c.args.self.now) (ap (map entry_of) c.self.view_is))

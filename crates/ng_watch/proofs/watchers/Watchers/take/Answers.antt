use Rattle.std.proofs.Common.{ap, sym, map}
use Rattle.ng_watch.specs.Table.{watchers_of, entry_of}
use Rattle.ng_watch.proofs.Tables.{removed, there}
use Rattle.ng_watch.proofs.watchers.Watchers.take.Goals as goal

pub returns-clause-taken : goal.returns-clause-taken
returns-clause-taken c = sym (there c.args.key.now c.self.inside.table (watchers_of c.args.self.now) c.remove.result c.remove.ensures.value (ap (map entry_of) c.self.view_is))

pub returns-clause-removed : goal.returns-clause-removed
returns-clause-removed c = removed c.args.key.now c.self.inside.table c.remove.new.self (watchers_of c.args.self.now) c.remove.ensures.entries (ap (map entry_of) c.self.view_is)

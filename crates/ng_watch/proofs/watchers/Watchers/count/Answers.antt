use Rattle.std.proofs.Common.{ap, map}
use Rattle.ng_watch.specs.Table.{watchers_of, entry_of}
use Rattle.ng_watch.proofs.Tables.{ordered_keys}
use Rattle.ng_watch.proofs.watchers.Watchers.count.Goals as goal

pub returns-clause-ordered : goal.returns-clause-ordered
returns-clause-ordered c = ordered_keys c.self.inside.table (watchers_of c.args.self.now) c.len.ensures.ordered (ap (map entry_of) c.self.view_is)

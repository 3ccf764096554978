use Rattle.std.proofs.Common.{ap, map}
use Rattle.ng_watch.specs.Table.{watchers_of, entry_of}
use Rattle.ng_watch.proofs.Tables.{added}
use Rattle.ng_watch.proofs.watchers.Watchers.add.Goals as goal

pub returns-clause-added : goal.returns-clause-added
returns-clause-added c = added c.args.key c.args.w c.self.inside.table c.insert.new.self (watchers_of c.args.self.now) c.in_ok-insert.ensures.ok (ap (map entry_of) c.self.view_is)

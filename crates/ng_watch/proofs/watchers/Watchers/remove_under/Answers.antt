use Rattle.std.proofs.Common.{ap, map}
use Rattle.ng_watch.specs.Table.{watchers_of, entry_of}
use Rattle.ng_watch.proofs.Tables.{kept_apart}
use Rattle.ng_watch.proofs.watchers.Watchers.remove_under.Goals as goal

pub returns : goal.returns
returns c = kept_apart c.args.p.now c.self.inside.table c.remove_under.new.self (watchers_of c.args.self.now) c.remove_under.ensures (ap (map entry_of) c.self.view_is)

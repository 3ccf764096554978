use Rattle.std.proofs.Common.{None, ap, map}
use Rattle.ng_watch.specs.Table.{watchers_of, entry_of}
use Rattle.ng_watch.proofs.Tables.{kept_written}
use Rattle.ng_watch.proofs.watchers.Watchers.unset.Goals as goal

pub returns : goal.returns
returns c = kept_written c.args.key.now None c.self.inside.table c.set_kept-former.new.self (watchers_of c.args.self.now) c.set_kept-former.ensures.kept (ap (map entry_of) c.self.view_is)

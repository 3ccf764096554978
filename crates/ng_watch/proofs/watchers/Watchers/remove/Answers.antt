use Rattle.std.proofs.Common.{◌∙◌, ap, sym, is_some, map}
use Rattle.ng_watch.specs.Table.{watchers_of, entry_of}
use Rattle.ng_watch.proofs.Tables.{removed, there, seen-some}
use Rattle.ng_watch.proofs.watchers.Watchers.remove.Goals as goal

pub returns-clause-there : goal.returns-clause-there
returns-clause-there c = c.is_some.ensures ∙ sym (ap is_some (there c.args.key.now c.self.inside.table (watchers_of c.args.self.now) c.remove.result c.remove.ensures.value (ap (map entry_of) c.self.view_is)) ∙ seen-some c.remove.result)

pub returns-clause-removed : goal.returns-clause-removed
returns-clause-removed c = removed c.args.key.now c.self.inside.table c.remove.new.self (watchers_of c.args.self.now) c.remove.ensures.entries (ap (map entry_of) c.self.view_is)

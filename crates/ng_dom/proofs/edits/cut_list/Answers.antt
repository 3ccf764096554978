use Rattle.std.proofs.Common.{rules}
use Rattle.ng_dom.proofs.Places.{cut_past}
use Rattle.ng_dom.proofs.edits.cut_list.Goals as goal

pub returns-else-i-len : goal.returns-else-i-len
returns-else-i-len c = cut_past (λ g. g.items) c.args.i c.args.groups.now.items (search rules)

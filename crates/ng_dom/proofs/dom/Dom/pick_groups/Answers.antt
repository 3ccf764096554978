use Rattle.std.proofs.Common.{sym}
use Rattle.ng_dom.specs.Document.{rooms}
use Rattle.ng_dom.proofs.Groups.{groups_picked}
use Rattle.ng_dom.proofs.dom.Dom.pick_groups.Goals as goal

pub returns-clause-reads : goal.returns-clause-reads
returns-clause-reads c = groups_picked (rooms c.args.self.now) _ c.args.anchor.made.0 c.args.order.now (rw (sym c.as_slice.ensures) c.in_ok-pick_groups.ensures.rooms)

use Rattle.ng_dom.specs.Kept.{rooms_of}
use Rattle.ng_dom.proofs.Removing.{taking_start, loses_none}
use Rattle.ng_dom.proofs.removal.take_away.Goals as goal

pub loop-n-init : goal.loop-n-init
loop-n-init c = record { taking = taking_start c.args.names.items (rooms_of c.args.nodes.now); loses = loses_none c.args.nodes.now }

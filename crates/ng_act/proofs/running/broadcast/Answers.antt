use Rattle.std.proofs.Common.{length}
use Rattle.ng_act.proofs.Values.{values_stand}
use Rattle.ng_act.proofs.running.broadcast.Goals as goal

pub broadcast_views-end-requires-clause-args : goal.broadcast_views-end-requires-clause-args
broadcast_views-end-requires-clause-args c = rw c.in-Ok.ensures (values_stand (length c.args.core.now.store) c.args.args.now c.requires.args)

pub returns-clause-stands : goal.returns-clause-stands
returns-clause-stands c = c.answered.ensures.stands (length c.broadcast_views-end.new.core.store) c.broadcast_views-end.ensures.stands

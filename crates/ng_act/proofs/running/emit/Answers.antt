use Rattle.std.proofs.Common.{length}
use Rattle.ng_act.proofs.Values.{values_stand}
use Rattle.ng_act.proofs.running.emit.Goals as goal

pub emit_views-end-requires-clause-args : goal.emit_views-end-requires-clause-args
emit_views-end-requires-clause-args c = rw c.in-Ok.ensures (values_stand (length c.args.core.now.store) c.args.args.now c.requires.args)

pub returns-clause-stands : goal.returns-clause-stands
returns-clause-stands c = c.answered.ensures.stands (length c.emit_views-end.new.core.store) c.emit_views-end.ensures.stands

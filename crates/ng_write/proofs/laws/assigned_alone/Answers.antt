use Rattle.ng_write.proofs.Only.{only_object}
use Rattle.ng_write.proofs.laws.assigned_alone.Goals as goal

pub returns : goal.returns
returns c = only_object c.args.store.now c.args.o.0 c.args.name.now c.args.v.now

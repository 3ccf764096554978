use Rattle.ng_write.proofs.ReadBack.{read_back}
use Rattle.ng_write.proofs.laws.assigned_reads.Goals as goal

pub returns : goal.returns
returns c = read_back c.args.store.now c.args.o c.args.name.now c.args.v.now c.requires.object c.requires.done

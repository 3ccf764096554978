use Rattle.ng_base.specs.ViewOf.{view_of}
use Rattle.ng_write.proofs.Read.{stored_reads}
use Rattle.ng_write.proofs.laws.stored_reads.Goals as goal

pub returns : goal.returns
returns c = stored_reads (view_of c.args.view.now) c.args.store.now c.args.after.now c.args.v.now c.requires

use Rattle.ng_base.specs.ViewOf.{view_of}
use Rattle.ng_write.proofs.Extending.{stored_extends}
use Rattle.ng_write.proofs.laws.stored_behind.Goals as goal

pub returns : goal.returns
returns c = stored_extends (view_of c.args.view.now) c.args.store.now

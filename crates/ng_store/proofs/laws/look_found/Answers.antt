use Rattle.ng_store.proofs.Kept.{looks_own}
use Rattle.ng_store.proofs.laws.look_found.Goals as goal

pub returns : goal.returns
returns c = looks_own c.args.store.now c.args.name.now c.args.o.0 c.requires

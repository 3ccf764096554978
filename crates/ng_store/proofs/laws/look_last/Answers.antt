use Rattle.ng_store.proofs.Looks.{looks_last}
use Rattle.ng_store.proofs.laws.look_last.Goals as goal

pub returns : goal.returns
returns c = looks_last c.args.store.now c.args.name.now c.args.o.0 c.requires.missing c.requires.last

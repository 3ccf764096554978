use Rattle.ng_store.proofs.Looks.{looks_up}
use Rattle.ng_store.proofs.laws.look_up.Goals as goal

pub returns : goal.returns
returns c = looks_up c.args.store.now c.args.name.now c.args.o.0 c.args.p.0 c.sound.ensures c.requires.stands c.requires.missing c.requires.prototype

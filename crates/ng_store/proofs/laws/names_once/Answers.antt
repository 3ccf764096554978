use Rattle.ng_store.proofs.Indices.{names_once}
use Rattle.ng_store.proofs.ObjectReads.{object_is}
use Rattle.ng_base.specs.Objects.{object_at}
use Rattle.ng_store.proofs.laws.names_once.Goals as goal

pub returns : goal.returns
returns c =
    let x = object_is c.args.store.now c.args.o.0 c.requires.stands c.sound.ensures in
    record { same = names_once (object_at c.args.store.now c.args.o.0) c.requires.plain x.distinct; distinct = x.distinct }

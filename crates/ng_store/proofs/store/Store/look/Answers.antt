use Rattle.ng_store.proofs.Looks.{look_stands}
use Rattle.ng_store.proofs.store.Store.look.Goals as goal

pub returns-clause-stands : goal.returns-clause-stands
returns-clause-stands c =
    look_stands c.self.inside.objects.items c.args.self.now c.args.o.0 c.args.name.now c.look.result c.self.view_is c.self.invariant c.requires (rw c.as_slice.ensures.value at c.look.ensures)

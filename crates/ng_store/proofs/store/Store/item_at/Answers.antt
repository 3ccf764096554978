use Rattle.ng_store.proofs.Looks.{item_stands}
use Rattle.ng_store.proofs.store.Store.item_at.Goals as goal

pub returns-clause-stands : goal.returns-clause-stands
returns-clause-stands c =
    item_stands c.self.inside.objects.items c.args.self.now c.args.o.0 c.args.i c.item.result.now
    (c.self.view_is, c.self.invariant) c.requires.object (rw c.as_slice.ensures.value at c.item.ensures)

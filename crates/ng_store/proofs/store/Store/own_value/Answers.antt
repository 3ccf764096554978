use Rattle.ng_store.proofs.Looks.{own_is_standing}
use Rattle.ng_store.proofs.store.Store.own_value.Goals as goal

pub returns-clause-stands : goal.returns-clause-stands
returns-clause-stands c =
    own_is_standing c.self.inside.objects.items c.args.self.now c.args.o.0 c.args.name.now c.own.result
    (c.self.view_is, c.self.invariant) c.requires (rw c.as_slice.ensures.value at c.own.ensures)

use Rattle.ng_store.proofs.Looks.{few_at}
use Rattle.ng_store.proofs.store.Store.names_in.Goals as goal

pub names-requires-clause-few : goal.names-requires-clause-few
names-requires-clause-few c =
    rw c.as_slice.ensures.value (few_at c.self.inside.objects.items c.args.self.now c.args.o.0 (c.self.view_is, c.self.invariant) c.requires)

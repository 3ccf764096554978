use Rattle.ng_store.proofs.Looks.{few_at}
use Rattle.ng_store.proofs.store.Store.length.Goals as goal

pub len-requires-clause-few : goal.len-requires-clause-few
len-requires-clause-few c =
    rw c.as_slice.ensures.value (few_at c.self.inside.objects.items c.args.self.now c.args.o.0 (c.self.view_is, c.self.invariant) c.requires)

use Rattle.ng_language.specs.Objects.{items_at}
use Rattle.ng_members.proofs.Places.{get-prims}
use Rattle.ng_members.proofs.items.stored_item.Goals as goal

pub returns-clause-item : goal.returns-clause-item
returns-clause-item c = get-prims (items_at c.args.store.now c.args.o.0) c.args.i c.item.result.now c.item.ensures.item

use Rattle.std.proofs.Common.{ap}
use Rattle.ng_language.specs.Objects.{with_items}
use Rattle.ng_store.proofs.Kept.{other_object, changed_object}
use Rattle.ng_store.proofs.laws.items_keep.Goals as goal

pub returns : goal.returns
returns c = record {
  objects = other_object c.args.store.now c.args.o.0 c.args.q.0 (with_items c.args.items.now);
  items = ap (λ x. x.items) (changed_object c.args.store.now c.args.o.0 (with_items c.args.items.now) c.requires);
}

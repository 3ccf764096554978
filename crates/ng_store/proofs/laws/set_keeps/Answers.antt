use Rattle.ng_language.specs.Objects.{with_property}
use Rattle.ng_store.proofs.Kept.{other_object, other_name, set_value_is}
use Rattle.ng_store.proofs.laws.set_keeps.Goals as goal

pub returns : goal.returns
returns c = record {
  objects = other_object c.args.store.now c.args.o.0 c.args.q.0 (with_property c.args.name.now c.args.v.now);
  names = other_name c.args.store.now c.args.o.0 c.args.name.now c.args.other.now c.args.v.now c.requires;
  value = set_value_is c.args.store.now c.args.o.0 c.args.name.now c.args.v.now c.requires;
}

use Rattle.std.proofs.Common.{◌-◌, ap, arith, option_map, length, take, List}
use Rattle.ng_base.specs.Objects.{Object}
use Rattle.ng_base.specs.declared.name.Oid.{Oid}
use Rattle.ng_base.specs.declared.value.Value.{Value}
use Rattle.ng_store.specs.ObjectOf.{properties_of}
use Rattle.ng_store.proofs.ObjectReads.{items_changed}
use Rattle.ng_store.proofs.arrays.pop.Goals as goal

pub returns-clause-popped : goal.returns-clause-popped
returns-clause-popped c =
    let s = c.index_mut-stored.result.now in
    items_changed c.args.objects.now.items c.args.o.0 s _ (λ (vs : List Value). take (length vs - 1) vs) (grind arith) c.index_mut-stored.ensures.value
    (ap (λ vs. let o : Object = record { kind = s.kind; proto = option_map (λ (q : Oid). q.0) s.proto; items = vs; properties = properties_of s.properties } in o) c.pop_item.ensures.popped)

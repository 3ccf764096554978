use Rattle.std.proofs.Common.{ap, arith, option_map, drop, List}
use Rattle.ng_base.specs.Objects.{Object}
use Rattle.ng_base.specs.declared.name.Oid.{Oid}
use Rattle.ng_base.specs.declared.value.Value.{Value}
use Rattle.ng_store.specs.ObjectOf.{properties_of}
use Rattle.ng_store.proofs.ObjectReads.{items_changed}
use Rattle.ng_store.proofs.arrays.shift.Goals as goal

pub returns-clause-shifted : goal.returns-clause-shifted
returns-clause-shifted c =
    let s = c.index_mut-stored.result.now in
    items_changed c.args.objects.now.items c.args.o.0 s _ (λ (vs : List Value). drop 1 vs) (grind arith) c.index_mut-stored.ensures.value
    (ap (λ vs. let o : Object = record { kind = s.kind; proto = option_map (λ (q : Oid). q.0) s.proto; items = vs; properties = properties_of s.properties } in o) c.shift_item.ensures.shifted)

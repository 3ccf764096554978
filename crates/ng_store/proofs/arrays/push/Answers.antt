use Rattle.std.proofs.Common.{◌∙◌, ◌++◌, ◌∷◌, [], ap, arith, option_map, List}
use Rattle.ng_base.specs.Objects.{Object}
use Rattle.ng_base.specs.declared.name.Oid.{Oid}
use Rattle.ng_base.specs.declared.value.Value.{Value}
use Rattle.ng_store.specs.ObjectOf.{object_of, properties_of}
use Rattle.ng_store.proofs.ObjectReads.{items_changed}
use Rattle.ng_store.proofs.Changes.{objects_of-set_same, at_error}
use Rattle.ng_store.proofs.arrays.push.Goals as goal

pub returns-clause-pushed : goal.returns-clause-pushed
returns-clause-pushed c =
    let s = c.index_mut-stored.result.now in
    items_changed c.args.objects.now.items c.args.o.0 s _ (λ (vs : List Value). vs ++ c.args.v ∷ []) (grind arith) c.index_mut-stored.ensures.value
    (ap (λ vs. let o : Object = record { kind = s.kind; proto = option_map (λ (q : Oid). q.0) s.proto; items = vs; properties = properties_of s.properties } in o) c.in_ok-push.ensures.items)

pub returns-in_err-push-clause-unchanged : goal.returns-in_err-push-clause-unchanged
returns-in_err-push-clause-unchanged c =
    let s = c.index_mut-stored.result.now in
    at_error _ _
    (objects_of-set_same c.args.objects.now.items c.args.o.0 s _ (grind arith)
    (ap (λ vs. let o : Object = record { kind = s.kind; proto = option_map (λ (q : Oid). q.0) s.proto; items = vs; properties = properties_of s.properties } in o) c.in_err-push.ensures.items
    ∙ ap object_of c.index_mut-stored.ensures.value))

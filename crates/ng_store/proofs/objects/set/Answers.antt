use Rattle.std.proofs.Common.{◌∙◌, ap, arith, option_map}
use Rattle.ng_base.specs.Objects.{Object}
use Rattle.ng_base.specs.declared.name.Oid.{Oid}
use Rattle.ng_language.specs.Objects.{with_property}
use Rattle.ng_store.specs.ObjectOf.{object_of}
use Rattle.ng_store.proofs.Changes.{objects_of-set, objects_of-set_same, at_error}
use Rattle.ng_store.proofs.objects.set.Goals as goal

pub returns-clause-ok : goal.returns-clause-ok
returns-clause-ok c =
    let s = c.index_mut-stored.result.now in
    objects_of-set c.args.objects.now.items c.args.o.0 s _ (with_property c.args.name.now c.args.v) (grind arith)
    (ap (λ ps. let o : Object = record { kind = s.kind; proto = option_map (λ (q : Oid). q.0) s.proto; items = s.items.items; properties = ps } in o) c.in_ok-put.ensures.ok
    ∙ ap (λ x. with_property c.args.name.now c.args.v (object_of x)) c.index_mut-stored.ensures.value)

pub returns-in_err-put-clause-err : goal.returns-in_err-put-clause-err
returns-in_err-put-clause-err c =
    let s = c.index_mut-stored.result.now in
    at_error _ _
    (objects_of-set_same c.args.objects.now.items c.args.o.0 s _ (grind arith)
    (ap (λ ps. let o : Object = record { kind = s.kind; proto = option_map (λ (q : Oid). q.0) s.proto; items = s.items.items; properties = ps } in o) c.in_err-put.ensures.err
    ∙ ap object_of c.index_mut-stored.ensures.value))

use Rattle.std.proofs.Common.{◌≡◌, ◌<◌, ◌∙◌, sym, ap, arith, rules, None, Some, option_map, length}
use Rattle.ng_base.specs.Objects.{own, own_of}
use Rattle.ng_base.specs.declared.name.Oid.{Oid}
use Rattle.ng_language.specs.Objects.{proto_of}
use Rattle.ng_store.specs.ObjectOf.{object_of, objects_of}
use Rattle.ng_store.proofs.Looks.{looks_up, earlier}
use Rattle.ng_store.proofs.ObjectReads.{stored_at, length-objects_of}
use Rattle.ng_store.proofs.objects.look.Goals as goal

pub prototypes-smaller : goal.prototypes-smaller
prototypes-smaller c =
    let at = stored_at c.args.objects.now c.prototypes.at c.index-objects-at.result c.prototypes.invariant.within c.index-objects-at.is in
    let up : proto_of (objects_of c.args.objects.now) c.prototypes.at ≡ Some c.in-Some-proto.p.0 = ap (λ x. x.proto) at ∙ ap (option_map (λ (o : Oid). o.0)) c.in-Some-proto.is in
    earlier (objects_of c.args.objects.now) c.prototypes.at c.in-Some-proto.p.0 c.requires.sound (omega (arith, c.prototypes.invariant.within, length-objects_of c.args.objects.now)) up

pub prototypes-preserved : goal.prototypes-preserved
prototypes-preserved c =
    let at = stored_at c.args.objects.now c.prototypes.at c.index-objects-at.result c.prototypes.invariant.within c.index-objects-at.is in
    let w : c.prototypes.at < length (objects_of c.args.objects.now) = omega (arith, c.prototypes.invariant.within, length-objects_of c.args.objects.now) in
    let up : proto_of (objects_of c.args.objects.now) c.prototypes.at ≡ Some c.in-Some-proto.p.0 = ap (λ x. x.proto) at ∙ ap (option_map (λ (o : Oid). o.0)) c.in-Some-proto.is in
    let miss : own_of (object_of c.index-objects-at.result) c.args.name.now ≡ None = search rules in
    let none : own (objects_of c.args.objects.now) c.prototypes.at c.args.name.now ≡ None = ap (λ x. own_of x c.args.name.now) at ∙ miss in
    let below = earlier (objects_of c.args.objects.now) c.prototypes.at c.in-Some-proto.p.0 c.requires.sound w up in
    record {
      within = omega (arith, c.prototypes.invariant.within);
      same = sym (looks_up (objects_of c.args.objects.now) c.args.name.now c.prototypes.at c.in-Some-proto.p.0 c.requires.sound w none up) ∙ c.prototypes.invariant.same;
    }

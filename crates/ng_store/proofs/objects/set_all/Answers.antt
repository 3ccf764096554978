use Rattle.std.proofs.Common.{◌≡◌, ◌<◌, ◌∙◌, List, length, sym, ap, subst, arith}
use Rattle.std.proofs.lemmas.Result.{on_ok_weaker}
use Rattle.ng_base.specs.Objects.{Object, object_at}
use Rattle.ng_language.specs.Objects.{AreObjects}
use Rattle.ng_store.specs.ObjectOf.{object_of, objects_of, properties_of}
use Rattle.ng_store.specs.SetNames.{put_names, StaySound}
use Rattle.ng_store.specs.declared.stored.Stored.{Stored}
use Rattle.ng_store.proofs.Changes.{objects_of-set}
use Rattle.ng_store.proofs.NamesSet.{holding, with_all, all_set, sound_holding}
use Rattle.ng_store.proofs.ObjectReads.{stored_at, length-objects_of}
use Rattle.ng_store.proofs.Sound.{Property}
use Rattle.ng_store.proofs.objects.set_all.Goals as goal

pub returns-clause-ok : goal.returns-clause-ok
returns-clause-ok c =
    let s = c.index_mut-object.result.now in
    let xs = c.args.objects.now.items in
    let o = c.args.o.0 in
    let ns = c.args.names.now in
    let vs = c.args.values.now in
    let w : o < length xs = grind arith in
    let x : Stored = record { kind = s.kind; proto = s.proto; items = s.items; properties = c.put_all.new.self } in
    on_ok_weaker c.put_all.result
    (λ (put : properties_of c.put_all.new.self ≡ put_names (properties_of s.properties) ns vs).
    objects_of-set xs o s x (with_all ns vs) w
    (ap (λ (ps : List Property). holding ps (object_of s)) put ∙ ap (λ (y : Stored). with_all ns vs (object_of y)) c.index_mut-object.ensures.value)
    ∙ sym (all_set (objects_of xs) o ns vs))
    c.put_all.ensures.ok

pub returns-clause-sound : goal.returns-clause-sound
returns-clause-sound c = λ stand are.
    let s = c.index_mut-object.result.now in
    let xs = c.args.objects.now.items in
    let o = c.args.o.0 in
    let vs = c.args.values.now in
    let ps = properties_of c.put_all.new.self in
    let w : o < length xs = grind arith in
    let w2 : o < length (objects_of xs) = omega (arith, w, length-objects_of xs) in
    let x : Stored = record { kind = s.kind; proto = s.proto; items = s.items; properties = c.put_all.new.self } in
    let at : object_at (objects_of xs) o ≡ object_of s = stored_at xs o s w c.index_mut-object.ensures.value in
    let stay : StaySound vs (object_at (objects_of xs) o).properties ps = subst (λ (y : Object). StaySound vs y.properties ps) (sym at) c.put_all.ensures.sound in
    let changed = objects_of-set xs o s x (holding ps) w (ap (λ (y : Stored). holding ps (object_of y)) c.index_mut-object.ensures.value) in
    subst AreObjects (sym changed) (sound_holding (objects_of xs) o vs ps w2 stand stay are)

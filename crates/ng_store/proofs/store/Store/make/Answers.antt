use Rattle.std.proofs.Common.{◌≡◌, ◌<◌, sym, ap, subst, List, length, option_map, Option, ℕ}
use Rattle.std.specs.Option.{IfSome}
use Rattle.ng_base.specs.Objects.{Object}
use Rattle.ng_base.specs.declared.name.Oid.{Oid}
use Rattle.ng_language.specs.Objects.{new_object}
use Rattle.ng_store.specs.ObjectOf.{objects_of}
use Rattle.ng_store.proofs.ObjectReads.{objects_of-push}
use Rattle.ng_store.proofs.Sound.{sound_behind, is_new_object, proto_stands}
use Rattle.ng_store.proofs.store.Store.make.Goals as goal

pub invariant_of-self-2 : goal.invariant_of-self-2
invariant_of-self-2 c =
    let old : List Object = objects_of c.self.inside.objects.items in
    let proto : Option ℕ = option_map (λ (p : Oid). p.0) c.args.proto in
    let x : Object = new_object c.args.kind proto in
    let n : length c.args.self.now ≡ length old = ap length (sym c.self.view_is) in
    let stands : IfSome proto (λ p. p < length old) = subst (λ k. IfSome proto (λ p. p < k)) n (proto_stands (length c.args.self.now) c.args.proto c.requires) in
    rw (c.in_ok-push.ensures.items, objects_of-push)
    (rw (c.new-2.ensures.items, c.in_ok-properties.ensures)
    (sound_behind old x c.self.invariant (is_new_object (length old) c.args.kind proto stands)))

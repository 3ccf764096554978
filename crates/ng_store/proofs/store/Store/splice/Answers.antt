use Rattle.std.proofs.Common.{◌≡◌, ◌<◌, ◌≤◌, ◌+◌, sym, ap, subst, List, length}
use Rattle.ng_base.specs.Objects.{Object}
use Rattle.ng_language.specs.Objects.{AreObjects, items_at}
use Rattle.ng_store.specs.ObjectOf.{objects_of}
use Rattle.ng_store.proofs.ArraySound.{AllStand, are_items, sound_items, kept_short, kept_value, items_spliced, range_stands, length-set_items}
use Rattle.ng_store.proofs.store.Store.splice.Goals as goal

pub invariant_of-self-2 : goal.invariant_of-self-2
invariant_of-self-2 c =
    let old : List Object = objects_of c.self.inside.objects.items in
    let n : length c.args.self.now ≡ length old = ap length (sym c.self.view_is) in
    let w : c.args.o.0 < length old = subst (λ k. c.args.o.0 < k) n c.requires.object in
    let items = are_items old c.args.o.0 w c.self.invariant in
    let stands : AllStand (length old) c.args.new.now = subst (λ k. AllStand k c.args.new.now) n c.requires.stands in
    let within : c.args.from + c.args.count ≤ length (items_at old c.args.o.0) = rw c.self.view_is c.requires.within in
    subst AreObjects (sym c.in_ok-taken.ensures.spliced)
    (sound_items old c.args.o.0 _ c.self.invariant
    (items_spliced (length old) c.args.from c.args.count (items_at old c.args.o.0) c.args.new.now within (kept_short _ _ _ c.in_ok-taken.ensures.taken) items.stand stands))

pub returns-clause-stands : goal.returns-clause-stands
returns-clause-stands c =
    let old : List Object = objects_of c.self.inside.objects.items in
    let n : length c.args.self.now ≡ length old = ap length (sym c.self.view_is) in
    let w : c.args.o.0 < length old = subst (λ k. c.args.o.0 < k) n c.requires.object in
    let items = are_items old c.args.o.0 w c.self.invariant in
    rw (c.in_ok-taken.ensures.spliced, length-set_items)
    (subst (AllStand (length old)) (kept_value _ _ _ c.in_ok-taken.ensures.taken) (range_stands (length old) c.args.from (c.args.from + c.args.count) (items_at old c.args.o.0) items.stand))

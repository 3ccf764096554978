use Rattle.std.proofs.Common.{◌≡◌, ◌<◌, sym, ap, subst, List, length}
use Rattle.ng_base.specs.Objects.{Object, StandsAmong}
use Rattle.ng_language.specs.Objects.{AreObjects, items_at}
use Rattle.ng_store.specs.ObjectOf.{objects_of}
use Rattle.ng_store.proofs.ArraySound.{are_items, sound_items, kept_short, items_pushed}
use Rattle.ng_store.proofs.store.Store.push.Goals as goal

pub invariant_of-self-2 : goal.invariant_of-self-2
invariant_of-self-2 c =
    let old : List Object = objects_of c.self.inside.objects.items in
    let n : length c.args.self.now ≡ length old = ap length (sym c.self.view_is) in
    let w : c.args.o.0 < length old = subst (λ k. c.args.o.0 < k) n c.requires.object in
    let items = are_items old c.args.o.0 w c.self.invariant in
    let stands : StandsAmong (length old) c.args.v = subst (λ k. StandsAmong k c.args.v) n c.requires.stands in
    subst AreObjects (sym c.in_ok-count.ensures.pushed)
    (sound_items old c.args.o.0 _ c.self.invariant
    (items_pushed (length old) (items_at old c.args.o.0) c.args.v (kept_short _ _ _ c.in_ok-count.ensures.length) items.stand stands))

use Rattle.std.proofs.Common.{◌≡◌, ◌<◌, sym, ap, subst, List, length}
use Rattle.ng_base.specs.Objects.{Object}
use Rattle.ng_language.specs.Objects.{AreObjects, items_at}
use Rattle.ng_store.specs.ObjectOf.{objects_of}
use Rattle.ng_store.proofs.ArraySound.{are_items, sound_items, items_reversed}
use Rattle.ng_store.proofs.store.Store.reverse.Goals as goal

pub invariant_of-self : goal.invariant_of-self
invariant_of-self c =
    let old : List Object = objects_of c.self.inside.objects.items in
    let n : length c.args.self.now ≡ length old = ap length (sym c.self.view_is) in
    let w : c.args.o.0 < length old = subst (λ k. c.args.o.0 < k) n c.requires in
    let items = are_items old c.args.o.0 w c.self.invariant in
    subst AreObjects (sym c.reverse.ensures) (sound_items old c.args.o.0 _ c.self.invariant (items_reversed (length old) (items_at old c.args.o.0) items))

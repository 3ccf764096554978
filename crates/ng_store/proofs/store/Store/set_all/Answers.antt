use Rattle.std.proofs.Common.{◌≡◌, sym, ap, subst, List, length}
use Rattle.std.specs.List.{AllByRecursion}
use Rattle.ng_base.specs.Objects.{Object, StandsAmong}
use Rattle.ng_store.specs.ObjectOf.{objects_of}
use Rattle.ng_store.proofs.store.Store.set_all.Goals as goal

pub invariant_of-self : goal.invariant_of-self
invariant_of-self c =
    let old : List Object = objects_of c.self.inside.objects.items in
    let n : length c.args.self.now ≡ length old = ap length (sym c.self.view_is) in
    c.set_all.ensures.sound (subst (λ k. AllByRecursion (StandsAmong k) c.args.values.now) n c.requires.stands) c.self.invariant

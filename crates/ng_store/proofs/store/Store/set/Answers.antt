use Rattle.std.proofs.Common.{sym, ap, subst, List, length}
use Rattle.ng_base.specs.Objects.{Object, StandsAmong}
use Rattle.ng_language.specs.Objects.{AreObjects, with_property}
use Rattle.ng_store.specs.ObjectOf.{objects_of}
use Rattle.ng_store.proofs.Sound.{sound_updated, is_with_property}
use Rattle.ng_store.proofs.store.Store.set.Goals as goal

pub invariant_of-self-2 : goal.invariant_of-self-2
invariant_of-self-2 c =
    let old : List Object = objects_of c.self.inside.objects.items in
    let stands : StandsAmong (length old) c.args.v = subst (λ n. StandsAmong n c.args.v) (ap length (sym c.self.view_is)) c.requires.stands in
    subst AreObjects (sym c.in_ok-set.ensures.ok)
    (sound_updated old c.args.o.0 (with_property c.args.name.now c.args.v)
    (λ k x. is_with_property (length old) k c.args.name.now c.args.v x stands) c.self.invariant)

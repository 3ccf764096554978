use Rattle.std.proofs.Common.{sym, subst}
use Rattle.serde_json.specs.View.{view}
use Rattle.ng_language.specs.Objects.{AreObjects}
use Rattle.ng_store.specs.ObjectOf.{objects_of}
use Rattle.ng_store.proofs.PlacedSound.{with_json_sound, json_stands}
use Rattle.ng_store.proofs.store.Store.put_json.Goals as goal

pub invariant_of-self-2 : goal.invariant_of-self-2
invariant_of-self-2 c =
    subst AreObjects (sym c.in_ok-value.ensures.made) (with_json_sound (objects_of c.self.inside.objects.items) (view c.args.v) c.requires.short c.self.invariant)

pub returns-clause-stands : goal.returns-clause-stands
returns-clause-stands c =
    rw (c.in_ok-value.ensures.made, c.in_ok-value.ensures.value) (json_stands (objects_of c.self.inside.objects.items) (view c.args.v) c.requires.short)

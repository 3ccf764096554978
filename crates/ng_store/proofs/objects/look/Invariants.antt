use Rattle.std.proofs.Common.{◌≡◌, ◌<◌, length}
use Rattle.ng_language.specs.Objects.{look}
use Rattle.ng_store.specs.ObjectOf.{objects_of}
use Rattle.ng_store.proofs.objects.look.Given as goal

abbrev pub invariant-prototypes : goal.invariant-prototypes
invariant-prototypes l = record {
  within : l.at < length l.objects;
  same : look (objects_of l.objects) l.at l.name ≡ look (objects_of l.objects) l.fn.o.0 l.name;
}

abbrev pub decreases-prototypes : goal.decreases-prototypes
decreases-prototypes l = l.at

use Rattle.std.proofs.Common.{◌≡◌, length}
use Rattle.ng_write.specs.Storing.{with_names, PropertiesStand}
use Rattle.ng_write.proofs.storing.enter.Given as goal

abbrev pub invariant-loop-property : goal.invariant-loop-property
invariant-loop-property l = record {
  same : with_names l.store l.o.0 l.left ≡ with_names l.initial.store l.o.0 l.properties;
  len : length l.store ≡ length l.initial.store;
  stands : PropertiesStand (length l.store) l.left;
}

abbrev pub decreases-loop-property : goal.decreases-loop-property
decreases-loop-property l = length l.left

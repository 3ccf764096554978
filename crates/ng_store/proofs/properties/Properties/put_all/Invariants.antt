use Rattle.std.proofs.Common.{◌≡◌, ℕ, drop}
use Rattle.std.specs.List.{AllByRecursion}
use Rattle.ng_base.specs.Objects.{StandsAmong}
use Rattle.ng_store.specs.ObjectOf.{properties_of}
use Rattle.ng_store.specs.SetNames.{put_names, AreProperties}
use Rattle.ng_store.proofs.properties.Properties.put_all.Given as goal

abbrev pub invariant-loop-name : goal.invariant-loop-name
invariant-loop-name l = record {
  same : put_names (properties_of l.self) (drop l.name-index l.names) l.left ≡ put_names (properties_of l.initial.self) l.names l.initial.left;
  sound : (count : ℕ) → AllByRecursion (StandsAmong count) l.initial.left → AreProperties count (properties_of l.initial.self) → AreProperties count (properties_of l.self) × AllByRecursion (StandsAmong count) l.left;
}

use Rattle.std.proofs.Common.{◌≡◌, true, take, not, bytes_eq}
use Rattle.std.specs.List.{list_all}
use Rattle.ng_store.proofs.properties.count_before.Given as goal

abbrev pub invariant-loop-known : goal.invariant-loop-known
invariant-loop-known l = record {
  count : l.count ≡ l.known-index;
  others : list_all (λ n. not (bytes_eq l.name n)) (take l.count l.names) ≡ true;
}

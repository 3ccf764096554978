use Rattle.std.proofs.Common.{◌≡◌, true, take, not}
use Rattle.std.specs.List.{list_all}
use Rattle.ng_script.specs.Words.{ends}
use Rattle.ng_script.proofs.cut.length_before.Given as goal

abbrev pub invariant-loop-b : goal.invariant-loop-b
invariant-loop-b l = record {
  count : l.count ≡ l.b-index;
  inside : list_all (λ c. not (ends l.part c)) (take l.count l.bytes) ≡ true;
}

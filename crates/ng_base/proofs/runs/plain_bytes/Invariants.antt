use Rattle.std.proofs.Common.{◌≡◌, true, take}
use Rattle.std.specs.List.{list_all}
use Rattle.ng_base.specs.Runs.{is_plain}
use Rattle.ng_base.proofs.runs.plain_bytes.Given as goal

abbrev pub invariant-loop-b : goal.invariant-loop-b
invariant-loop-b l = record {
  count : l.count ≡ l.b-index;
  plain : list_all is_plain (take l.count l.bytes) ≡ true;
}

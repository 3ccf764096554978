use Rattle.std.proofs.Common.{◌≡◌, ◌≤◌, true, length, take, drop}
use Rattle.std.specs.List.{list_all}
use Rattle.ng_base.specs.Runs.{is_plain}
use Rattle.ng_base.proofs.runs.plain_blocks.Given as goal

abbrev pub invariant-loop-block : goal.invariant-loop-block
invariant-loop-block l = record {
  count : l.count ≤ length l.bytes;
  rest : drop l.count l.bytes ≡ l.block-iterator.rest.now;
  size : l.block-iterator.size ≡ 32;
  plain : list_all is_plain (take l.count l.bytes) ≡ true;
}

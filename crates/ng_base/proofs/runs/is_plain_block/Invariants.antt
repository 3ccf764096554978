use Rattle.std.proofs.Common.{◌≡◌, take}
use Rattle.std.specs.List.{list_all}
use Rattle.ng_base.specs.Runs.{is_plain}
use Rattle.ng_base.proofs.runs.is_plain_block.Given as goal

abbrev pub invariant-loop-b : goal.invariant-loop-b
invariant-loop-b l = l.plain ≡ list_all is_plain (take l.b-index l.block)

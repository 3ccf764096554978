use Rattle.std.proofs.Common.{◌≡◌, drop}
use Rattle.ng_template.specs.Around.{block_priority}
use Rattle.ng_template.proofs.around.block_priority.Given as goal

abbrev pub invariant-loop-pick : goal.invariant-loop-pick
invariant-loop-pick l = block_priority (drop l.pick-index l.picks) ≡ block_priority l.picks

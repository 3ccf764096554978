use Rattle.std.proofs.Common.{◌≡◌, drop}
use Rattle.std.specs.List.{list_any}
use Rattle.ng_collect.specs.Refused.{is_over_block}
use Rattle.ng_collect.proofs.refusing.crowd_blocks.Given as goal

abbrev pub invariant-loop-p : goal.invariant-loop-p
invariant-loop-p l = list_any (is_over_block l.picks) (drop l.p-index l.picks) ≡ list_any (is_over_block l.picks) l.picks

use Rattle.std.proofs.Common.{◌≡◌, drop}
use Rattle.std.specs.List.{list_any}
use Rattle.ng_collect.specs.Refused.{is_block_under}
use Rattle.ng_collect.proofs.refusing.any_block_under.Given as goal

abbrev pub invariant-loop-b : goal.invariant-loop-b
invariant-loop-b l = list_any (is_block_under l.p) (drop l.b-index l.picks) ≡ list_any (is_block_under l.p) l.picks

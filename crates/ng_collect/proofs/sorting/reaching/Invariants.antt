use Rattle.std.proofs.Common.{◌≡◌, ◌+◌, drop}
use Rattle.std.specs.Option.{option_copied}
use Rattle.std.specs.List.{prefix_len}
use Rattle.ng_collect.specs.Sorted.{reaches}
use Rattle.ng_collect.proofs.sorting.reaching.Given as goal

abbrev pub invariant-loop-i : goal.invariant-loop-i
invariant-loop-i l = l.i + prefix_len (reaches (option_copied l.last)) (drop l.i l.picks) ≡ prefix_len (reaches (option_copied l.last)) l.picks

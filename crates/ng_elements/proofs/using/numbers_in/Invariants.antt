use Rattle.std.proofs.Common.{◌≡◌, ◌++◌, drop}
use Rattle.ng_elements.specs.Using.{numbers_in}
use Rattle.ng_elements.proofs.using.numbers_in.Given as goal

abbrev pub invariant-loop-pick : goal.invariant-loop-pick
invariant-loop-pick l = l.numbers.items ++ numbers_in (drop l.pick-index l.picks) ≡ numbers_in l.picks

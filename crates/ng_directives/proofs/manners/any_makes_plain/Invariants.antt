use Rattle.std.proofs.Common.{◌≡◌, drop}
use Rattle.ng_directives.specs.Manners.{any_makes_plain}
use Rattle.ng_directives.proofs.manners.any_makes_plain.Given as goal

abbrev pub invariant-loop-pick : goal.invariant-loop-pick
invariant-loop-pick l = any_makes_plain (drop l.pick-index l.picks) ≡ any_makes_plain l.picks

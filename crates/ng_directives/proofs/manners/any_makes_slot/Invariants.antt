use Rattle.std.proofs.Common.{◌≡◌, drop}
use Rattle.ng_directives.specs.Manners.{any_makes_slot}
use Rattle.ng_directives.proofs.manners.any_makes_slot.Given as goal

abbrev pub invariant-loop-pick : goal.invariant-loop-pick
invariant-loop-pick l = any_makes_slot (drop l.pick-index l.picks) ≡ any_makes_slot l.picks

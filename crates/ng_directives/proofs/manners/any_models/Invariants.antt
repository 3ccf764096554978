use Rattle.std.proofs.Common.{◌≡◌, drop}
use Rattle.ng_directives.specs.Manners.{any_models}
use Rattle.ng_directives.proofs.manners.any_models.Given as goal

abbrev pub invariant-loop-pick : goal.invariant-loop-pick
invariant-loop-pick l = any_models (drop l.pick-index l.picks) ≡ any_models l.picks

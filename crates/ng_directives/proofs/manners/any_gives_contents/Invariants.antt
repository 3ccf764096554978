use Rattle.std.proofs.Common.{◌≡◌, drop}
use Rattle.ng_directives.specs.Manners.{any_gives_contents}
use Rattle.ng_directives.proofs.manners.any_gives_contents.Given as goal

abbrev pub invariant-loop-pick : goal.invariant-loop-pick
invariant-loop-pick l = any_gives_contents (drop l.pick-index l.picks) ≡ any_gives_contents l.picks

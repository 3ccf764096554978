use Rattle.std.proofs.Common.{◌≡◌, ◌++◌, drop}
use Rattle.ng_blocks.specs.Places.{places_from, places}
use Rattle.ng_blocks.specs.Switching.{is_default}
use Rattle.ng_blocks.proofs.switching.defaults.Given as goal

abbrev pub invariant-loop-i : goal.invariant-loop-i
invariant-loop-i l = l.numbers ++ places_from is_default l.i (drop l.i l.cases) ≡ places is_default l.cases

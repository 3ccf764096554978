use Rattle.std.proofs.Common.{◌≡◌, ◌++◌, drop}
use Rattle.ng_blocks.specs.Places.{places_from, places}
use Rattle.ng_blocks.specs.Switching.{matches}
use Rattle.ng_blocks.proofs.switching.matching.Given as goal

abbrev pub invariant-loop-i : goal.invariant-loop-i
invariant-loop-i l = l.numbers ++ places_from (matches l.value) l.i (drop l.i l.cases) ≡ places (matches l.value) l.cases

use Rattle.std.proofs.Common.{◌≡◌, ◌++◌, drop}
use Rattle.ng_drawing.specs.Included.{later}
use Rattle.ng_copies.proofs.later.later_numbers.Given as goal

abbrev pub invariant-loop-n : goal.invariant-loop-n
invariant-loop-n l = l.moved.items ++ later l.by (drop l.n-index l.numbers) ≡ later l.by l.numbers

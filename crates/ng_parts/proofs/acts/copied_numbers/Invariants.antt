use Rattle.std.proofs.Common.{◌≡◌, ◌++◌, drop}
use Rattle.ng_parts.proofs.acts.copied_numbers.Given as goal

abbrev pub invariant-loop-n : goal.invariant-loop-n
invariant-loop-n l = l.copies.items ++ drop l.n-index l.numbers ≡ l.numbers

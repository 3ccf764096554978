use Rattle.std.proofs.Common.{◌≡◌, ◌≤◌, length}
use Rattle.ng_tags.specs.References.{digit_run, too_large}
use Rattle.ng_tags.proofs.references.read_digits.Given as goal

abbrev pub invariant-loop-c : goal.invariant-loop-c
invariant-loop-c l = (digit_run l.base l.n l.reader ≡ digit_run l.initial.base l.initial.n l.initial.reader) × (l.n ≤ too_large)

abbrev pub decreases-loop-c : goal.decreases-loop-c
decreases-loop-c l = length l.reader

use Rattle.std.proofs.Common.{◌≡◌, ◌<◌, length}
use Rattle.ng_language.specs.Operators.{digits_behind}
use Rattle.ng_value.proofs.numbers.digits_behind.Given as goal

abbrev pub invariant-loop-c : goal.invariant-loop-c
invariant-loop-c l = record { below : l.n < 9007199254740992; same : digits_behind l.n l.reader ≡ digits_behind l.initial.n l.initial.reader }

abbrev pub decreases-loop-c : goal.decreases-loop-c
decreases-loop-c l = length l.reader

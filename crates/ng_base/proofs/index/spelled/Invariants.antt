use Rattle.std.proofs.Common.{◌≡◌, ◌<◌, length}
use Rattle.ng_base.specs.Objects.{spelled}
use Rattle.ng_base.proofs.index.spelled.Given as goal

abbrev pub invariant-loop-c : goal.invariant-loop-c
invariant-loop-c l = record { below : l.n < 4294967295; same : spelled l.n l.reader ≡ spelled 0 l.initial.reader }

abbrev pub decreases-loop-c : goal.decreases-loop-c
decreases-loop-c l = length l.reader

use Rattle.std.proofs.Common.{◌≡◌, length}
use Rattle.ng_bind.specs.Reading.{name_run}
use Rattle.ng_bind.proofs.reading.read_name.Given as goal

abbrev pub invariant-loop-c : goal.invariant-loop-c
invariant-loop-c l = name_run l.name l.reader ≡ name_run l.initial.name l.initial.reader

abbrev pub decreases-loop-c : goal.decreases-loop-c
decreases-loop-c l = length l.reader

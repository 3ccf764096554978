use Rattle.std.proofs.Common.{◌≡◌, length}
use Rattle.ng_script.specs.Targets.{numbers_from}
use Rattle.ng_script.proofs.targets.read_numbers.Given as goal

abbrev pub invariant-loop-c : goal.invariant-loop-c
invariant-loop-c l = numbers_from l.path l.number l.reader ≡ numbers_from l.initial.path l.initial.number l.initial.reader

abbrev pub decreases-loop-c : goal.decreases-loop-c
decreases-loop-c l = length l.reader

use Rattle.std.proofs.Common.{◌≡◌, length}
use Rattle.ng_blocks.specs.Dividing.{cut_from}
use Rattle.ng_blocks.proofs.dividing.cut.Given as goal

abbrev pub invariant-loop-c : goal.invariant-loop-c
invariant-loop-c l = cut_from l.divider l.before l.reader ≡ cut_from l.divider l.initial.before l.initial.reader

abbrev pub decreases-loop-c : goal.decreases-loop-c
decreases-loop-c l = length l.reader

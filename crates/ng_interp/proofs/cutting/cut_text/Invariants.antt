use Rattle.std.proofs.Common.{◌≡◌, length}
use Rattle.ng_interp.specs.Cutting.{cut_from}
use Rattle.ng_interp.proofs.cutting.cut_text.Given as goal

abbrev pub invariant-loop-c : goal.invariant-loop-c
invariant-loop-c l = cut_from l.total l.cuts l.opened l.words l.reader ≡ cut_from l.total l.initial.cuts l.initial.opened l.initial.words l.initial.reader

abbrev pub decreases-loop-c : goal.decreases-loop-c
decreases-loop-c l = length l.reader

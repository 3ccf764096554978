use Rattle.std.proofs.Common.{◌≡◌, length}
use Rattle.std.specs.List.{list_any}
use Rattle.ng_base.proofs.trimming.any.Given as goal

abbrev pub invariant-loop-c : goal.invariant-loop-c
invariant-loop-c g l = list_any g.C.Class.holds l.reader ≡ list_any g.C.Class.holds l.initial.reader

abbrev pub decreases-loop-c : goal.decreases-loop-c
decreases-loop-c g l = length l.reader

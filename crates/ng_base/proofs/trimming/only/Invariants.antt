use Rattle.std.proofs.Common.{◌≡◌, length}
use Rattle.std.specs.List.{list_all}
use Rattle.ng_base.proofs.trimming.only.Given as goal

abbrev pub invariant-loop-c : goal.invariant-loop-c
invariant-loop-c g l = list_all g.C.Class.holds l.reader ≡ list_all g.C.Class.holds l.initial.reader

abbrev pub decreases-loop-c : goal.decreases-loop-c
decreases-loop-c g l = length l.reader

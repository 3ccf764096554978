use Rattle.std.proofs.Common.{◌≡◌, ◌++◌, length}
use Rattle.ng_collect.specs.Cloak.{uncloaked_from}
use Rattle.ng_collect.proofs.cloak.uncloaked.Given as goal

abbrev pub invariant-loop-c : goal.invariant-loop-c
invariant-loop-c l = l.kept ++ uncloaked_from l.space l.word l.reader ≡ uncloaked_from l.initial.space l.initial.word l.initial.reader

abbrev pub decreases-loop-c : goal.decreases-loop-c
decreases-loop-c l = length l.reader

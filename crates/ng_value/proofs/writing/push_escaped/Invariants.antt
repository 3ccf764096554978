use Rattle.std.proofs.Common.{◌≡◌, ◌++◌, length}
use Rattle.ng_language.specs.Texts.{escaped}
use Rattle.ng_value.proofs.writing.push_escaped.Given as goal

abbrev pub invariant-loop-c : goal.invariant-loop-c
invariant-loop-c l = l.out ++ escaped l.reader ≡ l.initial.out ++ escaped l.initial.reader

abbrev pub decreases-loop-c : goal.decreases-loop-c
decreases-loop-c l = length l.reader

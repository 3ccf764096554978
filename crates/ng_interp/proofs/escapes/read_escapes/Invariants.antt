use Rattle.std.proofs.Common.{◌≡◌, ◌++◌, length}
use Rattle.ng_interp.specs.Escapes.{unescaped}
use Rattle.ng_interp.proofs.escapes.read_escapes.Given as goal

abbrev pub invariant-loop-c : goal.invariant-loop-c
invariant-loop-c l = l.plain ++ unescaped l.reader ≡ unescaped l.text

abbrev pub decreases-loop-c : goal.decreases-loop-c
decreases-loop-c l = length l.reader

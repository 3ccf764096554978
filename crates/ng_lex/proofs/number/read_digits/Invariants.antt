use Rattle.std.proofs.Common.{◌≡◌, ◌≤◌, length}
use Rattle.ng_language.specs.Lexing.{digit_run}
use Rattle.ng_lex.proofs.number.read_digits.Given as goal

abbrev pub invariant-loop-c : goal.invariant-loop-c
invariant-loop-c l = (digit_run l.n l.reader ≡ digit_run l.initial.n l.initial.reader) × (length l.reader ≤ length l.initial.reader) × (l.n ≤ 90071992547409919)

abbrev pub decreases-loop-c : goal.decreases-loop-c
decreases-loop-c l = length l.reader

use Rattle.std.proofs.Common.{◌≡◌, length}
use Rattle.ng_language.specs.Lexing.{is_closed}
use Rattle.ng_lex.proofs.text.closed.Given as goal

abbrev pub invariant-loop-c : goal.invariant-loop-c
invariant-loop-c l = is_closed l.quote l.behind l.reader ≡ is_closed l.quote l.initial.behind l.initial.reader

abbrev pub decreases-loop-c : goal.decreases-loop-c
decreases-loop-c l = length l.reader

use Rattle.std.proofs.Common.{◌≡◌, ◌<◌, ℕ, suc, length}
use Rattle.ng_language.specs.Lexing.{lexes}
use Rattle.ng_lex.proofs.lexing.read_tokens.Given as goal

-- with some room for what is left, the rest is read as the whole
abbrev pub invariant-loop-c : goal.invariant-loop-c
invariant-loop-c l = (k : ℕ) × (length l.reader < k) × (lexes l.total k l.tokens.items l.places.items l.reader ≡ lexes l.total (suc (length l.initial.reader)) l.initial.tokens.items l.initial.places.items l.initial.reader)

abbrev pub decreases-loop-c : goal.decreases-loop-c
decreases-loop-c l = length l.reader

use Rattle.std.proofs.Common.{◌≡◌, ◌≤◌, ◌<◌, ℕ, suc, length}
use Rattle.ng_language.specs.Lexing.{text_run}
use Rattle.ng_lex.proofs.text.read_characters.Given as goal

-- with some room for what is left, the rest is read as the whole
abbrev pub invariant-loop-c : goal.invariant-loop-c
invariant-loop-c l = ((k : ℕ) × (length l.reader < k) × (text_run l.total k l.quote l.text l.reader ≡ text_run l.total (suc (length l.initial.reader)) l.quote l.initial.text l.initial.reader)) × (length l.reader ≤ length l.initial.reader)

abbrev pub decreases-loop-c : goal.decreases-loop-c
decreases-loop-c l = length l.reader

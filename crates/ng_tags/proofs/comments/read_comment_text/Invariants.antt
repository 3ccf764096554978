use Rattle.std.proofs.Common.{◌≡◌, length}
use Rattle.ng_tags.specs.Lexing.{comment_run}
use Rattle.ng_tags.proofs.comments.read_comment_text.Given as goal

abbrev pub invariant-loop-c : goal.invariant-loop-c
invariant-loop-c l = comment_run l.text l.reader ≡ comment_run l.initial.text l.initial.reader

abbrev pub decreases-loop-c : goal.decreases-loop-c
decreases-loop-c l = length l.reader

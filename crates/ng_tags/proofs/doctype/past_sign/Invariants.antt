use Rattle.std.proofs.Common.{◌≡◌, length}
use Rattle.ng_tags.specs.Lexing.{past_sign}
use Rattle.ng_tags.proofs.doctype.past_sign.Given as goal

abbrev pub invariant-loop-c : goal.invariant-loop-c
invariant-loop-c l = past_sign l.place l.reader ≡ past_sign l.initial.place l.initial.reader

abbrev pub decreases-loop-c : goal.decreases-loop-c
decreases-loop-c l = length l.reader

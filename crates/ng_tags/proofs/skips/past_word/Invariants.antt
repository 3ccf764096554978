use Rattle.std.proofs.Common.{◌≡◌, drop}
use Rattle.ng_tags.specs.Skips.{past_word}
use Rattle.ng_tags.proofs.skips.past_word.Given as goal

abbrev pub invariant-loop-w : goal.invariant-loop-w
invariant-loop-w l = past_word (drop l.w-index l.word) l.reader ≡ past_word l.word l.initial.reader

use Rattle.std.proofs.Common.{◌≡◌, drop}
use Rattle.ng_blocks.specs.Dividing.{after_word}
use Rattle.ng_blocks.proofs.dividing.past_word.Given as goal

abbrev pub invariant-loop-byte : goal.invariant-loop-byte
invariant-loop-byte l = after_word (drop l.byte-index l.byte-items) l.reader ≡ after_word l.word l.text

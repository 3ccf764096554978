use Rattle.std.proofs.Common.{◌≡◌, length}
use Rattle.ng_tags.specs.Texts.{text_from}
use Rattle.ng_tags.proofs.texts.read_text.Given as goal

abbrev pub invariant-loop-c : goal.invariant-loop-c
invariant-loop-c l = text_from l.until l.d l.reader ≡ text_from l.initial.until l.initial.d l.initial.reader

abbrev pub decreases-loop-c : goal.decreases-loop-c
decreases-loop-c l = length l.reader

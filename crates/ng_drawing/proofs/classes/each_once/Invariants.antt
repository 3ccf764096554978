use Rattle.std.proofs.Common.{◌≡◌, [], drop}
use Rattle.ng_markup.specs.Attributes.{once_after}
use Rattle.ng_drawing.proofs.classes.each_once.Given as goal

abbrev pub invariant-loop-word : goal.invariant-loop-word
invariant-loop-word l = once_after l.once.keys (drop l.word-index l.words) ≡ once_after [] l.words

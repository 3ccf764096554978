use Rattle.std.proofs.Common.{◌≡◌, ◌++◌, drop}
use Rattle.ng_markup.specs.Attributes.{spaced}
use Rattle.ng_drawing.proofs.Words.{trailed}
use Rattle.ng_drawing.proofs.classes.joined_words.Given as goal

abbrev pub invariant-loop-word : goal.invariant-loop-word
invariant-loop-word l = l.text ++ trailed (drop l.word-index l.others) ≡ spaced l.words

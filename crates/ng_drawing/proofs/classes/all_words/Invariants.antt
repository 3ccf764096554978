use Rattle.std.proofs.Common.{◌≡◌, ◌++◌, [], drop}
use Rattle.ng_language.specs.Texts.{words_in}
use Rattle.ng_drawing.proofs.classes.all_words.Given as goal

abbrev pub invariant-loop-word : goal.invariant-loop-word
invariant-loop-word l = l.all ++ drop l.word-index l.word-items ≡ words_in [] l.text ++ l.words

use Rattle.std.proofs.Common.{◌≡◌, ◌++◌, [], length}
use Rattle.ng_language.specs.Texts.{words_in}
use Rattle.ng_value.proofs.classes.push_words.Given as goal

abbrev pub invariant-loop-c : goal.invariant-loop-c
invariant-loop-c l = l.words ++ words_in l.word l.reader ≡ l.initial.words ++ words_in [] l.initial.reader

abbrev pub decreases-loop-c : goal.decreases-loop-c
decreases-loop-c l = length l.reader

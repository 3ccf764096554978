use Rattle.std.proofs.Common.{◌≡◌, ◌++◌, drop}
use Rattle.ng_drawing.proofs.controls.push_control_words.Given as goal

abbrev pub invariant-loop-word : goal.invariant-loop-word
invariant-loop-word l = l.words ++ drop l.word-index l.list ≡ l.fn.words ++ l.list

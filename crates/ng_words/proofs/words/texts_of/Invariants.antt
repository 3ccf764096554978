use Rattle.std.specs.Prelude.{◌≡◌, map, take, encode_utf8_all}
use Rattle.clap.specs.Walk.{texts}
use Rattle.ng_words.proofs.words.texts_of.Given as goal

abbrev pub invariant-loop-word : goal.invariant-loop-word
invariant-loop-word l = texts l.texts.items ≡ map encode_utf8_all (take l.word-index l.words)

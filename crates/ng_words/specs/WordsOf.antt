-- What the values of the code stand for.
use Rattle.ng_words.specs.Words as words
use Rattle.ng_words.specs.declared.words.Flags.{Flags}
use Rattle.ng_words.specs.declared.words.Words.{Words}

abbrev pub flags_seen : Flags → words.Flags
flags_seen f = record { trace = f.trace; is_static = f.is_static }

abbrev pub words_seen : Words → words.Words
words_seen w = record { flags = flags_seen w.flags; template = w.template; application = w.application; script = w.script }

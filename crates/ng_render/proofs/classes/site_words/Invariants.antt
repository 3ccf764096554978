use Rattle.std.proofs.Common.{◌≡◌, drop}
use Rattle.ng_drawing.specs.Drawing.{render_words}
use Rattle.ng_render.specs.OverOf.{now_over}
use Rattle.ng_render.proofs.Walks.{behind, words_joined}
use Rattle.ng_render.proofs.classes.site_words.Given as goal

abbrev pub invariant-loop-n : goal.invariant-loop-n
invariant-loop-n l = behind words_joined l.words (render_words (now_over l.over) (drop l.n-index l.numbers)) ≡ render_words (now_over l.over) l.numbers

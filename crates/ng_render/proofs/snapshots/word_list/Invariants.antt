use Rattle.std.proofs.Common.{◌≡◌, ◌++◌, drop, map}
use Rattle.ng_base.specs.Views.{views_list}
use Rattle.ng_base.specs.ViewOf.{views_of}
use Rattle.ng_drawing.specs.Instance.{text_view}
use Rattle.ng_render.proofs.snapshots.word_list.Given as goal

abbrev pub invariant-loop-word : goal.invariant-loop-word
invariant-loop-word l = views_list (views_of l.views) ++ map text_view (drop l.word-index l.word-items) ≡ map text_view l.words

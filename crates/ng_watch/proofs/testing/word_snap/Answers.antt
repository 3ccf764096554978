use Rattle.std.proofs.Common.{◌∙◌}
use Rattle.ng_base.specs.ViewOf.{views_of}
use Rattle.ng_watch.proofs.Words.{words_snapped}
use Rattle.ng_watch.proofs.testing.word_snap.Goals as goal

pub returns : goal.returns
returns c = words_snapped _ c.in_ok-words.words (views_of c.in_ok-views.views) _ c.in_ok-words.ensures c.in_ok-views.ensures (c.of_view.ensures ∙ c.of_list.ensures)

use Rattle.std.proofs.Common.{◌≡◌, ◌≤◌, ◌++◌, map, length}
use Rattle.ng_base.specs.Views.{views_from}
use Rattle.ng_base.specs.ViewOf.{view_of}
use Rattle.ng_language.specs.Texts.{words_of_all}
use Rattle.ng_language.specs.Views.{view_size, views_size}
use Rattle.ng_value.proofs.classes.+words.Given as goal

abbrev pub decreases-push_words_of : goal.decreases-push_words_of
decreases-push_words_of l = view_size (view_of l.v.now)

abbrev pub decreases-push_words_of_all : goal.decreases-push_words_of_all
decreases-push_words_of_all l = views_size (views_from (map view_of l.views.now))

abbrev pub invariant-push_words_of_all-loop-v : goal.invariant-push_words_of_all-loop-v
invariant-push_words_of_all-loop-v l = record {
  size : views_size (views_from (map view_of l.left)) ≤ views_size (views_from (map view_of l.views));
  same : l.words ++ words_of_all (views_from (map view_of l.left)) ≡ l.initial.words ++ words_of_all (views_from (map view_of l.views));
}

abbrev pub decreases-push_words_of_all-loop-v : goal.decreases-push_words_of_all-loop-v
decreases-push_words_of_all-loop-v l = length l.left

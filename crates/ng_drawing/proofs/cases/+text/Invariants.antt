use Rattle.std.proofs.Common.{◌≡◌, ◌≤◌, ◌+◌, ◌*◌, ◌++◌, map, length}
use Rattle.ng_base.specs.Views.{views_from}
use Rattle.ng_base.specs.ViewOf.{view_of}
use Rattle.ng_language.specs.Texts.{more_text}
use Rattle.ng_language.specs.Views.{view_size, views_size}
use Rattle.ng_drawing.proofs.cases.+text.Given as goal

abbrev pub decreases-push_text : goal.decreases-push_text
decreases-push_text l = 2 * view_size (view_of l.view.now)

abbrev pub decreases-push_item : goal.decreases-push_item
decreases-push_item l = 2 * view_size (view_of l.view.now) + 1

abbrev pub decreases-push_items : goal.decreases-push_items
decreases-push_items l = 2 * views_size (views_from (map view_of l.views.now))

abbrev pub decreases-push_more : goal.decreases-push_more
decreases-push_more l = 2 * views_size (views_from (map view_of l.views.now))

abbrev pub invariant-push_more-loop-view : goal.invariant-push_more-loop-view
invariant-push_more-loop-view l = record {
  size : views_size (views_from (map view_of l.left)) ≤ views_size (views_from (map view_of l.views));
  same : l.out ++ more_text (views_from (map view_of l.left)) ≡ l.initial.out ++ more_text (views_from (map view_of l.views));
}

abbrev pub decreases-push_more-loop-view : goal.decreases-push_more-loop-view
decreases-push_more-loop-view l = length l.left

use Rattle.std.proofs.Common.{◌≡◌, ◌≤◌, ◌+◌, ◌*◌, max, [], map, drop, length}
use Rattle.std.specs.List.{AllByRecursion}
use Rattle.ng_base.specs.Views.{views_list}
use Rattle.ng_base.specs.ViewOf.{views_of, field_of}
use Rattle.ng_language.specs.Heights.{height, heights, pair_height, pair_heights}
use Rattle.ng_language.specs.Trees.{trees_from, pairs_from}
use Rattle.ng_language.specs.Views.{ViewStands}
use Rattle.ng_parse.specs.TreeOf.{tree, pair_tree}
use Rattle.ng_evaluation.specs.Purity.{count_of, FiltersKnown, ArePairsKnown}
use Rattle.ng_evaluation.specs.Evaluation.{evaluated_all, evaluated_pairs}
use Rattle.ng_members.specs.Leaves.{FieldsAllStand}
use Rattle.ng_view.proofs.evaluation.+evaluation.Given as goal

-- a height, and how far a function stands above the walk at this height
abbrev pub decreases-evaluated : goal.decreases-evaluated
decreases-evaluated l = 4 * height (tree l.e.now)

abbrev pub decreases-evaluated_member : goal.decreases-evaluated_member
decreases-evaluated_member l = 4 * height (tree l.t.now) + 1

abbrev pub decreases-evaluated_item : goal.decreases-evaluated_item
decreases-evaluated_item l = 4 * max (height (tree l.t.now)) (height (tree l.i.now)) + 1

abbrev pub decreases-evaluated_call : goal.decreases-evaluated_call
decreases-evaluated_call l = 4 * max (height (tree l.t.now)) (heights (trees_from (map tree l.args.now.items))) + 3

abbrev pub decreases-evaluated_list : goal.decreases-evaluated_list
decreases-evaluated_list l = 4 * heights (trees_from (map tree l.items.now.items)) + 3

abbrev pub decreases-evaluated_record : goal.decreases-evaluated_record
decreases-evaluated_record l = 4 * pair_heights (pairs_from (map pair_tree l.pairs.now.items)) + 3

abbrev pub decreases-evaluated_sign : goal.decreases-evaluated_sign
decreases-evaluated_sign l = 4 * height (tree l.t.now) + 1

abbrev pub decreases-evaluated_operator : goal.decreases-evaluated_operator
decreases-evaluated_operator l = 4 * max (height (tree l.a.now)) (height (tree l.b.now)) + 1

abbrev pub decreases-evaluated_both : goal.decreases-evaluated_both
decreases-evaluated_both l = 4 * max (height (tree l.a.now)) (height (tree l.b.now)) + 1

abbrev pub decreases-evaluated_either : goal.decreases-evaluated_either
decreases-evaluated_either l = 4 * max (height (tree l.a.now)) (height (tree l.b.now)) + 1

abbrev pub decreases-evaluated_choice : goal.decreases-evaluated_choice
decreases-evaluated_choice l = 4 * max (height (tree l.c.now)) (max (height (tree l.a.now)) (height (tree l.b.now))) + 1

abbrev pub decreases-evaluated_filter : goal.decreases-evaluated_filter
decreases-evaluated_filter l = 4 * max (height (tree l.t.now)) (heights (trees_from (map tree l.args.now.items))) + 3

abbrev pub decreases-receiver : goal.decreases-receiver
decreases-receiver l = 4 * height (tree l.e.now) + 1

abbrev pub decreases-evaluated_all : goal.decreases-evaluated_all
decreases-evaluated_all l = 4 * heights (trees_from (map tree l.items.now)) + 1

abbrev pub decreases-evaluated_pair : goal.decreases-evaluated_pair
decreases-evaluated_pair l = 4 * pair_height (pair_tree l.pair.now) + 1

abbrev pub decreases-evaluated_pairs : goal.decreases-evaluated_pairs
decreases-evaluated_pairs l = 4 * pair_heights (pairs_from (map pair_tree l.pairs.now)) + 2

abbrev pub invariant-evaluated_all-loop-item : goal.invariant-evaluated_all-loop-item
invariant-evaluated_all-loop-item l = record {
  low : heights (trees_from (map tree (drop l.item-index l.items))) ≤ heights (trees_from (map tree l.items));
  known : FiltersKnown (trees_from (map tree (drop l.item-index l.items)));
  count : length (views_list (views_of l.views)) + count_of (trees_from (map tree (drop l.item-index l.items))) ≡ count_of (trees_from (map tree l.items));
  stands : AllByRecursion (ViewStands (length l.store)) (views_list (views_of l.views));
  same : evaluated_all l.store l.scope.0 l.locals (views_list (views_of l.views)) (trees_from (map tree (drop l.item-index l.items)))
      ≡ evaluated_all l.store l.scope.0 l.locals [] (trees_from (map tree l.items));
}

abbrev pub invariant-evaluated_pairs-loop-pair : goal.invariant-evaluated_pairs-loop-pair
invariant-evaluated_pairs-loop-pair l = record {
  low : pair_heights (pairs_from (map pair_tree (drop l.pair-index l.pairs))) ≤ pair_heights (pairs_from (map pair_tree l.pairs));
  known : ArePairsKnown (pairs_from (map pair_tree (drop l.pair-index l.pairs)));
  stands : FieldsAllStand (length l.store) (map field_of l.fields.entries);
  same : evaluated_pairs l.store l.scope.0 l.locals (map field_of l.fields.entries) (pairs_from (map pair_tree (drop l.pair-index l.pairs)))
      ≡ evaluated_pairs l.store l.scope.0 l.locals [] (pairs_from (map pair_tree l.pairs));
}

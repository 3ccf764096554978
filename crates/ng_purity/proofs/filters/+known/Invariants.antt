use Rattle.std.proofs.Common.{◌≡◌, map, drop}
use Rattle.ng_language.specs.Trees.{trees_from, pairs_from}
use Rattle.ng_parse.specs.TreeOf.{tree, pair_tree}
use Rattle.ng_evaluation.specs.Purity.{all_filters_known, pair_filters_known}
use Rattle.ng_purity.proofs.filters.+known.Given as goal

abbrev pub invariant-all_known-loop-item : goal.invariant-all_known-loop-item
invariant-all_known-loop-item l = all_filters_known (trees_from (map tree (drop l.item-index l.items))) ≡ all_filters_known (trees_from (map tree l.items))

abbrev pub invariant-pairs_known-loop-pair : goal.invariant-pairs_known-loop-pair
invariant-pairs_known-loop-pair l = pair_filters_known (pairs_from (map pair_tree (drop l.pair-index l.pairs))) ≡ pair_filters_known (pairs_from (map pair_tree l.pairs))

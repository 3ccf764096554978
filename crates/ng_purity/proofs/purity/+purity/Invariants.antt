use Rattle.std.proofs.Common.{◌≡◌, map, drop}
use Rattle.ng_language.specs.Trees.{trees_from, pairs_from}
use Rattle.ng_parse.specs.TreeOf.{tree, pair_tree}
use Rattle.ng_evaluation.specs.Purity.{are_pure, are_pure_pairs}
use Rattle.ng_purity.proofs.purity.+purity.Given as goal

abbrev pub invariant-are_pure-loop-item : goal.invariant-are_pure-loop-item
invariant-are_pure-loop-item l = are_pure (trees_from (map tree (drop l.item-index l.items))) ≡ are_pure (trees_from (map tree l.items))

abbrev pub invariant-are_pure_pairs-loop-pair : goal.invariant-are_pure_pairs-loop-pair
invariant-are_pure_pairs-loop-pair l = are_pure_pairs (pairs_from (map pair_tree (drop l.pair-index l.pairs))) ≡ are_pure_pairs (pairs_from (map pair_tree l.pairs))

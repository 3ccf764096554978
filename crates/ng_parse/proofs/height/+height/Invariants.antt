use Rattle.std.proofs.Common.{◌≤◌, map, drop}
use Rattle.std.specs.Prelude.{◌↔◌}
use Rattle.ng_language.specs.Heights.{heights, pair_heights}
use Rattle.ng_language.specs.Trees.{trees_from, pairs_from}
use Rattle.ng_parse.specs.TreeOf.{tree, pair_tree}
use Rattle.ng_parse.proofs.height.+height.Given as goal

abbrev pub invariant-all_low-loop-item : goal.invariant-all_low-loop-item
invariant-all_low-loop-item l = (heights (trees_from (map tree (drop l.item-index l.items))) ≤ l.room) ↔ (heights (trees_from (map tree l.items)) ≤ l.room)

abbrev pub invariant-pairs_low-loop-pair : goal.invariant-pairs_low-loop-pair
invariant-pairs_low-loop-pair l = (pair_heights (pairs_from (map pair_tree (drop l.pair-index l.pairs))) ≤ l.room) ↔ (pair_heights (pairs_from (map pair_tree l.pairs)) ≤ l.room)

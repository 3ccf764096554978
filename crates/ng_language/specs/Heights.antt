-- How high a tree is. A leaf has 1; a filter, a call, a pair of brackets and every operator count; a list of
-- statements does not.
use Rattle.std.specs.Prelude.{ℕ, suc, max}
use Rattle.ng_language.specs.Trees.{Tree, Trees, PairTree, Pairs, a_number, a_text, a_name, the_scope, a_constant, member_of, item_of, call_of, a_list, a_record, in_brackets, signed, combined, both_of, either_of, choice_of, assigned, filtered, no_trees, tree_then, labelled, shorthand, computed, no_pairs, pair_then}

abbrev mutual
  pub height : Tree → ℕ
  height (a_number n) = 1
  height (a_text s) = 1
  height (a_name s) = 1
  height the_scope = 1
  height (a_constant c) = 1
  height (member_of t s) = suc (height t)
  height (item_of t i) = suc (max (height t) (height i))
  height (call_of t ts) = suc (max (height t) (heights ts))
  height (a_list ts) = suc (heights ts)
  height (a_record ps) = suc (pair_heights ps)
  height (in_brackets t) = suc (height t)
  height (signed o t) = suc (height t)
  height (combined o a b) = suc (max (height a) (height b))
  height (both_of a b) = suc (max (height a) (height b))
  height (either_of a b) = suc (max (height a) (height b))
  height (choice_of c a b) = suc (max (height c) (max (height a) (height b)))
  height (assigned a b) = suc (max (height a) (height b))
  height (filtered t s ts) = suc (max (height t) (heights ts))

  pub heights : Trees → ℕ
  heights no_trees = 0
  heights (tree_then t ts) = max (height t) (heights ts)

  pub pair_height : PairTree → ℕ
  pair_height (labelled l t) = height t
  pair_height (shorthand s t) = height t
  pair_height (computed t v) = max (height t) (height v)

  pub pair_heights : Pairs → ℕ
  pair_heights no_pairs = 0
  pair_heights (pair_then p ps) = max (pair_height p) (pair_heights ps)

-- Programs without a call and an assignment, and programs without a filter.
use Rattle.std.specs.Prelude.{Bool, true, false, ◌&&◌}
use Rattle.ng_language.specs.Trees.{Tree, Trees, PairTree, Pairs, a_number, a_text, a_name, the_scope, a_constant, member_of, item_of, call_of, a_list, a_record, in_brackets, signed, combined, both_of, either_of, choice_of, assigned, filtered, no_trees, tree_then, labelled, shorthand, computed, no_pairs, pair_then}

-- whether calls and assignments stand only where they may, and filters only where these may
abbrev mutual
  pub keeps_to : Bool → Bool → Tree → Bool
  keeps_to calls filters (a_number n) = true
  keeps_to calls filters (a_text s) = true
  keeps_to calls filters (a_name s) = true
  keeps_to calls filters the_scope = true
  keeps_to calls filters (a_constant c) = true
  keeps_to calls filters (member_of t s) = keeps_to calls filters t
  keeps_to calls filters (item_of t i) = keeps_to calls filters t && keeps_to calls filters i
  keeps_to calls filters (call_of t ts) = calls && (keeps_to calls filters t && all_keep_to calls filters ts)
  keeps_to calls filters (a_list ts) = all_keep_to calls filters ts
  keeps_to calls filters (a_record ps) = pairs_keep_to calls filters ps
  keeps_to calls filters (in_brackets t) = keeps_to calls filters t
  keeps_to calls filters (signed o t) = keeps_to calls filters t
  keeps_to calls filters (combined o a b) = keeps_to calls filters a && keeps_to calls filters b
  keeps_to calls filters (both_of a b) = keeps_to calls filters a && keeps_to calls filters b
  keeps_to calls filters (either_of a b) = keeps_to calls filters a && keeps_to calls filters b
  keeps_to calls filters (choice_of c a b) = keeps_to calls filters c && (keeps_to calls filters a && keeps_to calls filters b)
  keeps_to calls filters (assigned a b) = calls && (keeps_to calls filters a && keeps_to calls filters b)
  keeps_to calls filters (filtered t s ts) = filters && (keeps_to calls filters t && all_keep_to calls filters ts)

  pub all_keep_to : Bool → Bool → Trees → Bool
  all_keep_to calls filters no_trees = true
  all_keep_to calls filters (tree_then t ts) = keeps_to calls filters t && all_keep_to calls filters ts

  pub pair_keeps_to : Bool → Bool → PairTree → Bool
  pair_keeps_to calls filters (labelled l t) = keeps_to calls filters t
  pair_keeps_to calls filters (shorthand s t) = keeps_to calls filters t
  pair_keeps_to calls filters (computed n t) = keeps_to calls filters n && keeps_to calls filters t

  pub pairs_keep_to : Bool → Bool → Pairs → Bool
  pairs_keep_to calls filters no_pairs = true
  pairs_keep_to calls filters (pair_then p ps) = pair_keeps_to calls filters p && pairs_keep_to calls filters ps

-- a program without a call and without an assignment
abbrev pub calls_nothing : Trees → Bool
calls_nothing ts = all_keep_to false true ts

-- a program without a filter
abbrev pub filters_nothing : Trees → Bool
filters_nothing ts = all_keep_to true false ts

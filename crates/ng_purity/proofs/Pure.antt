-- The tests of purity and of filters, as properties.
use Rattle.std.proofs.Common.{ℕ, suc, List, [], ◌∷◌, map, length, ◌<◌, ap, arith, ◌≡◌, refl, sym, Bool, true, false, true≢false, ◌&&◌}
use Rattle.ng_language.specs.Trees.{trees_from, Tree, Trees, PairTree, Pairs, a_number, a_text, a_name, the_scope, a_constant, member_of, item_of, call_of, a_list, a_record, in_brackets, signed, combined, both_of, either_of, choice_of, assigned, filtered, no_trees, tree_then, labelled, shorthand, computed, no_pairs, pair_then}
use Rattle.ng_filters.specs.Known.{taken_by}
use Rattle.ng_evaluation.specs.Applied.{known}
use Rattle.ng_base.proofs.Binds.{if_held}
use Rattle.std.specs.Str.{bytes_eq}
use Rattle.std.specs.Prelude.{codes}
use Rattle.ng_parse.specs.TreeOf.{tree}
use Rattle.ng_parse.specs.declared.tree.Expr.{Expr}
use Rattle.std.proofs.lemmas.Bool.Decides.{nat_tests}
use Rattle.ng_evaluation.specs.Purity.{names_method, is_pure_tree, are_pure, is_pure_pair, are_pure_pairs, IsPure, ArePure, IsPurePair, ArePurePairs, filters_known_tree, all_filters_known, pair_filter_known, pair_filters_known, IsKnown, FiltersKnown, IsPairKnown, ArePairsKnown, count_of}

both_hold : (a b : Bool) → (a && b) ≡ true → (a ≡ true) × (b ≡ true)
both_hold true b h = (refl, h)
both_hold false b h = absurd (true≢false (sym h))

hold_both : (a b : Bool) → a ≡ true → b ≡ true → (a && b) ≡ true
hold_both true b h k = k
hold_both false b h k = absurd (true≢false (sym h))

-- two tests together
pair_of : {A B : Type 0} (a b : Bool) → (a ≡ true → A) → (b ≡ true → B) → (a && b) ≡ true → A × B
pair_of a b f g h = let p = both_hold a b h in (f p.0, g p.1)

test_of : {A B : Type 0} (a b : Bool) → (A → a ≡ true) → (B → b ≡ true) → A × B → (a && b) ≡ true
test_of a b f g p = hold_both a b (f p.0) (g p.1)

mutual
  pub pure_is : (t : Tree) → is_pure_tree t ≡ true → IsPure t
  pure_is (a_number n) h = tt
  pure_is (a_text s) h = tt
  pure_is (a_name s) h = tt
  pure_is the_scope h = tt
  pure_is (a_constant c) h = tt
  pure_is (member_of t s) h = pure_is t h
  pure_is (item_of t i) h = pair_of (is_pure_tree t) (is_pure_tree i) (pure_is t) (pure_is i) h
  pure_is (call_of t ts) h = pair_of (names_method t) (is_pure_tree t && are_pure ts) (λ k. k) (pair_of (is_pure_tree t) (are_pure ts) (pure_is t) (pure_are ts)) h
  pure_is (a_list ts) h = pure_are ts h
  pure_is (a_record ps) h = pure_pairs ps h
  pure_is (in_brackets t) h = pure_is t h
  pure_is (signed o t) h = pure_is t h
  pure_is (combined o a b) h = pair_of (is_pure_tree a) (is_pure_tree b) (pure_is a) (pure_is b) h
  pure_is (both_of a b) h = pair_of (is_pure_tree a) (is_pure_tree b) (pure_is a) (pure_is b) h
  pure_is (either_of a b) h = pair_of (is_pure_tree a) (is_pure_tree b) (pure_is a) (pure_is b) h
  pure_is (choice_of c a b) h = pair_of (is_pure_tree c) (is_pure_tree a && is_pure_tree b) (pure_is c) (pair_of (is_pure_tree a) (is_pure_tree b) (pure_is a) (pure_is b)) h
  pure_is (assigned a b) h = true≢false (sym h)
  pure_is (filtered t s ts) h = pair_of (is_pure_tree t) (are_pure ts) (pure_is t) (pure_are ts) h

  pub pure_are : (ts : Trees) → are_pure ts ≡ true → ArePure ts
  pure_are no_trees h = tt
  pure_are (tree_then t ts) h = pair_of (is_pure_tree t) (are_pure ts) (pure_is t) (pure_are ts) h

  pure_pair : (p : PairTree) → is_pure_pair p ≡ true → IsPurePair p
  pure_pair (labelled l t) h = pure_is t h
  pure_pair (shorthand s t) h = pure_is t h
  pure_pair (computed n t) h = pair_of (is_pure_tree n) (is_pure_tree t) (pure_is n) (pure_is t) h

  pure_pairs : (ps : Pairs) → are_pure_pairs ps ≡ true → ArePurePairs ps
  pure_pairs no_pairs h = tt
  pure_pairs (pair_then p ps) h = pair_of (is_pure_pair p) (are_pure_pairs ps) (pure_pair p) (pure_pairs ps) h

mutual
  pub is_pure_test : (t : Tree) → IsPure t → is_pure_tree t ≡ true
  is_pure_test (a_number n) p = refl
  is_pure_test (a_text s) p = refl
  is_pure_test (a_name s) p = refl
  is_pure_test the_scope p = refl
  is_pure_test (a_constant c) p = refl
  is_pure_test (member_of t s) p = is_pure_test t p
  is_pure_test (item_of t i) p = test_of (is_pure_tree t) (is_pure_tree i) (is_pure_test t) (is_pure_test i) p
  is_pure_test (call_of t ts) p = test_of (names_method t) (is_pure_tree t && are_pure ts) (λ k. k) (test_of (is_pure_tree t) (are_pure ts) (is_pure_test t) (are_pure_test ts)) p
  is_pure_test (a_list ts) p = are_pure_test ts p
  is_pure_test (a_record ps) p = pairs_pure_test ps p
  is_pure_test (in_brackets t) p = is_pure_test t p
  is_pure_test (signed o t) p = is_pure_test t p
  is_pure_test (combined o a b) p = test_of (is_pure_tree a) (is_pure_tree b) (is_pure_test a) (is_pure_test b) p
  is_pure_test (both_of a b) p = test_of (is_pure_tree a) (is_pure_tree b) (is_pure_test a) (is_pure_test b) p
  is_pure_test (either_of a b) p = test_of (is_pure_tree a) (is_pure_tree b) (is_pure_test a) (is_pure_test b) p
  is_pure_test (choice_of c a b) p = test_of (is_pure_tree c) (is_pure_tree a && is_pure_tree b) (is_pure_test c) (test_of (is_pure_tree a) (is_pure_tree b) (is_pure_test a) (is_pure_test b)) p
  is_pure_test (assigned a b) p = absurd p
  is_pure_test (filtered t s ts) p = test_of (is_pure_tree t) (are_pure ts) (is_pure_test t) (are_pure_test ts) p

  pub are_pure_test : (ts : Trees) → ArePure ts → are_pure ts ≡ true
  are_pure_test no_trees p = refl
  are_pure_test (tree_then t ts) p = test_of (is_pure_tree t) (are_pure ts) (is_pure_test t) (are_pure_test ts) p

  pair_pure_test : (q : PairTree) → IsPurePair q → is_pure_pair q ≡ true
  pair_pure_test (labelled l t) p = is_pure_test t p
  pair_pure_test (shorthand s t) p = is_pure_test t p
  pair_pure_test (computed n t) p = test_of (is_pure_tree n) (is_pure_tree t) (is_pure_test n) (is_pure_test t) p

  pairs_pure_test : (ps : Pairs) → ArePurePairs ps → are_pure_pairs ps ≡ true
  pairs_pure_test no_pairs p = refl
  pairs_pure_test (pair_then q ps) p = test_of (is_pure_pair q) (are_pure_pairs ps) (pair_pure_test q) (pairs_pure_test ps) p

mutual
  pub known_is : (t : Tree) → filters_known_tree t ≡ true → IsKnown t
  known_is (a_number n) h = tt
  known_is (a_text s) h = tt
  known_is (a_name s) h = tt
  known_is the_scope h = tt
  known_is (a_constant c) h = tt
  known_is (member_of t s) h = known_is t h
  known_is (item_of t i) h = pair_of (filters_known_tree t) (filters_known_tree i) (known_is t) (known_is i) h
  known_is (call_of t ts) h = pair_of (filters_known_tree t) (all_filters_known ts) (known_is t) (known_are ts) h
  known_is (a_list ts) h = known_are ts h
  known_is (a_record ps) h = known_pairs ps h
  known_is (in_brackets t) h = known_is t h
  known_is (signed o t) h = known_is t h
  known_is (combined o a b) h = pair_of (filters_known_tree a) (filters_known_tree b) (known_is a) (known_is b) h
  known_is (both_of a b) h = pair_of (filters_known_tree a) (filters_known_tree b) (known_is a) (known_is b) h
  known_is (either_of a b) h = pair_of (filters_known_tree a) (filters_known_tree b) (known_is a) (known_is b) h
  known_is (choice_of c a b) h = pair_of (filters_known_tree c) (filters_known_tree a && filters_known_tree b) (known_is c) (pair_of (filters_known_tree a) (filters_known_tree b) (known_is a) (known_is b)) h
  known_is (assigned a b) h = pair_of (filters_known_tree a) (filters_known_tree b) (known_is a) (known_is b) h
  known_is (filtered t s ts) h = pair_of (known s (count_of ts)) (filters_known_tree t && all_filters_known ts) (λ k. k) (pair_of (filters_known_tree t) (all_filters_known ts) (known_is t) (known_are ts)) h

  pub known_are : (ts : Trees) → all_filters_known ts ≡ true → FiltersKnown ts
  known_are no_trees h = tt
  known_are (tree_then t ts) h = pair_of (filters_known_tree t) (all_filters_known ts) (known_is t) (known_are ts) h

  known_pair : (p : PairTree) → pair_filter_known p ≡ true → IsPairKnown p
  known_pair (labelled l t) h = known_is t h
  known_pair (shorthand s t) h = known_is t h
  known_pair (computed n t) h = pair_of (filters_known_tree n) (filters_known_tree t) (known_is n) (known_is t) h

  known_pairs : (ps : Pairs) → pair_filters_known ps ≡ true → ArePairsKnown ps
  known_pairs no_pairs h = tt
  known_pairs (pair_then p ps) h = pair_of (pair_filter_known p) (pair_filters_known ps) (known_pair p) (known_pairs ps) h

mutual
  pub is_known_test : (t : Tree) → IsKnown t → filters_known_tree t ≡ true
  is_known_test (a_number n) p = refl
  is_known_test (a_text s) p = refl
  is_known_test (a_name s) p = refl
  is_known_test the_scope p = refl
  is_known_test (a_constant c) p = refl
  is_known_test (member_of t s) p = is_known_test t p
  is_known_test (item_of t i) p = test_of (filters_known_tree t) (filters_known_tree i) (is_known_test t) (is_known_test i) p
  is_known_test (call_of t ts) p = test_of (filters_known_tree t) (all_filters_known ts) (is_known_test t) (are_known_test ts) p
  is_known_test (a_list ts) p = are_known_test ts p
  is_known_test (a_record ps) p = pairs_known_test ps p
  is_known_test (in_brackets t) p = is_known_test t p
  is_known_test (signed o t) p = is_known_test t p
  is_known_test (combined o a b) p = test_of (filters_known_tree a) (filters_known_tree b) (is_known_test a) (is_known_test b) p
  is_known_test (both_of a b) p = test_of (filters_known_tree a) (filters_known_tree b) (is_known_test a) (is_known_test b) p
  is_known_test (either_of a b) p = test_of (filters_known_tree a) (filters_known_tree b) (is_known_test a) (is_known_test b) p
  is_known_test (choice_of c a b) p = test_of (filters_known_tree c) (filters_known_tree a && filters_known_tree b) (is_known_test c) (test_of (filters_known_tree a) (filters_known_tree b) (is_known_test a) (is_known_test b)) p
  is_known_test (assigned a b) p = test_of (filters_known_tree a) (filters_known_tree b) (is_known_test a) (is_known_test b) p
  is_known_test (filtered t s ts) p = test_of (known s (count_of ts)) (filters_known_tree t && all_filters_known ts) (λ k. k) (test_of (filters_known_tree t) (all_filters_known ts) (is_known_test t) (are_known_test ts)) p

  pub are_known_test : (ts : Trees) → FiltersKnown ts → all_filters_known ts ≡ true
  are_known_test no_trees p = refl
  are_known_test (tree_then t ts) p = test_of (filters_known_tree t) (all_filters_known ts) (is_known_test t) (are_known_test ts) p

  pair_known_test : (q : PairTree) → IsPairKnown q → pair_filter_known q ≡ true
  pair_known_test (labelled l t) p = is_known_test t p
  pair_known_test (shorthand s t) p = is_known_test t p
  pair_known_test (computed n t) p = test_of (filters_known_tree n) (filters_known_tree t) (is_known_test n) (is_known_test t) p

  pairs_known_test : (ps : Pairs) → ArePairsKnown ps → pair_filters_known ps ≡ true
  pairs_known_test no_pairs p = refl
  pairs_known_test (pair_then q ps) p = test_of (pair_filter_known q) (pair_filters_known ps) (pair_known_test q) (pairs_known_test ps) p

pub count_of-trees : (es : List Expr) → count_of (trees_from (map tree es)) ≡ length es
count_of-trees [] = refl
count_of-trees (e ∷ es) = ap suc (count_of-trees es)

-- no filter takes more than two arguments
pub many_unknown : (name : List ℕ) (n : ℕ) → 2 < n → known name n ≡ false
unfolding known
many_unknown name n h =
    if_held (bytes_eq name (codes "uppercase")) _ _ (λ o. taken_by o n ≡ false) (λ e. grind (arith, nat_tests)) (λ e. if_held (bytes_eq name (codes "lowercase")) _ _ (λ o. taken_by o n ≡ false) (λ e. grind (arith, nat_tests)) (λ e. if_held (bytes_eq name (codes "number")) _ _ (λ o. taken_by o n ≡ false) (λ e. grind (arith, nat_tests)) (λ e. if_held (bytes_eq name (codes "json")) _ _ (λ o. taken_by o n ≡ false) (λ e. grind (arith, nat_tests)) (λ e. if_held (bytes_eq name (codes "limitTo")) _ _ (λ o. taken_by o n ≡ false) (λ e. grind (arith, nat_tests)) (λ e. if_held (bytes_eq name (codes "filter")) _ _ (λ o. taken_by o n ≡ false) (λ e. grind (arith, nat_tests)) (λ e. if_held (bytes_eq name (codes "orderBy")) _ _ (λ o. taken_by o n ≡ false) (λ e. grind (arith, nat_tests)) (λ e. refl)))))))

pub ruleset argument_counts = (count_of-trees, many_unknown)

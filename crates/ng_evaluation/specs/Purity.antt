-- Pure programs: nothing is assigned, and every call is one, in dotted form, of a method that changes nothing.
use Rattle.std.specs.Prelude.{ℕ, suc, Bool, true, false, ⊤, IsTrue, ◌&&◌}
use Rattle.ng_language.specs.Trees.{Tree, Trees, PairTree, Pairs, a_number, a_text, a_name, the_scope, a_constant, member_of, item_of, call_of, a_list, a_record, in_brackets, signed, combined, both_of, either_of, choice_of, assigned, filtered, no_trees, tree_then, labelled, shorthand, computed, no_pairs, pair_then}
use Rattle.ng_evaluation.specs.Applied.{known}
use Rattle.ng_members.specs.Leaves.{named}
use Rattle.ng_members.specs.Callees.{called}
use Rattle.ng_members.specs.Names.{is_pure_method}

-- what is called, in dotted form
abbrev pub names_method : Tree → Bool
names_method (member_of t name) = is_pure_method name
names_method t = false

abbrev mutual
  pub is_pure_tree : Tree → Bool
  is_pure_tree (a_number n) = true
  is_pure_tree (a_text s) = true
  is_pure_tree (a_name s) = true
  is_pure_tree the_scope = true
  is_pure_tree (a_constant c) = true
  is_pure_tree (member_of t s) = is_pure_tree t
  is_pure_tree (item_of t i) = is_pure_tree t && is_pure_tree i
  is_pure_tree (call_of t ts) = names_method t && (is_pure_tree t && are_pure ts)
  is_pure_tree (a_list ts) = are_pure ts
  is_pure_tree (a_record ps) = are_pure_pairs ps
  is_pure_tree (in_brackets t) = is_pure_tree t
  is_pure_tree (signed o t) = is_pure_tree t
  is_pure_tree (combined o a b) = is_pure_tree a && is_pure_tree b
  is_pure_tree (both_of a b) = is_pure_tree a && is_pure_tree b
  is_pure_tree (either_of a b) = is_pure_tree a && is_pure_tree b
  is_pure_tree (choice_of c a b) = is_pure_tree c && (is_pure_tree a && is_pure_tree b)
  is_pure_tree (assigned a b) = false
  is_pure_tree (filtered t s ts) = is_pure_tree t && are_pure ts

  pub are_pure : Trees → Bool
  are_pure no_trees = true
  are_pure (tree_then t ts) = is_pure_tree t && are_pure ts

  pub is_pure_pair : PairTree → Bool
  is_pure_pair (labelled l t) = is_pure_tree t
  is_pure_pair (shorthand s t) = is_pure_tree t
  is_pure_pair (computed n t) = is_pure_tree n && is_pure_tree t

  pub are_pure_pairs : Pairs → Bool
  are_pure_pairs no_pairs = true
  are_pure_pairs (pair_then p ps) = is_pure_pair p && are_pure_pairs ps

-- the same as a property of the tree
abbrev mutual
  pub IsPure : Tree → Type 0
  IsPure (a_number n) = ⊤
  IsPure (a_text s) = ⊤
  IsPure (a_name s) = ⊤
  IsPure the_scope = ⊤
  IsPure (a_constant c) = ⊤
  IsPure (member_of t s) = IsPure t
  IsPure (item_of t i) = IsPure t × IsPure i
  IsPure (call_of t ts) = IsTrue (names_method t) × (IsPure t × ArePure ts)
  IsPure (a_list ts) = ArePure ts
  IsPure (a_record ps) = ArePurePairs ps
  IsPure (in_brackets t) = IsPure t
  IsPure (signed o t) = IsPure t
  IsPure (combined o a b) = IsPure a × IsPure b
  IsPure (both_of a b) = IsPure a × IsPure b
  IsPure (either_of a b) = IsPure a × IsPure b
  IsPure (choice_of c a b) = IsPure c × (IsPure a × IsPure b)
  IsPure (assigned a b) = ⊥
  IsPure (filtered t s ts) = IsPure t × ArePure ts

  pub ArePure : Trees → Type 0
  ArePure no_trees = ⊤
  ArePure (tree_then t ts) = IsPure t × ArePure ts

  pub IsPurePair : PairTree → Type 0
  IsPurePair (labelled l t) = IsPure t
  IsPurePair (shorthand s t) = IsPure t
  IsPurePair (computed n t) = IsPure n × IsPure t

  pub ArePurePairs : Pairs → Type 0
  ArePurePairs no_pairs = ⊤
  ArePurePairs (pair_then p ps) = IsPurePair p × ArePurePairs ps

-- how many arguments a filter has
abbrev pub count_of : Trees → ℕ
count_of no_trees = 0
count_of (tree_then t ts) = suc (count_of ts)

-- each filter that is named is one of those, with its number of arguments
abbrev mutual
  pub filters_known_tree : Tree → Bool
  filters_known_tree (a_number n) = true
  filters_known_tree (a_text s) = true
  filters_known_tree (a_name s) = true
  filters_known_tree the_scope = true
  filters_known_tree (a_constant c) = true
  filters_known_tree (member_of t s) = filters_known_tree t
  filters_known_tree (item_of t i) = filters_known_tree t && filters_known_tree i
  filters_known_tree (call_of t ts) = filters_known_tree t && all_filters_known ts
  filters_known_tree (a_list ts) = all_filters_known ts
  filters_known_tree (a_record ps) = pair_filters_known ps
  filters_known_tree (in_brackets t) = filters_known_tree t
  filters_known_tree (signed o t) = filters_known_tree t
  filters_known_tree (combined o a b) = filters_known_tree a && filters_known_tree b
  filters_known_tree (both_of a b) = filters_known_tree a && filters_known_tree b
  filters_known_tree (either_of a b) = filters_known_tree a && filters_known_tree b
  filters_known_tree (choice_of c a b) = filters_known_tree c && (filters_known_tree a && filters_known_tree b)
  filters_known_tree (assigned a b) = filters_known_tree a && filters_known_tree b
  filters_known_tree (filtered t s ts) = known s (count_of ts) && (filters_known_tree t && all_filters_known ts)

  pub all_filters_known : Trees → Bool
  all_filters_known no_trees = true
  all_filters_known (tree_then t ts) = filters_known_tree t && all_filters_known ts

  pub pair_filter_known : PairTree → Bool
  pair_filter_known (labelled l t) = filters_known_tree t
  pair_filter_known (shorthand s t) = filters_known_tree t
  pair_filter_known (computed n t) = filters_known_tree n && filters_known_tree t

  pub pair_filters_known : Pairs → Bool
  pair_filters_known no_pairs = true
  pair_filters_known (pair_then p ps) = pair_filter_known p && pair_filters_known ps

-- the same as a property of the tree
abbrev mutual
  pub IsKnown : Tree → Type 0
  IsKnown (a_number n) = ⊤
  IsKnown (a_text s) = ⊤
  IsKnown (a_name s) = ⊤
  IsKnown the_scope = ⊤
  IsKnown (a_constant c) = ⊤
  IsKnown (member_of t s) = IsKnown t
  IsKnown (item_of t i) = IsKnown t × IsKnown i
  IsKnown (call_of t ts) = IsKnown t × FiltersKnown ts
  IsKnown (a_list ts) = FiltersKnown ts
  IsKnown (a_record ps) = ArePairsKnown ps
  IsKnown (in_brackets t) = IsKnown t
  IsKnown (signed o t) = IsKnown t
  IsKnown (combined o a b) = IsKnown a × IsKnown b
  IsKnown (both_of a b) = IsKnown a × IsKnown b
  IsKnown (either_of a b) = IsKnown a × IsKnown b
  IsKnown (choice_of c a b) = IsKnown c × (IsKnown a × IsKnown b)
  IsKnown (assigned a b) = IsKnown a × IsKnown b
  IsKnown (filtered t s ts) = IsTrue (known s (count_of ts)) × (IsKnown t × FiltersKnown ts)

  pub FiltersKnown : Trees → Type 0
  FiltersKnown no_trees = ⊤
  FiltersKnown (tree_then t ts) = IsKnown t × FiltersKnown ts

  pub IsPairKnown : PairTree → Type 0
  IsPairKnown (labelled l t) = IsKnown t
  IsPairKnown (shorthand s t) = IsKnown t
  IsPairKnown (computed n t) = IsKnown n × IsKnown t

  pub ArePairsKnown : Pairs → Type 0
  ArePairsKnown no_pairs = ⊤
  ArePairsKnown (pair_then p ps) = IsPairKnown p × ArePairsKnown ps

-- Programs whose patterns of the filter `filter` have no list longer than an array can be.
use Rattle.std.specs.Prelude.{ℕ, ◌≡◌, ◌<◌, ◌^◌, ⊤, true, List, [], length, Ok, codes}
use Rattle.std.specs.Str.{bytes_eq}
use Rattle.ng_base.specs.Objects.{Object}
use Rattle.ng_base.specs.Views.{ViewTree, ViewTrees, ViewFields, prim, list, rec, no_views, view_then, no_fields, field_then, views_list, views_from}
use Rattle.ng_filters.specs.Applied.{first_of}
use Rattle.ng_language.specs.Trees.{Tree, Trees, PairTree, Pairs, a_number, a_text, a_name, the_scope, a_constant, member_of, item_of, call_of, a_list, a_record, in_brackets, signed, combined, both_of, either_of, choice_of, assigned, filtered, no_trees, tree_then, labelled, shorthand, computed, no_pairs, pair_then}
use Rattle.ng_members.specs.Leaves.{Local}
use Rattle.ng_evaluation.specs.Evaluation.{evaluated_all}

-- each fresh list in a view has fewer than 2^32 items, as each array of a store
abbrev mutual
  pub HasShortLists : ViewTree → Type 0
  HasShortLists (prim v) = ⊤
  HasShortLists (list ts) = (length (views_list ts) < 2 ^ 32) × AllHaveShortLists ts
  HasShortLists (rec fs) = FieldsHaveShortLists fs

  pub AllHaveShortLists : ViewTrees → Type 0
  AllHaveShortLists no_views = ⊤
  AllHaveShortLists (view_then t ts) = HasShortLists t × AllHaveShortLists ts

  pub FieldsHaveShortLists : ViewFields → Type 0
  FieldsHaveShortLists no_fields = ⊤
  FieldsHaveShortLists (field_then name t fs) = HasShortLists t × FieldsHaveShortLists fs

-- what holds of each filter in a program, with its arguments
abbrev mutual
  pub EachFilter : (List ℕ → Trees → Type 0) → Tree → Type 0
  EachFilter P (a_number n) = ⊤
  EachFilter P (a_text s) = ⊤
  EachFilter P (a_name s) = ⊤
  EachFilter P the_scope = ⊤
  EachFilter P (a_constant c) = ⊤
  EachFilter P (member_of t s) = EachFilter P t
  EachFilter P (item_of t i) = EachFilter P t × EachFilter P i
  EachFilter P (call_of t ts) = EachFilter P t × EachFilterOfAll P ts
  EachFilter P (a_list ts) = EachFilterOfAll P ts
  EachFilter P (a_record ps) = EachFilterOfPairs P ps
  EachFilter P (in_brackets t) = EachFilter P t
  EachFilter P (signed o t) = EachFilter P t
  EachFilter P (combined o a b) = EachFilter P a × EachFilter P b
  EachFilter P (both_of a b) = EachFilter P a × EachFilter P b
  EachFilter P (either_of a b) = EachFilter P a × EachFilter P b
  EachFilter P (choice_of c a b) = EachFilter P c × (EachFilter P a × EachFilter P b)
  EachFilter P (assigned a b) = EachFilter P a × EachFilter P b
  EachFilter P (filtered t s ts) = P s ts × (EachFilter P t × EachFilterOfAll P ts)

  pub EachFilterOfAll : (List ℕ → Trees → Type 0) → Trees → Type 0
  EachFilterOfAll P no_trees = ⊤
  EachFilterOfAll P (tree_then t ts) = EachFilter P t × EachFilterOfAll P ts

  pub EachFilterOfPair : (List ℕ → Trees → Type 0) → PairTree → Type 0
  EachFilterOfPair P (labelled l t) = EachFilter P t
  EachFilterOfPair P (shorthand s t) = EachFilter P t
  EachFilterOfPair P (computed n t) = EachFilter P n × EachFilter P t

  pub EachFilterOfPairs : (List ℕ → Trees → Type 0) → Pairs → Type 0
  EachFilterOfPairs P no_pairs = ⊤
  EachFilterOfPairs P (pair_then p ps) = EachFilterOfPair P p × EachFilterOfPairs P ps

-- where the filter `filter` is given a pattern, it is one with short lists
abbrev pub HasShortPattern : List Object → ℕ → List Local → List ℕ → Trees → Type 0
HasShortPattern objects scope locals name ts =
    bytes_eq name (codes "filter") ≡ true → (vs : List ViewTree) → evaluated_all objects scope locals [] ts ≡ Ok vs → HasShortLists (first_of (views_from vs))

-- and so is each pattern in a program
abbrev pub HasShortPatterns : List Object → ℕ → List Local → Trees → Type 0
HasShortPatterns objects scope locals p = EachFilterOfAll (HasShortPattern objects scope locals) p

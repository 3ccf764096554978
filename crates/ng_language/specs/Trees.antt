-- The syntax trees of programs, without where they lie in memory.
use Rattle.std.specs.Prelude.{ℕ, List, [], ◌∷◌}
use Rattle.ng_language.specs.declared.syntax.Constant.{Constant}
use Rattle.ng_language.specs.declared.syntax.Unary.{Unary}
use Rattle.ng_language.specs.declared.syntax.Binary.{Binary}
use Rattle.ng_language.specs.declared.syntax.Label.{Label}

mutual
  pub data Tree : Type 0 where
    a_number : ℕ → Tree
    a_text : List ℕ → Tree
    a_name : List ℕ → Tree
    the_scope : Tree
    a_constant : Constant → Tree
    member_of : Tree → List ℕ → Tree
    item_of : Tree → Tree → Tree
    call_of : Tree → Trees → Tree
    a_list : Trees → Tree
    a_record : Pairs → Tree
    in_brackets : Tree → Tree
    signed : Unary → Tree → Tree
    combined : Binary → Tree → Tree → Tree
    both_of : Tree → Tree → Tree
    either_of : Tree → Tree → Tree
    choice_of : Tree → Tree → Tree → Tree
    assigned : Tree → Tree → Tree
    filtered : Tree → List ℕ → Trees → Tree

  pub data Trees : Type 0 where
    no_trees : Trees
    tree_then : Tree → Trees → Trees

  -- a pair of a record: a written name, a name that stands for its own value, a computed name
  pub data PairTree : Type 0 where
    labelled : Label → Tree → PairTree
    shorthand : List ℕ → Tree → PairTree
    computed : Tree → Tree → PairTree

  pub data Pairs : Type 0 where
    no_pairs : Pairs
    pair_then : PairTree → Pairs → Pairs

abbrev pub trees_from : List Tree → Trees
trees_from [] = no_trees
trees_from (t ∷ ts) = tree_then t (trees_from ts)

abbrev pub pairs_from : List PairTree → Pairs
pairs_from [] = no_pairs
pairs_from (p ∷ ps) = pair_then p (pairs_from ps)

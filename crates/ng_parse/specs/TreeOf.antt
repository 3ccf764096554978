-- The tree that an expression of the code stands for.
use Rattle.ng_language.specs.Trees.{Tree, PairTree, a_number, a_text, a_name, the_scope, a_constant, member_of, item_of, call_of, a_list, a_record, in_brackets, signed, combined, both_of, either_of, choice_of, assigned, filtered, labelled, shorthand, computed, trees_from, pairs_from}
use Rattle.ng_parse.specs.declared.tree.Expr.{Expr, fold-Expr}
use Rattle.ng_parse.specs.declared.tree.Pair.{Pair, fold-Pair}
use Rattle.ng_parse.specs.declared.tree.Expr.TheOpen.{Expr-F, Pair-F}

abbrev pub tree_step : Expr-F Tree PairTree → Tree
tree_step (Expr-F.Number n) = a_number n
tree_step (Expr-F.Text s) = a_text s
tree_step (Expr-F.Name s) = a_name s
tree_step Expr-F.This = the_scope
tree_step (Expr-F.Constant c) = a_constant c
tree_step (Expr-F.Member t s) = member_of t.value s
tree_step (Expr-F.Item t i) = item_of t.value i.value
tree_step (Expr-F.Call t v) = call_of t.value (trees_from v.items)
tree_step (Expr-F.List v) = a_list (trees_from v.items)
tree_step (Expr-F.Record v) = a_record (pairs_from v.items)
tree_step (Expr-F.Bracketed t) = in_brackets t.value
tree_step (Expr-F.Unary o t) = signed o t.value
tree_step (Expr-F.Binary o a b) = combined o a.value b.value
tree_step (Expr-F.Both a b) = both_of a.value b.value
tree_step (Expr-F.Either a b) = either_of a.value b.value
tree_step (Expr-F.Choice c a b) = choice_of c.value a.value b.value
tree_step (Expr-F.Assign a b) = assigned a.value b.value
tree_step (Expr-F.Filter t s v) = filtered t.value s (trees_from v.items)

abbrev pub pair_step : Pair-F Tree PairTree → PairTree
pair_step (Pair-F.Labelled l t) = labelled l t
pair_step (Pair-F.Shorthand s t) = shorthand s t
pair_step (Pair-F.Computed t v) = computed t v

abbrev pub tree : Expr → Tree
tree = fold-Expr Tree PairTree tree_step pair_step

abbrev pub pair_tree : Pair → PairTree
pair_tree = fold-Pair Tree PairTree tree_step pair_step

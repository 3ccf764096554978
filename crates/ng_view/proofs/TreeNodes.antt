-- The trees of the nodes that have a child and a list of children.
use Rattle.std.proofs.Common.{◌≡◌, rules, map, Box, Vec, Global}
use Rattle.ng_base.specs.declared.txt.Txt.{Txt}
use Rattle.ng_language.specs.Trees.{call_of, filtered, trees_from}
use Rattle.ng_parse.specs.TreeOf.{tree}
use Rattle.ng_parse.specs.declared.tree.Expr.{Expr, Call, Filter, the_lemmas}

pub tree_of-Call : (t : Box Expr Global) (args : Vec Expr Global) → tree (Call t args) ≡ call_of (tree t.value) (trees_from (map tree args.items))
tree_of-Call t args = search (rules, the_lemmas)

pub tree_of-Filter : (t : Box Expr Global) (name : Txt) (args : Vec Expr Global) → tree (Filter t name args) ≡ filtered (tree t.value) name (trees_from (map tree args.items))
tree_of-Filter t name args = search (rules, the_lemmas)

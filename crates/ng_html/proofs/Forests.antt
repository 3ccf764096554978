-- The lists that forests hold.
use Rattle.std.proofs.Common.{◌≡◌, List, [], ◌∷◌, ◌++◌, map, refl, ap}
use Rattle.std.proofs.lemmas.List.{map-append, reverse-append, length-map, length-reverse}
use Rattle.ng_markup.specs.Forest.{Node, Forest, node, forest_from, with_node}
use Rattle.ng_html.specs.Seen.{node_step, forest_step, node_of, forest_of}
use Rattle.ng_html.specs.declared.forest.Forest as code_forest
use Rattle.ng_html.specs.declared.forest.Node.TheFolds.{fold_out-Forest}

pub forest_of-items : (v : code_forest.Forest) → forest_of v ≡ forest_from (map node_of v.items.items)
forest_of-items = fold_out-Forest Node Forest node_step forest_step

pub forest_from-push : (ns : List Node) (m : Node) → forest_from (ns ++ m ∷ []) ≡ with_node (forest_from ns) m
forest_from-push [] m = refl
forest_from-push (n ∷ ns) m = ap (node n) (forest_from-push ns m)

pub ruleset list_steps = (forest_of-items, forest_from-push, map-append)

pub ruleset stack_steps = (map-append, reverse-append, length-map, length-reverse)

-- Parts of plain nodes, one after another.
use Rattle.std.proofs.Common.{◌≡◌, ◌<◌, ◌≤◌, ℕ, ◌+◌, List, map, drop, get_or, length, ap, sym, ◌∙◌}
use Rattle.std.proofs.lemmas.List.{at_drop_more, drop_all}
use Rattle.ng_html.specs.Seen.{node_of}
use Rattle.ng_html.specs.declared.forest.Node as code_node
use Rattle.ng_markup.specs.Forest.{Node, forest_from}
use Rattle.ng_drawing.specs.Template.{Part, Parts, part_then, with_part}
use Rattle.ng_elements.specs.Plain.{plain_part, plain_parts}
use Rattle.ng_parts.proofs.Joined.{joined, joined-none, joined-one}

abbrev pub plain_list : List Node → Parts
plain_list ns = plain_parts (forest_from ns)

-- a node more
pub plain-turn : (xs : List code_node.Node) (i : ℕ) (x : code_node.Node) (ps : Parts) (p : Part) → i < length xs → x ≡ get_or xs i x → p ≡ plain_part (node_of x)
    → joined (with_part ps p) (plain_list (map node_of (drop (i + 1) xs))) ≡ joined ps (plain_list (map node_of (drop i xs)))
plain-turn xs i x ps p l is made =
    let there : Parts = plain_list (map node_of (drop (i + 1) xs)) in
    joined-one ps p there
    ∙ (ap (λ q. joined ps (part_then q there)) (made ∙ ap (λ y. plain_part (node_of y)) is)
    ∙ sym (at_drop_more (λ zs. joined ps (plain_list (map node_of zs))) xs i x l))

pub plain-end : (xs : List code_node.Node) (i : ℕ) (ps : Parts) → length xs ≤ i → joined ps (plain_list (map node_of (drop i xs))) ≡ ps
plain-end xs i ps l = ap (λ zs. joined ps (plain_list (map node_of zs))) (drop_all i xs l) ∙ joined-none ps

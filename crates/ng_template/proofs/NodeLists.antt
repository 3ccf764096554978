-- Nodes of a list, compiled one after another.
use Rattle.std.proofs.Common.{◌≡◌, ◌<◌, ◌≤◌, ℕ, ◌+◌, List, map, drop, get_or, length, refl, ap, sym, ◌∙◌}
use Rattle.std.proofs.lemmas.List.{at_drop_more, drop_all}
use Rattle.std.specs.Prelude.{Bool, Result, Ok, Err}
use Rattle.ng_base.specs.Meets.{◌>>=◌}
use Rattle.ng_collect.specs.declared.definition.DirectiveDef.{DirectiveDef}
use Rattle.ng_html.specs.Seen.{node_step, forest_step, node_of, forest_of}
use Rattle.ng_html.specs.declared.forest.Node as code_node
use Rattle.ng_html.specs.declared.forest.Node.TheFolds.{fold-roll-Node}
use Rattle.ng_html.specs.declared.forest.Node.TheOpen.{Node-F}
use Rattle.ng_html.specs.declared.forest.Node.TheVariants as variants
use Rattle.ng_markup.specs.Forest.{Node, Forest, element, forest_from}
use Rattle.ng_drawing.specs.Template.{Part, Parts, no_parts, part_then, with_part}
use Rattle.ng_elements.specs.Elements.{Made, Switch}
use Rattle.ng_template.specs.Compiles.{compiled_node, compiled_forest}
use Rattle.ng_directives.specs.declared.fault.TplFault.{TplFault}
use Rattle.ng_parts.proofs.Joined.{joined, joined-one, joined-none}

-- an element of the code
pub node_element : (name : List ℕ) (ats : _) (kids : _) → node_of (variants.Element name ats kids) ≡ element name ats (forest_of kids)
node_element name ats kids = ap node_of (sym (variants.rolls-Element name ats kids)) ∙ fold-roll-Node Node Forest node_step forest_step (Node-F.Element name ats kids)

abbrev pub compiled_list : List DirectiveDef → Bool → Switch → List Node → Made → Result (Parts × Made) TplFault
compiled_list defs slots o ns m = compiled_forest defs slots o (forest_from ns) m

abbrev pub onto : Parts → Result (Parts × Made) TplFault → Result (Parts × Made) TplFault
onto ps r = r >>= λ s. Ok (joined ps s.0, s.1)

onto-one : (ps : Parts) (p : Part) (r : Result (Parts × Made) TplFault) → onto (with_part ps p) r ≡ onto ps (r >>= λ s. Ok (part_then p s.0, s.1))
onto-one ps p (Ok s) = ap (λ x. Ok (x, s.1)) (joined-one ps p s.0)
onto-one ps p (Err e) = refl

onto-none : (r : Result (Parts × Made) TplFault) → onto no_parts r ≡ r
onto-none (Ok s) = refl
onto-none (Err e) = refl

-- a node more
pub compiled-turn : (defs : List DirectiveDef) (slots : Bool) (o : Switch) (xs : List code_node.Node) (i : ℕ) (x : code_node.Node) (ps : Parts) (m n : Made) (p : Part) → i < length xs → x ≡ get_or xs i x
    → compiled_node defs slots o (node_of x) m ≡ Ok (p, n)
    → onto (with_part ps p) (compiled_list defs slots o (map node_of (drop (i + 1) xs)) n) ≡ onto ps (compiled_list defs slots o (map node_of (drop i xs)) m)
compiled-turn defs slots o xs i x ps m n p l is made =
    let here = ap (λ y. compiled_node defs slots o (node_of y) m) (sym is) ∙ made in
    onto-one ps p (compiled_list defs slots o (map node_of (drop (i + 1) xs)) n)
    ∙ (sym (ap (λ (r : Result (Part × Made) TplFault). onto ps (r >>= λ q. compiled_list defs slots o (map node_of (drop (i + 1) xs)) q.1 >>= λ s. Ok (part_then q.0 s.0, s.1))) here)
    ∙ sym (at_drop_more (λ zs. onto ps (compiled_list defs slots o (map node_of zs) m)) xs i x l))

pub compiled-end : (defs : List DirectiveDef) (slots : Bool) (o : Switch) (xs : List code_node.Node) (i : ℕ) (ps : Parts) (m : Made) → length xs ≤ i → onto ps (compiled_list defs slots o (map node_of (drop i xs)) m) ≡ Ok (ps, m)
compiled-end defs slots o xs i ps m l = ap (λ zs. onto ps (compiled_list defs slots o (map node_of zs) m)) (drop_all i xs l) ∙ ap (λ x. Ok (x, m)) (joined-none ps)

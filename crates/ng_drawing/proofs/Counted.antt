-- The nodes of a drawing.
use Rattle.std.proofs.Common.{◌≡◌, ◌+◌, ℕ, refl, ◌∙◌, arith}
use Rattle.ng_markup.specs.Forest.{Forest, no_nodes, node}
use Rattle.ng_drawing.specs.Template.{Part, Contents, Parts, text_part, comment_part, element_part, anchor_part, children, bound, no_parts, part_then}
use Rattle.ng_drawing.specs.Drawing.{Look, Groups, followed_by, draw_part, draw_contents, draw}
use Rattle.ng_drawing.specs.Nodes.{forest_count, part_nodes, content_nodes, nodes, part_filled, content_filled, filled}

-- one forest after another has the nodes of both
count-followed : (f g : Forest) → forest_count (followed_by f g) ≡ forest_count f + forest_count g
count-followed no_nodes g = omega arith
count-followed (node n f) g =
    let h : forest_count (followed_by f g) ≡ forest_count f + forest_count g = count-followed f g in
    omega (arith, h)

module _ (look : Look) (groups : Groups) where
  abbrev count : ℕ → ℕ
  count o = forest_count (groups o)

  mutual
    drawn_part : (p : Part) → forest_count (draw_part look groups p) ≡ part_nodes p + part_filled count p
    drawn_part (text_part pieces) = refl
    drawn_part (comment_part t) = refl
    drawn_part (element_part name own acts attributes contents) =
        let h : forest_count (draw_contents look groups contents) ≡ content_nodes contents + content_filled count contents = drawn_contents contents in
        omega (arith, h)
    drawn_part (anchor_part outlet own starts) = refl

    drawn_contents : (c : Contents) → forest_count (draw_contents look groups c) ≡ content_nodes c + content_filled count c
    drawn_contents (children ps) = drawn_nodes ps
    drawn_contents (bound n) = refl

    pub drawn_nodes : (ps : Parts) → forest_count (draw look groups ps) ≡ nodes ps + filled count ps
    drawn_nodes no_parts = refl
    drawn_nodes (part_then p ps) =
        let h : forest_count (draw_part look groups p) ≡ part_nodes p + part_filled count p = drawn_part p in
        let g : forest_count (draw look groups ps) ≡ nodes ps + filled count ps = drawn_nodes ps in
        count-followed (draw_part look groups p) (draw look groups ps) ∙ omega (arith, h, g)

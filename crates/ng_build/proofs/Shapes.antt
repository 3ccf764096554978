-- What stands of parts: how it is drawn, and where its nodes and holes are.
use Rattle.std.proofs.Common.{◌≡◌, ◌≤◌, ◌<◌, ◌+◌, ℕ, List, [], ◌∷◌, ◌++◌, Option, refl, ap, ◌∙◌, sym, map, arith, append-nil, append_assoc}
use Rattle.ng_base.specs.declared.path.Key.{Key}
use Rattle.ng_markup.specs.Forest.{Forest, no_nodes, node}
use Rattle.ng_dom.specs.Nodes.{followed_by}
use Rattle.ng_dom.specs.Drawing.{Source, Stand, Stands, none_stand, stand_then}
use Rattle.ng_drawing.specs.Drawing as drawing
use Rattle.ng_drawing.specs.Nodes.{part_nodes, content_nodes, nodes}
use Rattle.ng_drawing.specs.Template as template
use Rattle.ng_drawing.specs.Template.{word, hole, Part, Contents, Parts, text_part, comment_part, element_part, anchor_part, children, bound, no_parts, part_then, parts_from}
use Rattle.ng_build.specs.Shape.{part_shape, content_shape, shape, unfilled, piece_holes, part_holes, holes}
use Rattle.ng_drawing.specs.Numbering.{hole_numbers}
use Rattle.ng_build.specs.Building.{Homed, HomedAll}

-- one forest after another
pub same_followed : (f g : Forest) → followed_by f g ≡ drawing.followed_by f g
same_followed no_nodes g = refl
same_followed (node x f) g = ap (λ (h : Forest). node x h) (same_followed f g)

-- what nodes are drawn from, where no name below a bound is touched
module _ (h k : ℕ → Option Source) (keys : ℕ → Key) (end : ℕ) (same : (q : ℕ) → q < end → k q ≡ h q) where
  mutual
    part_homed : (m : ℕ) (p : Part) → m + part_nodes p ≤ end → Homed h (part_shape keys m unfilled p) → Homed k (part_shape keys m unfilled p)
    part_homed m (text_part ps) le g = same m (omega (arith, le)) ∙ g
    part_homed m (comment_part t) le g = same m (omega (arith, le)) ∙ g
    part_homed m (anchor_part o own starts) le g = (same m (omega (arith, le)) ∙ g.0, tt)
    part_homed m (element_part e own acts ats c) le g = (same m (omega (arith, le)) ∙ g.0, content_homed (m + 1) c (omega (arith, le)) g.1)

    pub content_homed : (m : ℕ) (c : Contents) → m + content_nodes c ≤ end → HomedAll h (content_shape keys m unfilled c) → HomedAll k (content_shape keys m unfilled c)
    content_homed m (children ps) le g = homed_stays m ps le g
    content_homed m (bound b) le g = (same m (omega (arith, le)) ∙ g.0, tt)

    pub homed_stays : (m : ℕ) (ps : Parts) → m + nodes ps ≤ end → HomedAll h (shape keys m unfilled ps) → HomedAll k (shape keys m unfilled ps)
    homed_stays m no_parts le g = tt
    homed_stays m (part_then p ps) le g = (part_homed m p (omega (arith, le)) g.0, homed_stays (m + part_nodes p) ps (omega (arith, le)) g.1)

-- one part more at the end
pub nodes-push : (ps : List Part) (q : Part) → nodes (parts_from (ps ++ q ∷ [])) ≡ nodes (parts_from ps) + part_nodes q
nodes-push [] q = omega arith
nodes-push (p ∷ ps) q = omega (arith, nodes-push ps q)

pub nodes-append : (ps qs : List Part) → nodes (parts_from (ps ++ qs)) ≡ nodes (parts_from ps) + nodes (parts_from qs)
nodes-append [] qs = omega arith
nodes-append (p ∷ ps) qs = omega (arith, nodes-append ps qs)

abbrev pub stands_push : Stands → Stand → Stands
stands_push none_stand x = stand_then x none_stand
stands_push (stand_then m ms) x = stand_then m (stands_push ms x)

pub shape-push : (keys : ℕ → Key) (m k : ℕ) (ps : List Part) (q : Part) → k ≡ m + nodes (parts_from ps) → shape keys m unfilled (parts_from (ps ++ q ∷ [])) ≡ stands_push (shape keys m unfilled (parts_from ps)) (part_shape keys k unfilled q)
shape-push keys m k [] q e = ap (λ (n : ℕ). stand_then (part_shape keys n unfilled q) none_stand) (omega (arith, e))
shape-push keys m k (p ∷ ps) q e = ap (λ (ts : Stands). stand_then (part_shape keys m unfilled p) ts) (shape-push keys (m + part_nodes p) k ps q (omega (arith, e)))

pub holes-push : (m k : ℕ) (ps : List Part) (q : Part) → k ≡ m + nodes (parts_from ps) → holes m (parts_from (ps ++ q ∷ [])) ≡ holes m (parts_from ps) ++ part_holes k q
holes-push m k [] q e = append-nil (part_holes m q) ∙ ap (λ (n : ℕ). part_holes n q) (omega (arith, e))
holes-push m k (p ∷ ps) q e =
    ap (λ (xs : List ℕ). part_holes m p ++ xs) (holes-push (m + part_nodes p) k ps q (omega (arith, e)))
    ∙ sym (append_assoc (part_holes m p) (holes (m + part_nodes p) (parts_from ps)) (part_holes k q))

-- the holes of a text are noted as often as they have numbers
pub holes_numbered : (n : ℕ) (ps : List template.Piece) → piece_holes n ps ≡ map (λ (_ : ℕ). n) (hole_numbers ps)
holes_numbered n [] = refl
holes_numbered n (word w ∷ ps) = holes_numbered n ps
holes_numbered n (hole k ∷ ps) = ap (λ (xs : List ℕ). n ∷ xs) (holes_numbered n ps)

-- Plain nodes: they have no hole, no outlet and no number, and those of a list are made one after another.
use Rattle.std.proofs.Common.{◌≡◌, ℕ, cond, List, [], ◌++◌, None, Some, refl, ap, ◌∙◌}
use Rattle.std.specs.Prelude.{option_and_then}
use Rattle.ng_markup.specs.Forest.{Node, Forest, element, text, comment, no_nodes, node}
use Rattle.ng_drawing.specs.Numbering.{is_within, after_part, after_parts, outlets_of_part, after_outlets}
use Rattle.ng_template.specs.Order.{part_holes, holes}
use Rattle.ng_elements.specs.Plain.{plain_part, plain_parts}
use Rattle.ng_template.proofs.Drawn.{plain_drawn}

mutual
  pub plain-holes : (n : Node) → part_holes (plain_part n) ≡ []
  plain-holes (element name ats kids) = plain-all-holes kids
  plain-holes (text t) = refl
  plain-holes (comment t) = refl

  plain-all-holes : (f : Forest) → holes (plain_parts f) ≡ []
  plain-all-holes no_nodes = refl
  plain-all-holes (node n f) = ap (λ (ks : List ℕ). ks ++ holes (plain_parts f)) (plain-holes n) ∙ plain-all-holes f

mutual
  pub plain-after : (k : ℕ) (n : Node) → after_part k (plain_part n) ≡ Some k
  plain-after k (element name ats kids) = ap (λ b. cond b (after_parts k (plain_parts kids)) None) (plain_drawn (is_within k k) ats) ∙ plain-all-after k kids
  plain-after k (text t) = refl
  plain-after k (comment t) = refl

  plain-all-after : (k : ℕ) (f : Forest) → after_parts k (plain_parts f) ≡ Some k
  plain-all-after k no_nodes = refl
  plain-all-after k (node n f) = ap (option_and_then (λ j. after_parts j (plain_parts f))) (plain-after k n) ∙ plain-all-after k f

mutual
  pub plain-outlets : (k : ℕ) (n : Node) → outlets_of_part k (plain_part n) ≡ Some k
  plain-outlets k (element name ats kids) = plain-all-outlets k kids
  plain-outlets k (text t) = refl
  plain-outlets k (comment t) = refl

  plain-all-outlets : (k : ℕ) (f : Forest) → after_outlets k (plain_parts f) ≡ Some k
  plain-all-outlets k no_nodes = refl
  plain-all-outlets k (node n f) = ap (option_and_then (λ j. after_outlets j (plain_parts f))) (plain-outlets k n) ∙ plain-all-outlets k f

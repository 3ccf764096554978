-- Elements that are plain: nothing of them and of what is in them is read, and all of it is shown as it stands (API: ngNonBindable).
use Rattle.std.specs.Prelude.{ℕ, List, [], ◌∷◌, map}
use Rattle.ng_drawing.specs.Template.{PartValue, PartAttributes, Part, Parts, word, always, text_part, comment_part, element_part, no_acts, children, no_parts, part_then}
use Rattle.ng_markup.specs.Forest.{Attributes, Node, Forest, element, text, comment, no_nodes, node}

abbrev pub plain_value : List ℕ × List ℕ → List ℕ × PartValue
plain_value a = (a.0, always (word a.1 ∷ []))

-- values that are plain words
abbrev pub plain_values : Attributes → PartAttributes
plain_values attributes = map plain_value attributes

-- the part of a node that has no directive, no hole and no site, whatever is written there
abbrev mutual
  pub plain_part : Node → Part
  plain_part (element name attributes kids) = element_part name [] no_acts (plain_values attributes) (children (plain_parts kids))
  plain_part (text t) = text_part (word t ∷ [])
  plain_part (comment t) = comment_part t

  pub plain_parts : Forest → Parts
  plain_parts no_nodes = no_parts
  plain_parts (node n f) = part_then (plain_part n) (plain_parts f)

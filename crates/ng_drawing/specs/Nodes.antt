-- How many nodes there are.
use Rattle.std.specs.Prelude.{ℕ, ◌+◌}
use Rattle.ng_markup.specs.Forest.{Node, Forest, element, text, comment, no_nodes, node}
use Rattle.ng_drawing.specs.Template.{Part, Contents, Parts, text_part, comment_part, element_part, anchor_part, children, bound, no_parts, part_then}

-- the elements, texts and comments of a document
abbrev mutual
  pub node_count : Node → ℕ
  node_count (element name attributes kids) = 1 + forest_count kids
  node_count (text t) = 1
  node_count (comment t) = 1

  pub forest_count : Forest → ℕ
  forest_count no_nodes = 0
  forest_count (node n f) = node_count n + forest_count f

-- The nodes that parts are drawn as, without the bodies that fill their outlets: a text is one, whatever holes it has.
abbrev mutual
  pub part_nodes : Part → ℕ
  part_nodes (text_part pieces) = 1
  part_nodes (comment_part t) = 1
  part_nodes (element_part name own acts attributes contents) = 1 + content_nodes contents
  part_nodes (anchor_part outlet own starts) = 1

  pub content_nodes : Contents → ℕ
  content_nodes (children ps) = nodes ps
  content_nodes (bound n) = 1

  pub nodes : Parts → ℕ
  nodes no_parts = 0
  nodes (part_then p ps) = part_nodes p + nodes ps

-- the nodes that fill the outlets of parts
abbrev mutual
  pub part_filled : (ℕ → ℕ) → Part → ℕ
  part_filled count (text_part pieces) = 0
  part_filled count (comment_part t) = 0
  part_filled count (element_part name own acts attributes contents) = content_filled count contents
  part_filled count (anchor_part outlet own starts) = count outlet

  pub content_filled : (ℕ → ℕ) → Contents → ℕ
  content_filled count (children ps) = filled count ps
  content_filled count (bound n) = 0

  pub filled : (ℕ → ℕ) → Parts → ℕ
  filled count no_parts = 0
  filled count (part_then p ps) = part_filled count p + filled count ps

-- the most nodes of a page
abbrev pub node_limit : ℕ
node_limit = 200000

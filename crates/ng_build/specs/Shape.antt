-- What linking makes of a template: what stands of it, with a name for each node in document order, and a key for each site
-- (guide: HTML Compiler, "How directives are compiled").
use Rattle.std.specs.Prelude.{ℕ, ◌+◌, ◌==◌, List, [], ◌∷◌, ◌++◌, map, Result, Ok, Err, nat_lt, slice_index_or, if◌then◌else◌}
use Rattle.ng_base.specs.declared.fault.Fault.{Fault}
use Rattle.ng_base.specs.declared.fault.Fault.TheVariants.{NodeLimit}
use Rattle.ng_base.specs.declared.path.Key.{Key}
use Rattle.ng_dom.specs.Drawing.{DrawnHiding, while_true, while_false, DrawnClass, DrawnValue, always, unless_empty, flag, classes, DrawnAttributes, Stand, Stands, Bodies, text_stands, comment_stands, element_stands, block_stands, none_stand, stand_then, no_bodies}
use Rattle.ng_dom.specs.declared.record.Piece.{Piece}
use Rattle.ng_dom.specs.declared.record.Piece.TheVariants.{Words, Hole}
use Rattle.ng_drawing.specs.Nodes.{part_nodes, nodes, node_limit}
use Rattle.ng_drawing.specs.Template as template
use Rattle.ng_drawing.specs.Template.{word, hole, PartAttributes, Part, Contents, Parts, text_part, comment_part, element_part, anchor_part, children, bound, no_parts, part_then}
use Rattle.ng_drawing.specs.Numbering.{bound_numbers}

-- the key of a number on a scope's path
abbrev pub key_on : List ℕ → ℕ → Key
key_on path serial = record { path = path; serial = record { 0 = serial } }

-- the keys of sites by their numbers
abbrev pub keys_by : List Key → ℕ → Key
keys_by ks n = slice_index_or ks n (key_on [] 0)

-- and on a path, where there is none of a number
abbrev pub keys_or : List ℕ → List Key → ℕ → Key
keys_or path ks n = slice_index_or ks n (key_on path 0)

abbrev pub linked_piece : (ℕ → Key) → template.Piece → Piece
linked_piece keys (word w) = Words w
linked_piece keys (hole n) = Hole (keys n)

-- pieces with the keys of their holes
abbrev pub linked_pieces : (ℕ → Key) → List template.Piece → List Piece
linked_pieces keys ps = map (linked_piece keys) ps

abbrev pub linked_hiding : (ℕ → Key) → template.Hiding → DrawnHiding
linked_hiding keys (template.while_true n) = while_true (keys n)
linked_hiding keys (template.while_false n) = while_false (keys n)

abbrev pub linked_class : (ℕ → Key) → template.PartClass → DrawnClass
linked_class keys c = record {
  written = c.written;
  pieces = linked_pieces keys c.pieces;
  words = map keys c.words;
  hidings = map (linked_hiding keys) c.hidings;
}

abbrev pub linked_value : (ℕ → Key) → template.PartValue → DrawnValue
linked_value keys (template.always ps) = always (linked_pieces keys ps)
linked_value keys (template.unless_empty ps) = unless_empty (linked_pieces keys ps)
linked_value keys (template.flag w n) = flag w (keys n)
linked_value keys (template.classes c) = classes (linked_class keys c)

abbrev pub linked_values : (ℕ → Key) → PartAttributes → DrawnAttributes
linked_values keys ats = map (λ a. (a.0, linked_value keys a.1)) ats

-- what stands of parts, given the keys of the sites, the name of the first node, and the bodies that stand in each outlet
abbrev mutual
  pub part_shape : (ℕ → Key) → ℕ → (ℕ → Bodies) → Part → Stand
  part_shape keys n groups (text_part ps) = text_stands n (linked_pieces keys ps)
  part_shape keys n groups (comment_part t) = comment_stands n t
  part_shape keys n groups (element_part e own acts ats c) = element_stands n e (linked_values keys ats) (content_shape keys (n + 1) groups c)
  part_shape keys n groups (anchor_part outlet own starts) = block_stands n (groups outlet)

  pub content_shape : (ℕ → Key) → ℕ → (ℕ → Bodies) → Contents → Stands
  content_shape keys n groups (children ps) = shape keys n groups ps
  content_shape keys n groups (bound k) = stand_then (text_stands n (Hole (keys k) ∷ [])) none_stand

  pub shape : (ℕ → Key) → ℕ → (ℕ → Bodies) → Parts → Stands
  shape keys n groups no_parts = none_stand
  shape keys n groups (part_then p ps) = stand_then (part_shape keys n groups p) (shape keys (n + part_nodes p) groups ps)

-- no body stands in any outlet yet
abbrev pub unfilled : ℕ → Bodies
unfilled o = no_bodies

-- the names of the anchors in document order, which is that of their outlets
abbrev mutual
  pub part_anchors : ℕ → Part → List ℕ
  part_anchors n (text_part ps) = []
  part_anchors n (comment_part t) = []
  part_anchors n (element_part e own acts ats c) = content_anchors (n + 1) c
  part_anchors n (anchor_part outlet own starts) = n ∷ []

  pub content_anchors : ℕ → Contents → List ℕ
  content_anchors n (children ps) = anchors n ps
  content_anchors n (bound k) = []

  pub anchors : ℕ → Parts → List ℕ
  anchors n no_parts = []
  anchors n (part_then p ps) = part_anchors n p ++ anchors (n + part_nodes p) ps

-- An element's own site is drawn in it, but for the one whose text its contents are. That of an anchor is said to be in it, too.
abbrev pub own_node : ℕ → Contents → ℕ → ℕ
own_node n (children ps) k = n
own_node n (bound b) k = if k == b then n + 1 else n

-- the names of the nodes in which the sites are drawn, in document order; those of the bindings of an element's directives are said to be in it
abbrev pub piece_holes : ℕ → List template.Piece → List ℕ
piece_holes n [] = []
piece_holes n (word w ∷ ps) = piece_holes n ps
piece_holes n (hole k ∷ ps) = n ∷ piece_holes n ps

abbrev mutual
  pub part_holes : ℕ → Part → List ℕ
  part_holes n (text_part ps) = piece_holes n ps
  part_holes n (comment_part t) = []
  part_holes n (element_part e own acts ats c) = map (λ _. n) (bound_numbers acts) ++ (map (own_node n c) own ++ content_holes (n + 1) c)
  part_holes n (anchor_part outlet own starts) = map (λ _. n) own

  pub content_holes : ℕ → Contents → List ℕ
  content_holes n (children ps) = holes n ps
  content_holes n (bound k) = []

  pub holes : ℕ → Parts → List ℕ
  holes n no_parts = []
  holes n (part_then p ps) = part_holes n p ++ holes (n + part_nodes p) ps

-- Where so many nodes are live, the nodes of parts find room, or there is the fault NodeLimit. Nothing is made then.
abbrev pub linked : ℕ → Parts → Result (Unit {0}) Fault
linked live ps = if nat_lt node_limit (live + nodes ps) then Err NodeLimit else Ok tt

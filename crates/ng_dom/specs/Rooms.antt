-- A document as a table: what stands under each name, its children by name alone.
use Rattle.std.specs.Prelude.{ℕ, ◌≡◌, ◌==◌, ◌<◌, List, Option, Some, None, if◌then◌else◌, option_map}
use Rattle.ng_markup.specs.Forest.{Attributes}
use Rattle.ng_dom.specs.Nodes.{NamedNode, NamedForest, NamedGroups, named_text, named_comment, named_element, named_anchor, nothing_named, named_then, no_groups, group_then, name_of, names_of, group_names}

pub data Shape : Type 0 where
  text_shape : List ℕ → Shape
  comment_shape : List ℕ → Shape
  element_shape : List ℕ → Attributes → List ℕ → Shape
  anchor_shape : List (List ℕ) → Shape

-- a node's parent, and what it is
pub record Room : Type 0 where
  pub parent : Option ℕ
  pub shape : Shape

abbrev pub Rooms : Type 0
Rooms = ℕ → Option Room

abbrev pub shape_of : NamedNode → Shape
shape_of (named_text n t) = text_shape t
shape_of (named_comment n t) = comment_shape t
shape_of (named_element n e ats f) = element_shape e ats (names_of f)
shape_of (named_anchor n gs) = anchor_shape (group_names gs)

abbrev pub room_of : Option ℕ → NamedNode → Room
room_of p x = record { parent = p; shape = shape_of x }

-- a child was made after its parent
abbrev pub IsAfter : Option ℕ → ℕ → Type 0
IsAfter None n = Unit {0}
IsAfter (Some p) n = p < n

-- the table has this node under its name, as a child of p
abbrev pub HasRoom : Rooms → Option ℕ → NamedNode → Type 0
HasRoom r p x = IsAfter p (name_of x) × (r (name_of x) ≡ Some (room_of p x))

-- the table has the nodes of a forest, children of p, with all that they hold
abbrev mutual
  pub ReadsInside : Rooms → NamedNode → Type 0
  ReadsInside r (named_text n t) = Unit {0}
  ReadsInside r (named_comment n t) = Unit {0}
  ReadsInside r (named_element n e ats f) = ReadsIn r (Some n) f
  ReadsInside r (named_anchor n gs) = ReadsGroups r (Some n) gs

  pub ReadsIn : Rooms → Option ℕ → NamedForest → Type 0
  ReadsIn r p nothing_named = Unit {0}
  ReadsIn r p (named_then x f) = HasRoom r p x × ReadsInside r x × ReadsIn r p f

  pub ReadsGroups : Rooms → Option ℕ → NamedGroups → Type 0
  ReadsGroups r p no_groups = Unit {0}
  ReadsGroups r p (group_then f gs) = ReadsIn r p f × ReadsGroups r p gs

-- the room of one name is changed
abbrev pub reshaped : (Shape → Shape) → Room → Room
reshaped h x = record { parent = x.parent; shape = h x.shape }

abbrev pub room_changed : ℕ → (Shape → Shape) → Rooms → Rooms
room_changed n h r q = if q == n then option_map (reshaped h) (r q) else r q

-- a new name has a room
abbrev pub room_added : ℕ → Room → Rooms → Rooms
room_added n x r q = if q == n then Some x else r q

-- a text or comment shows another text
abbrev pub shape_told : List ℕ → Shape → Shape
shape_told t (text_shape u) = text_shape t
shape_told t (comment_shape u) = comment_shape t
shape_told t (element_shape e ats ks) = element_shape e ats ks
shape_told t (anchor_shape gs) = anchor_shape gs

-- an element has other attributes
abbrev pub shape_with_attributes : (Attributes → Attributes) → Shape → Shape
shape_with_attributes h (text_shape u) = text_shape u
shape_with_attributes h (comment_shape u) = comment_shape u
shape_with_attributes h (element_shape e ats ks) = element_shape e (h ats) ks
shape_with_attributes h (anchor_shape gs) = anchor_shape gs

-- an element has other children
abbrev pub shape_with_kids : (List ℕ → List ℕ) → Shape → Shape
shape_with_kids h (text_shape u) = text_shape u
shape_with_kids h (comment_shape u) = comment_shape u
shape_with_kids h (element_shape e ats ks) = element_shape e ats (h ks)
shape_with_kids h (anchor_shape gs) = anchor_shape gs

-- an anchor has other groups
abbrev pub shape_with_groups : (List (List ℕ) → List (List ℕ)) → Shape → Shape
shape_with_groups h (text_shape u) = text_shape u
shape_with_groups h (comment_shape u) = comment_shape u
shape_with_groups h (element_shape e ats ks) = element_shape e ats ks
shape_with_groups h (anchor_shape gs) = anchor_shape (h gs)

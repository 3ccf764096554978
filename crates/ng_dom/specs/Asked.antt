-- What a document is asked for.
use Rattle.std.specs.Prelude.{ℕ, Bool, true, false, List, [], Option, Some, None, codes, ◌∷◌, ◌&&◌, ◌||◌, if◌then◌else◌}
use Rattle.std.specs.Str.{bytes_eq}
use Rattle.std.specs.BTreeMap.{is_at}
use Rattle.std.specs.Map.{lookup}
use Rattle.ng_base.specs.Order.{txt_cmp}
use Rattle.ng_markup.specs.Forest.{Attributes}
use Rattle.ng_dom.specs.Nodes.{NamedNode, NamedForest, NamedGroups, named_text, named_comment, named_element, named_anchor, nothing_named, named_then, no_groups, group_then}
use Rattle.ng_dom.specs.Rooms.{Shape, Room, text_shape, comment_shape, element_shape, anchor_shape}

abbrev pub is_element_shape : Shape → Bool
is_element_shape (text_shape t) = false
is_element_shape (comment_shape t) = false
is_element_shape (element_shape e ats ks) = true
is_element_shape (anchor_shape gs) = false

-- a room is an element's
abbrev pub is_element_room : Option Room → Bool
is_element_room None = false
is_element_room (Some x) = is_element_shape x.shape

abbrev pub shape_attribute : List ℕ → Shape → Option (List ℕ)
shape_attribute name (text_shape t) = None
shape_attribute name (comment_shape t) = None
shape_attribute name (element_shape e ats ks) = lookup (is_at (txt_cmp name)) ats
shape_attribute name (anchor_shape gs) = None

-- the value of an element's attribute
abbrev pub attribute_in : List ℕ → Option Room → Option (List ℕ)
attribute_in name None = None
attribute_in name (Some x) = shape_attribute name x.shape

abbrev pub shape_kids : Shape → List ℕ
shape_kids (text_shape t) = []
shape_kids (comment_shape t) = []
shape_kids (element_shape e ats ks) = ks
shape_kids (anchor_shape gs) = []

-- the children of an element by name
abbrev pub kids_in : Option Room → List ℕ
kids_in None = []
kids_in (Some x) = shape_kids x.shape

-- the first, or else the second
abbrev pub first_of_two : Option ℕ → Option ℕ → Option ℕ
first_of_two (Some n) o = Some n
first_of_two None o = o

-- an attribute `id` of this value is among them
abbrev pub has_id : List ℕ → Attributes → Bool
has_id id [] = false
has_id id (a ∷ ats) = (bytes_eq a.0 (codes "id") && bytes_eq a.1 id) || has_id id ats

-- the first element with an id, in document order
abbrev mutual
  pub node_with_id : List ℕ → NamedNode → Option ℕ
  node_with_id id (named_text n t) = None
  node_with_id id (named_comment n t) = None
  node_with_id id (named_element n e ats f) = if has_id id ats then Some n else first_with_id id f
  node_with_id id (named_anchor n gs) = group_with_id id gs

  pub first_with_id : List ℕ → NamedForest → Option ℕ
  first_with_id id nothing_named = None
  first_with_id id (named_then x f) = first_of_two (node_with_id id x) (first_with_id id f)

  pub group_with_id : List ℕ → NamedGroups → Option ℕ
  group_with_id id no_groups = None
  group_with_id id (group_then f gs) = first_of_two (first_with_id id f) (group_with_id id gs)

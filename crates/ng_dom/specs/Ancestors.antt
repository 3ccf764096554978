-- A node and the elements that it stands in: the way of an event that bubbles. An anchor is no element, and what its groups hold
-- stands beside it.
use Rattle.std.specs.Prelude.{ℕ, zero, suc, ◌==◌, List, [], ◌∷◌, ◌++◌, Option, Some, None, option_map, option_and_then, unwrap_or, if◌then◌else◌}
use Rattle.std.specs.Option.{option_or}
use Rattle.ng_dom.specs.Asked.{is_element_room}
use Rattle.ng_dom.specs.Nodes.{NamedNode, NamedForest, NamedGroups, named_text, named_comment, named_element, named_anchor, nothing_named, named_then, no_groups, group_then}
use Rattle.ng_dom.specs.Rooms.{Room, Rooms}

-- the name of a node that stands here, and then those of the elements round it, from the inside out
abbrev mutual
  pub line_in_node : ℕ → NamedNode → Option (List ℕ)
  line_in_node n (named_text m t) = if m == n then Some (n ∷ []) else None
  line_in_node n (named_comment m t) = if m == n then Some (n ∷ []) else None
  line_in_node n (named_element m e ats f) = if m == n then Some (n ∷ []) else option_map (λ l. l ++ m ∷ []) (line_in n f)
  line_in_node n (named_anchor m gs) = if m == n then Some (n ∷ []) else line_in_groups n gs

  pub line_in : ℕ → NamedForest → Option (List ℕ)
  line_in n nothing_named = None
  line_in n (named_then x f) = option_or (line_in_node n x) (line_in n f)

  pub line_in_groups : ℕ → NamedGroups → Option (List ℕ)
  line_in_groups n no_groups = None
  line_in_groups n (group_then f gs) = option_or (line_in n f) (line_in_groups n gs)

-- the way of an event from a node outwards
abbrev pub line : ℕ → NamedForest → List ℕ
line n f = unwrap_or (line_in n f) []

-- the parent of a name that is live
abbrev pub parent_in : Rooms → ℕ → Option ℕ
parent_in r n = option_and_then (λ (x : Room). x.parent) (r n)

-- a name is that of an element
abbrev pub if_element : Option Room → ℕ → List ℕ
if_element x n = if is_element_room x then n ∷ [] else []

-- the elements from a name on upwards, so many steps at the most
abbrev pub outer_line : ℕ → Rooms → Option ℕ → List ℕ
outer_line zero r o = []
outer_line (suc k) r None = []
outer_line (suc k) r (Some m) = if_element (r m) m ++ outer_line k r (parent_in r m)

-- Walks of the document from a name downwards, so many levels deep at the most.
use Rattle.std.specs.Prelude.{ℕ, zero, suc, List, [], ◌∷◌, Option, Some, None}
use Rattle.ng_markup.specs.Forest.{Forest, element, text, comment, no_nodes, node}
use Rattle.ng_dom.specs.Nodes.{NamedForest, NamedGroups, named_text, named_comment, named_element, named_anchor, nothing_named, named_then, no_groups, group_then, followed_by}
use Rattle.ng_dom.specs.Rooms.{Shape, Room, Rooms, text_shape, comment_shape, element_shape, anchor_shape}

abbrev pub told_all : (ℕ → Forest) → List ℕ → Forest
told_all g [] = no_nodes
told_all g (n ∷ ns) = followed_by (g n) (told_all g ns)

abbrev pub told_groups : (ℕ → Forest) → List (List ℕ) → Forest
told_groups g [] = no_nodes
told_groups g (ns ∷ gs) = followed_by (told_all g ns) (told_groups g gs)

abbrev pub told_shape : (ℕ → Forest) → Shape → Forest
told_shape g (text_shape t) = node (text t) no_nodes
told_shape g (comment_shape t) = node (comment t) no_nodes
told_shape g (element_shape e ats ks) = node (element e ats (told_all g ks)) no_nodes
told_shape g (anchor_shape gs) = node (comment []) (told_groups g gs)

abbrev pub told_room : (ℕ → Forest) → Option Room → Forest
told_room g None = no_nodes
told_room g (Some x) = told_shape g x.shape

-- the plain forest of a name
abbrev pub told : ℕ → Rooms → ℕ → Forest
told zero r n = no_nodes
told (suc k) r n = told_room (told k r) (r n)

-- one after another
abbrev pub named_followed : NamedForest → NamedForest → NamedForest
named_followed nothing_named g = g
named_followed (named_then x f) g = named_then x (named_followed f g)

abbrev pub read_all : (ℕ → NamedForest) → List ℕ → NamedForest
read_all g [] = nothing_named
read_all g (n ∷ ns) = named_followed (g n) (read_all g ns)

abbrev pub read_groups : (ℕ → NamedForest) → List (List ℕ) → NamedGroups
read_groups g [] = no_groups
read_groups g (ns ∷ gs) = group_then (read_all g ns) (read_groups g gs)

abbrev pub read_shape : (ℕ → NamedForest) → ℕ → Shape → NamedForest
read_shape g n (text_shape t) = named_then (named_text n t) nothing_named
read_shape g n (comment_shape t) = named_then (named_comment n t) nothing_named
read_shape g n (element_shape e ats ks) = named_then (named_element n e ats (read_all g ks)) nothing_named
read_shape g n (anchor_shape gs) = named_then (named_anchor n (read_groups g gs)) nothing_named

abbrev pub read_room : (ℕ → NamedForest) → ℕ → Option Room → NamedForest
read_room g n None = nothing_named
read_room g n (Some x) = read_shape g n x.shape

-- the node of a name with all that it holds
abbrev pub read : ℕ → Rooms → ℕ → NamedForest
read zero r n = nothing_named
read (suc k) r n = read_room (read k r) n (r n)

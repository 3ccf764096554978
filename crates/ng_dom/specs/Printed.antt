-- The nodes as they are printed: an anchor is an empty comment, and the nodes of its groups follow it as its siblings.
use Rattle.std.specs.Prelude.{ℕ, zero, suc, ◌==◌, Bool, false, List, [], ◌∷◌, ◌++◌, length, min, Option, Some, None, option_and_then, if◌then◌else◌}
use Rattle.ng_markup.specs.Forest.{Forest, Node, element, text, comment, no_nodes, node}
use Rattle.ng_dom.specs.Nodes.{NamedNode, NamedForest, NamedGroups, named_text, named_comment, named_element, named_anchor, nothing_named, named_then, no_groups, group_then, name_of, plain}
use Rattle.ng_dom.specs.Rooms.{Rooms, HasRoom, ReadsInside}
use Rattle.ng_dom.specs.declared.seeking.Sought.{Sought}
use Rattle.ng_dom.specs.declared.seeking.Sought.TheVariants.{Found, Left}

-- the nodes that are printed one beside another
abbrev mutual
  pub level_node : NamedNode → List NamedNode
  level_node (named_text n t) = named_text n t ∷ []
  level_node (named_comment n t) = named_comment n t ∷ []
  level_node (named_element n e ats f) = named_element n e ats f ∷ []
  level_node (named_anchor n gs) = named_anchor n gs ∷ level_groups gs

  pub level : NamedForest → List NamedNode
  level nothing_named = []
  level (named_then x f) = level_node x ++ level f

  pub level_groups : NamedGroups → List NamedNode
  level_groups no_groups = []
  level_groups (group_then f gs) = level f ++ level_groups gs

-- what is printed inside a node
abbrev pub inner : NamedNode → NamedForest
inner (named_text n t) = nothing_named
inner (named_comment n t) = nothing_named
inner (named_element n e ats f) = f
inner (named_anchor n gs) = nothing_named

abbrev pub nth_of : {X : Type 0} → ℕ → List X → Option X
nth_of i [] = None
nth_of zero (x ∷ xs) = Some x
nth_of (suc i) (x ∷ xs) = nth_of i xs

-- down from a node by the numbers of a path
abbrev pub went : Option NamedNode → List ℕ → Option NamedNode
went o [] = o
went o (i ∷ p) = went (option_and_then (λ x. nth_of i (level (inner x))) o) p

-- the node at a path of the printed document
abbrev pub at_place : List ℕ → NamedForest → Option NamedNode
at_place [] f = None
at_place (i ∷ p) f = went (nth_of i (level f)) p

-- how many nodes are printed one beside another, as far as a u32 counts
abbrev pub counted_level : NamedForest → ℕ
counted_level f = min (length (level f)) 4294967295

abbrev pub is_it : Option ℕ → ℕ → Bool
is_it None n = false
is_it (Some m) n = m == n

-- the node at a place, or an earlier one of a name; or how many places are left after these nodes
abbrev pub seek : Option ℕ → ℕ → List NamedNode → Sought
seek o j [] = Left j
seek o zero (x ∷ xs) = Found (name_of x) zero
seek o (suc j) (x ∷ xs) = if is_it o (name_of x) then Found (name_of x) (suc j) else seek o j xs

abbrev pub found : Sought → Option ℕ
found (Found n j) = Some n
found (Left j) = None

-- the same of the document without names
abbrev pub plain_node_of : NamedNode → Node
plain_node_of (named_text n t) = text t
plain_node_of (named_comment n t) = comment t
plain_node_of (named_element n e ats f) = element e ats (plain f)
plain_node_of (named_anchor n gs) = comment []

abbrev pub nodes_of : Forest → List Node
nodes_of no_nodes = []
nodes_of (node x f) = x ∷ nodes_of f

abbrev pub inside_plain : Node → List Node
inside_plain (element e ats f) = nodes_of f
inside_plain (text t) = []
inside_plain (comment t) = []

abbrev pub plain_went : Option Node → List ℕ → Option Node
plain_went o [] = o
plain_went o (i ∷ p) = plain_went (option_and_then (λ x. nth_of i (inside_plain x)) o) p

-- the node at a path of a forest
abbrev pub plain_at : List ℕ → Forest → Option Node
plain_at [] f = None
plain_at (i ∷ p) f = plain_went (nth_of i (nodes_of f)) p

-- down by the numbers of a path, from the top or from a node, each step by a look-up
abbrev pub followed : (Option ℕ → ℕ → Option ℕ) → Option ℕ → List ℕ → Option ℕ
followed child o [] = o
followed child o (i ∷ p) = option_and_then (λ n. followed child (Some n) p) (child o i)

-- a table has a node with all that it holds
pub record IsRead (r : Rooms) (x : NamedNode) : Type 0 where
  pub parent : Option ℕ
  pub room : HasRoom r parent x
  pub inside : ReadsInside r x

-- A document whose nodes have names. An anchor stands for a block of the template: it holds what the block brought, a group
-- for each body or row.
use Rattle.std.specs.Prelude.{ℕ, List, [], ◌∷◌, ◌++◌}
use Rattle.ng_markup.specs.Forest.{Attributes, Forest, element, text, comment, no_nodes, node}

mutual
  pub data NamedNode : Type 0 where
    named_text : (name : ℕ) → List ℕ → NamedNode
    named_comment : (name : ℕ) → List ℕ → NamedNode
    named_element : (name : ℕ) → List ℕ → Attributes → NamedForest → NamedNode
    named_anchor : (name : ℕ) → NamedGroups → NamedNode

  pub data NamedForest : Type 0 where
    nothing_named : NamedForest
    named_then : NamedNode → NamedForest → NamedForest

  pub data NamedGroups : Type 0 where
    no_groups : NamedGroups
    group_then : NamedForest → NamedGroups → NamedGroups

abbrev pub name_of : NamedNode → ℕ
name_of (named_text n t) = n
name_of (named_comment n t) = n
name_of (named_element n e ats f) = n
name_of (named_anchor n gs) = n

abbrev pub names_of : NamedForest → List ℕ
names_of nothing_named = []
names_of (named_then x f) = name_of x ∷ names_of f

abbrev pub group_names : NamedGroups → List (List ℕ)
group_names no_groups = []
group_names (group_then f gs) = names_of f ∷ group_names gs

-- the names of all nodes, in document order: a node comes before what it holds
abbrev mutual
  pub node_names : NamedNode → List ℕ
  node_names (named_text n t) = n ∷ []
  node_names (named_comment n t) = n ∷ []
  node_names (named_element n e ats f) = n ∷ all_names f
  node_names (named_anchor n gs) = n ∷ all_group_names gs

  pub all_names : NamedForest → List ℕ
  all_names nothing_named = []
  all_names (named_then x f) = node_names x ++ all_names f

  pub all_group_names : NamedGroups → List ℕ
  all_group_names no_groups = []
  all_group_names (group_then f gs) = all_names f ++ all_group_names gs

-- one forest after another
abbrev pub followed_by : Forest → Forest → Forest
followed_by no_nodes g = g
followed_by (node n f) g = node n (followed_by f g)

-- the document without names: an anchor is an empty comment, and its groups stand after it
abbrev mutual
  pub plain_node : NamedNode → Forest
  plain_node (named_text n t) = node (text t) no_nodes
  plain_node (named_comment n t) = node (comment t) no_nodes
  plain_node (named_element n e ats f) = node (element e ats (plain f)) no_nodes
  plain_node (named_anchor n gs) = node (comment []) (plain_groups gs)

  pub plain : NamedForest → Forest
  plain nothing_named = no_nodes
  plain (named_then x f) = followed_by (plain_node x) (plain f)

  pub plain_groups : NamedGroups → Forest
  plain_groups no_groups = no_nodes
  plain_groups (group_then f gs) = followed_by (plain f) (plain_groups gs)

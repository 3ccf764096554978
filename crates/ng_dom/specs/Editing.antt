-- Changes of a document: one function for a node, everywhere where the node's name stands.
use Rattle.std.specs.Prelude.{ℕ, zero, suc, Option, Some, None, ◌==◌, List, [], ◌∷◌, if◌then◌else◌}
use Rattle.std.specs.BTreeMap.{insert_entry, is_at}
use Rattle.std.specs.Map.{remove_entry}
use Rattle.ng_base.specs.Order.{txt_cmp}
use Rattle.ng_markup.specs.Forest.{Attributes}
use Rattle.ng_dom.specs.Nodes.{NamedNode, NamedForest, NamedGroups, named_text, named_comment, named_element, named_anchor, nothing_named, named_then, no_groups, group_then, name_of}

abbrev pub at_name : ℕ → (NamedNode → NamedNode) → NamedNode → NamedNode
at_name n g x = if name_of x == n then g x else x

-- a node is changed wherever it stands: what it holds first, then the node itself
abbrev mutual
  pub changed : ℕ → (NamedNode → NamedNode) → NamedNode → NamedNode
  changed n g (named_text m t) = at_name n g (named_text m t)
  changed n g (named_comment m t) = at_name n g (named_comment m t)
  changed n g (named_element m e ats f) = at_name n g (named_element m e ats (changed_in n g f))
  changed n g (named_anchor m gs) = at_name n g (named_anchor m (changed_groups n g gs))

  pub changed_in : ℕ → (NamedNode → NamedNode) → NamedForest → NamedForest
  changed_in n g nothing_named = nothing_named
  changed_in n g (named_then x f) = named_then (changed n g x) (changed_in n g f)

  pub changed_groups : ℕ → (NamedNode → NamedNode) → NamedGroups → NamedGroups
  changed_groups n g no_groups = no_groups
  changed_groups n g (group_then f gs) = group_then (changed_in n g f) (changed_groups n g gs)

-- a text or comment shows another text
abbrev pub with_text : List ℕ → NamedNode → NamedNode
with_text t (named_text n u) = named_text n t
with_text t (named_comment n u) = named_comment n t
with_text t (named_element n e ats f) = named_element n e ats f
with_text t (named_anchor n gs) = named_anchor n gs

-- attributes with a value under a name, in order of the names
abbrev pub attribute_set : List ℕ → List ℕ → Attributes → Attributes
attribute_set name value ats = insert_entry txt_cmp ats name value

abbrev pub attribute_dropped : List ℕ → Attributes → Attributes
attribute_dropped name ats = remove_entry (is_at (txt_cmp name)) ats

-- an element has other attributes
abbrev pub with_attributes : (Attributes → Attributes) → NamedNode → NamedNode
with_attributes h (named_text n u) = named_text n u
with_attributes h (named_comment n u) = named_comment n u
with_attributes h (named_element n e ats f) = named_element n e (h ats) f
with_attributes h (named_anchor n gs) = named_anchor n gs

-- a node is put before the i-th
abbrev pub node_inserted : ℕ → NamedNode → NamedForest → NamedForest
node_inserted zero x f = named_then x f
node_inserted (suc i) x nothing_named = named_then x nothing_named
node_inserted (suc i) x (named_then y f) = named_then y (node_inserted i x f)

-- an element has other children
abbrev pub with_kids : (NamedForest → NamedForest) → NamedNode → NamedNode
with_kids h (named_text n u) = named_text n u
with_kids h (named_comment n u) = named_comment n u
with_kids h (named_element n e ats f) = named_element n e ats (h f)
with_kids h (named_anchor n gs) = named_anchor n gs

-- an anchor has other groups
abbrev pub with_groups : (NamedGroups → NamedGroups) → NamedNode → NamedNode
with_groups h (named_text n u) = named_text n u
with_groups h (named_comment n u) = named_comment n u
with_groups h (named_element n e ats f) = named_element n e ats f
with_groups h (named_anchor n gs) = named_anchor n (h gs)

-- a group is put before the i-th
abbrev pub group_inserted : ℕ → NamedForest → NamedGroups → NamedGroups
group_inserted zero f gs = group_then f gs
group_inserted (suc i) f no_groups = group_then f no_groups
group_inserted (suc i) f (group_then g gs) = group_then g (group_inserted i f gs)

-- the i-th group is taken out
abbrev pub group_removed : ℕ → NamedGroups → NamedGroups
group_removed i no_groups = no_groups
group_removed zero (group_then g gs) = gs
group_removed (suc i) (group_then g gs) = group_then g (group_removed i gs)

abbrev pub group_at : ℕ → NamedGroups → NamedForest
group_at i no_groups = nothing_named
group_at zero (group_then g gs) = g
group_at (suc i) (group_then g gs) = group_at i gs

-- the groups of these places, in this order
abbrev pub picked : List ℕ → NamedGroups → NamedGroups
picked [] gs = no_groups
picked (i ∷ is) gs = group_then (group_at i gs) (picked is gs)

-- the first node of a name
abbrev pub node_named : ℕ → NamedForest → Option NamedNode
node_named n nothing_named = None
node_named n (named_then x f) = if name_of x == n then Some x else node_named n f

-- the first node of a name is taken out
abbrev pub node_cut : ℕ → NamedForest → NamedForest
node_cut n nothing_named = nothing_named
node_cut n (named_then x f) = if name_of x == n then f else named_then x (node_cut n f)

abbrev pub placed_again : ℕ → ℕ → Option NamedNode → NamedForest → NamedForest
placed_again i n None f = f
placed_again i n (Some x) f = node_inserted i x (node_cut n f)

-- a node is taken out, and put before the i-th of the others
abbrev pub node_moved : ℕ → ℕ → NamedForest → NamedForest
node_moved i n f = placed_again i n (node_named n f) f

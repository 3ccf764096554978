-- The path of a node in what is printed.
use Rattle.std.specs.Prelude.{ℕ, suc, ◌==◌, List, [], ◌∷◌, ◌++◌, reverse, Option, Some, None, IsSome, if◌then◌else◌}
use Rattle.ng_dom.specs.Nodes.{NamedNode, NamedForest, NamedGroups, named_text, named_comment, named_element, named_anchor, nothing_named, named_then, no_groups, group_then}
use Rattle.ng_dom.specs.declared.paths.Way.{Way}
use Rattle.ng_dom.specs.declared.paths.Way.TheVariants.{Reached, Passed}

-- what was found inside the node at the place i
abbrev pub under : ℕ → Way → Way
under i (Reached p) = Reached (p ++ i ∷ [])
under i (Passed j) = Passed (suc i)

-- what was found, or else what is found from the next place on
abbrev pub or_from : Way → (ℕ → Way) → Way
or_from (Reached p) g = Reached p
or_from (Passed j) g = g j

-- from the place i on: the numbers on the way up from the first node of a name, or the place after all
abbrev mutual
  pub way_node : ℕ → ℕ → NamedNode → Way
  way_node n i (named_text m t) = if m == n then Reached (i ∷ []) else Passed (suc i)
  way_node n i (named_comment m t) = if m == n then Reached (i ∷ []) else Passed (suc i)
  way_node n i (named_element m e ats f) = if m == n then Reached (i ∷ []) else under i (way n 0 f)
  way_node n i (named_anchor m gs) = if m == n then Reached (i ∷ []) else way_groups n (suc i) gs

  pub way : ℕ → ℕ → NamedForest → Way
  way n i nothing_named = Passed i
  way n i (named_then x f) = or_from (way_node n i x) (λ j. way n j f)

  pub way_groups : ℕ → ℕ → NamedGroups → Way
  way_groups n i no_groups = Passed i
  way_groups n i (group_then f gs) = or_from (way n i f) (λ j. way_groups n j gs)

abbrev pub downwards : Way → Option (List ℕ)
downwards (Reached p) = Some (reverse p)
downwards (Passed j) = None

-- the path of the first node of a name, in document order
abbrev pub path_in : ℕ → NamedForest → Option (List ℕ)
path_in n f = downwards (way n 0 f)

-- a node of this name stands in a forest
abbrev pub StandsIn : ℕ → NamedForest → Type 0
StandsIn n f = IsSome (path_in n f)

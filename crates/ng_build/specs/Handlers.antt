-- Which programs handle the events of the document at the nodes of parts (API: ngClick). Linking enters them in a table, node by
-- node.
use Rattle.std.specs.Prelude.{ℕ, zero, suc, ◌+◌, Bool, List, [], ◌∷◌, Option, unwrap_or, is_some, if◌then◌else◌}
use Rattle.std.specs.BTreeMap.{insert_entry, is_at}
use Rattle.std.specs.Map.{lookup}
use Rattle.std.specs.Ordering.{nat_cmp}
use Rattle.std.specs.Str.{bytes_eq}
use Rattle.ng_drawing.specs.Nodes.{part_nodes}
use Rattle.ng_drawing.specs.Template.{Part, Contents, Parts, text_part, comment_part, element_part, anchor_part, children, bound, no_parts, part_then}
use Rattle.ng_language.specs.Trees.{Trees}

-- programs in the order of an element's directives, each with the name of its event
abbrev pub Handlers : Type 0
Handlers = List (List ℕ × Trees)

-- what handles events at each node that has a handler
abbrev pub Handled : Type 0
Handled = List (ℕ × Handlers)

-- an element's handlers are entered under the name of its node
abbrev pub with_handlers : ℕ → Handlers → Handled → Handled
with_handlers n [] t = t
with_handlers n (h ∷ hs) t = insert_entry nat_cmp t n (h ∷ hs)

-- those of parts are entered, given the name of the first node
abbrev mutual
  pub part_handled : ℕ → Part → Handled → Handled
  part_handled n (text_part ps) t = t
  part_handled n (comment_part c) t = t
  part_handled n (anchor_part outlet own starts) t = t
  part_handled n (element_part e own acts ats c) t = contents_handled (n + 1) c (with_handlers n acts.handlers t)

  pub contents_handled : ℕ → Contents → Handled → Handled
  contents_handled n (children ps) t = handled n ps t
  contents_handled n (bound k) t = t

  pub handled : ℕ → Parts → Handled → Handled
  handled n no_parts t = t
  handled n (part_then p ps) t = handled (n + part_nodes p) ps (part_handled n p t)

-- the scopes of elements, by the names of their nodes, but for the instance's own
abbrev pub with_scope : ℕ → ℕ → List (ℕ × ℕ) → List (ℕ × ℕ)
with_scope n zero t = t
with_scope n (suc s) t = insert_entry nat_cmp t n (suc s)

abbrev mutual
  pub part_scoped : ℕ → Part → List (ℕ × ℕ) → List (ℕ × ℕ)
  part_scoped n (text_part ps) t = t
  part_scoped n (comment_part c) t = t
  part_scoped n (anchor_part outlet own starts) t = t
  part_scoped n (element_part e own acts ats c) t = contents_scoped (n + 1) c (with_scope n acts.scopes.own t)

  pub contents_scoped : ℕ → Contents → List (ℕ × ℕ) → List (ℕ × ℕ)
  contents_scoped n (children ps) t = scoped n ps t
  contents_scoped n (bound k) t = t

  pub scoped : ℕ → Parts → List (ℕ × ℕ) → List (ℕ × ℕ)
  scoped n no_parts t = t
  scoped n (part_then p ps) t = scoped (n + part_nodes p) ps (part_scoped n p t)

-- the programs for an event, in order
abbrev pub for_event : List ℕ → Handlers → List Trees
for_event e [] = []
for_event e (h ∷ hs) = if bytes_eq h.0 e then h.1 ∷ for_event e hs else for_event e hs

-- what is entered under the name of a node
abbrev pub entered_at : ℕ → Handled → Option Handlers
entered_at n t = lookup (is_at (nat_cmp n)) t

abbrev pub programs_at : ℕ → List ℕ → Handled → List Trees
programs_at n e t = for_event e (unwrap_or (entered_at n t) [])

abbrev pub is_entered : ℕ → Handled → Bool
is_entered n t = is_some (entered_at n t)

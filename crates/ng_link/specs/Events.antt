-- The document of a page with the names of its nodes, and what handles its events there.
use Rattle.std.specs.Prelude.{ℕ, Bool, List, [], map, Option, Some, None, option_and_then, unwrap_or}
use Rattle.std.specs.BTreeMap.{is_at}
use Rattle.std.specs.Map.{lookup}
use Rattle.std.specs.Ordering.{nat_cmp}
use Rattle.ng_dom.specs.Drawing.{Stands, shows}
use Rattle.ng_dom.specs.Nodes.{NamedForest}
use Rattle.ng_language.specs.Trees.{Trees}
use Rattle.ng_control.specs.State.{ControlState}
use Rattle.ng_control.specs.declared.kind.ControlKind.{ControlKind}
use Rattle.ng_build.specs.Controls.{ControlHere, Controlled, controlled_at, state_under, kind_in}
use Rattle.ng_build.specs.Handlers.{Handled, programs_at, is_entered}
use Rattle.ng_instances.specs.Instances.{Body, Linked, Instances, linked_at, scope_number, stands_at, owner_of}
use Rattle.ng_link.specs.State.{State, looks_in}

-- what stands of what is linked
abbrev pub stands_in : State → Stands
stands_in s = stands_at s.instances []

-- the document that a page shows, with the names of its nodes
abbrev pub named : State → NamedForest
named s = shows (looks_in s) (stands_in s)

-- the instance to which a node belongs
abbrev pub instance_of_node : State → ℕ → Option Linked
instance_of_node s n = option_and_then (λ p. linked_at p s.instances) (owner_of n s.owners)

abbrev pub handled_in : Option Linked → Handled
handled_in None = []
handled_in (Some l) = l.page.handlers

abbrev pub scope_in : Option Linked → ℕ
scope_in None = 0
scope_in (Some l) = l.page.scope

-- the scopes of the instances on the paths of bodies
abbrev pub scopes_at : List Body → Instances → List ℕ
scopes_at bs is = map (λ (b : Body). scope_in (linked_at b.path is)) bs

-- the programs that handle an event at a node, in order; none where no such node stands
abbrev pub handlers_at : State → ℕ → List ℕ → List Trees
handlers_at s n e = programs_at n e (handled_in (instance_of_node s n))

-- a node that has a handler stands
abbrev pub is_handling : State → ℕ → Bool
is_handling s n = is_entered n (handled_in (instance_of_node s n))

-- the control that a node is
abbrev pub controlled_in : Option Linked → Controlled
controlled_in None = []
controlled_in (Some l) = l.page.controls

abbrev pub control_at : State → ℕ → Option ControlHere
control_at s n = controlled_at n (controlled_in (instance_of_node s n))

-- its state, and its kind
abbrev pub state_by : Option ControlHere → State → Option ControlState
state_by None s = None
state_by (Some c) s = state_under c.key s.controls

abbrev pub kind_at : State → ℕ → Option ControlKind
kind_at s n = kind_in (state_by (control_at s n) s)

-- The scope of a node: that of the instance to which it belongs, or the inner one of its element.
abbrev pub element_scope : ℕ → Option Linked → ℕ
element_scope n None = 0
element_scope n (Some l) = scope_number l.page (unwrap_or (lookup (is_at (nat_cmp n)) l.page.elements) 0)

abbrev pub scope_of : State → ℕ → ℕ
scope_of s n = element_scope n (instance_of_node s n)

-- The controls of what is linked (API: ngModel). What never changes of one is entered by the name of its node: the key of the site that watches
-- its model, its kind, and its programs. Its state stands under that key.
use Rattle.std.specs.Prelude.{ℕ, ◌+◌, List, [], ◌∷◌, Option, None, Some, option_map, if◌then◌else◌}
use Rattle.std.specs.BTreeMap.{insert_entry, is_at}
use Rattle.std.specs.Map.{lookup}
use Rattle.std.specs.Ordering.{nat_cmp}
use Rattle.ng_base.specs.declared.path.Key.{Key}
use Rattle.ng_base.specs.declared.value.Value.{Value}
use Rattle.ng_base.specs.declared.value.Value.TheVariants as value
use Rattle.ng_control.specs.State.{ControlState, fresh}
use Rattle.ng_control.specs.Typed.{parsed}
use Rattle.ng_control.specs.declared.kind.ControlKind.{ControlKind}
use Rattle.ng_drawing.specs.Nodes.{part_nodes}
use Rattle.ng_drawing.specs.Template.{Control, Part, Contents, Parts, text_part, comment_part, element_part, anchor_part, children, bound, no_parts, part_then}
use Rattle.ng_language.specs.Trees.{Trees}
use Rattle.ng_behaviour.specs.Keys.{key_cmp, is_key}

-- the key of its model's site, its kind, the program that writes what was put in to the model, and those that run after that
pub record ControlHere : Type 0 where
  pub key : Key
  pub kind : ControlKind
  pub writes : Trees
  pub changes : List Trees

-- those of an instance, by the names of their nodes
abbrev pub Controlled : Type 0
Controlled = List (ℕ × ControlHere)

abbrev pub control_here : (ℕ → Key) → Control → ControlHere
control_here keys c = record { key = keys c.site; kind = c.kind; writes = c.writes; changes = c.changes }

abbrev pub with_control : (ℕ → Key) → ℕ → Option Control → Controlled → Controlled
with_control keys n None t = t
with_control keys n (Some c) t = insert_entry nat_cmp t n (control_here keys c)

-- those of parts are entered, given the keys of the sites and the name of the first node
abbrev mutual
  pub part_controlled : (ℕ → Key) → ℕ → Part → Controlled → Controlled
  part_controlled keys n (text_part ps) t = t
  part_controlled keys n (comment_part c) t = t
  part_controlled keys n (anchor_part outlet own starts) t = t
  part_controlled keys n (element_part e own acts ats c) t = contents_controlled keys (n + 1) c (with_control keys n acts.control t)

  pub contents_controlled : (ℕ → Key) → ℕ → Contents → Controlled → Controlled
  contents_controlled keys n (children ps) t = controlled keys n ps t
  contents_controlled keys n (bound k) t = t

  pub controlled : (ℕ → Key) → ℕ → Parts → Controlled → Controlled
  controlled keys n no_parts t = t
  controlled keys n (part_then p ps) t = controlled keys (n + part_nodes p) ps (part_controlled keys n p t)

-- the control that a node is
abbrev pub controlled_at : ℕ → Controlled → Option ControlHere
controlled_at n t = lookup (is_at (nat_cmp n)) t

-- the states of controls, in key order
abbrev pub Controls : Type 0
Controls = List (Key × ControlState)

-- the state of the control whose model's site has a key
abbrev pub state_under : Key → Controls → Option ControlState
state_under k cs = lookup (is_key k) cs

-- controls that are entered have taken nothing yet
abbrev pub controls_begun : Controlled → Controls → Controls
controls_begun [] cs = cs
controls_begun (e ∷ es) cs = controls_begun es (insert_entry key_cmp cs e.1.key (fresh e.1.kind))

-- the state under a key is changed
abbrev pub control_changed : (ControlState → ControlState) → Key → Controls → Controls
control_changed f k [] = []
control_changed f k (e ∷ es) = if is_key k e.0 then (e.0, f e.1) ∷ es else e ∷ control_changed f k es

-- whether there is a control of some kinds
abbrev pub IsOfKind : (ControlKind → Type 0) → Option ControlState → Type 0
IsOfKind P None = ⊥
IsOfKind P (Some c) = P c.kind

-- what a text is read as that is typed into a control
abbrev pub read_as : List ℕ → Option ControlState → Value
read_as t None = value.Undefined
read_as t (Some c) = parsed c.kind t

abbrev pub kind_in : Option ControlState → Option ControlKind
kind_in c = option_map (λ (s : ControlState). s.kind) c

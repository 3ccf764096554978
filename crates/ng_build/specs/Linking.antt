-- The order of linking (guide: HTML Compiler, "How directives are compiled"; Directives; API: ngInit, ngTransclude). An element's node is made, then the
-- scopes of its directives, then the properties of the isolate one are bound, and functions are installed; then its `ng-init` runs, then its own sites
-- get their numbers of registration, and then its contents are linked. Behind them come the watches, listeners and the program of each directive. An
-- anchor goes before its block's site.
use Rattle.std.specs.Prelude.{ℕ, zero, suc, ◌+◌, ◌==◌, slice_index_or, Bool, true, false, List, [], ◌∷◌, ◌++◌, map, length, Option, None, Some, is_some, if◌then◌else◌}
use Rattle.std.specs.List.{flat_map}
use Rattle.std.specs.Option.{option_map_or}
use Rattle.ng_base.specs.declared.fault.Fault.{Fault}
use Rattle.ng_base.specs.declared.fault.Fault.TheVariants.{NodeLimit, Depth}
use Rattle.ng_drawing.specs.Template.{Piece, word, hole, Source, of_text, of_nothing, one_way, two_way, of_call, Binding, Uses, Outside, Scopes, Acts, Part, Contents, Parts, text_part, comment_part, element_part, anchor_part, children, bound, no_parts, part_then}
use Rattle.ng_language.specs.Trees.{Trees}
use Rattle.ng_drawing.specs.Numbering.{source_numbers}

-- A scope that is made, beside those of the instance that are there: a child of one of these, an isolate child, or one whose parent is one of these
-- and which inherits from the scope outside a directive's element.
pub data Opening : Type 0 where
  a_child : ℕ → Opening
  an_isolate : ℕ → Opening
  a_slot : ℕ → Outside → Opening

-- A node is made; a directive is inside too many others, so that nothing more is done; a scope is made; a property of an isolate scope is bound to a
-- scope; a directive's functions are installed on a scope; a program runs on a scope, or on that of an outlet; a site gets the next number of
-- registration; or a directive's watches, listeners and program come on a scope.
pub data LinkStep : Type 0 where
  makes : LinkStep
  stops : LinkStep
  opens : Opening → LinkStep
  binds : Binding → (isolate over : ℕ) → LinkStep
  installs : (directive scope : ℕ) → LinkStep
  starts : (scope : ℕ) → Trees → LinkStep
  starts_at : (outlet : ℕ) → Trees → LinkStep
  registers : LinkStep
  leaves : (directive scope : ℕ) → LinkStep

abbrev pub piece_steps : List Piece → List LinkStep
piece_steps [] = []
piece_steps (word w ∷ ps) = piece_steps ps
piece_steps (hole n ∷ ps) = registers ∷ piece_steps ps

abbrev pub if_asked : Bool → Opening → List LinkStep
if_asked true o = opens o ∷ []
if_asked false o = []

-- the scope of a directive: its isolate one, or that of the element
abbrev pub scope_of : Uses → Scopes → ℕ → ℕ
scope_of u s d = if option_map_or (λ n. n == d) u.isolate false then s.isolate else s.own

abbrev pub uses_entered : Scopes → Uses → List LinkStep
uses_entered s u =
    if_asked u.child (a_child s.outer) ++ (if_asked (is_some u.isolate) (an_isolate s.own)
    ++ (map (λ b. binds b s.isolate s.own) u.bindings ++ map (λ d. installs d (scope_of u s d)) u.directives))

abbrev pub entering_steps : Acts → List LinkStep
entering_steps a = option_map_or (uses_entered a.scopes) a.uses []

abbrev pub uses_left : Scopes → Uses → List LinkStep
uses_left s u = map (λ d. leaves d (scope_of u s d)) u.directives

abbrev pub leaving_steps : Acts → List LinkStep
leaving_steps a = option_map_or (uses_left a.scopes) a.uses []

abbrev pub slot_steps : Scopes → List LinkStep
slot_steps s = option_map_or (λ o. opens (a_slot s.own o) ∷ []) s.slot []

-- an element, whose contents come to these steps
abbrev pub element_steps : Acts → List ℕ → List LinkStep → List LinkStep
element_steps a own inside =
    if a.scopes.deep then stops ∷ []
    else makes ∷ (entering_steps a ++ (map (starts a.scopes.own) a.starts ++ (map (λ n. registers) own ++ (slot_steps a.scopes ++ (inside ++ leaving_steps a)))))

abbrev mutual
  pub part_steps : Part → List LinkStep
  part_steps (text_part ps) = makes ∷ piece_steps ps
  part_steps (comment_part t) = makes ∷ []
  part_steps (anchor_part outlet own programs) = makes ∷ (map (starts_at outlet) programs ++ map (λ n. registers) own)
  part_steps (element_part e own acts ats c) = element_steps acts own (content_steps c)

  pub content_steps : Contents → List LinkStep
  content_steps (children ps) = steps ps
  content_steps (bound n) = makes ∷ []

  pub steps : Parts → List LinkStep
  steps no_parts = []
  steps (part_then p ps) = part_steps p ++ steps ps

-- a property is bound
abbrev pub is_binds : LinkStep → Bool
is_binds makes = false
is_binds stops = false
is_binds (opens o) = false
is_binds (binds b i o) = true
is_binds (installs d s) = false
is_binds (starts s p) = false
is_binds (starts_at o p) = false
is_binds registers = false
is_binds (leaves d s) = false

-- how many sites of a binding get a number
abbrev pub source_count : Source → ℕ
source_count (of_text ps) = length (piece_steps ps)
source_count of_nothing = 0
source_count (one_way n) = 1
source_count (two_way n w) = 1
source_count (of_call p) = 0

abbrev pub step_count : LinkStep → ℕ
step_count makes = 0
step_count stops = 0
step_count (opens o) = 0
step_count (binds b i o) = source_count b.source
step_count (installs d s) = 0
step_count (starts s p) = 0
step_count (starts_at o p) = 0
step_count registers = 1
step_count (leaves d s) = 0

-- for each site that gets a number, whether it is one of a binding
abbrev pub bound_flags : LinkStep → List Bool
bound_flags makes = []
bound_flags stops = []
bound_flags (opens o) = []
bound_flags (binds b i o) = map (λ (n : ℕ). true) (source_numbers b.source)
bound_flags (installs d s) = []
bound_flags (starts s p) = []
bound_flags (starts_at o p) = []
bound_flags registers = false ∷ []
bound_flags (leaves d s) = []

abbrev pub is_bound_site : List LinkStep → ℕ → Bool
is_bound_site ss i = slice_index_or (flat_map bound_flags ss) i false

-- how many sites get a number
abbrev pub site_count : List LinkStep → ℕ
site_count [] = 0
site_count (x ∷ ss) = step_count x + site_count ss

-- The steps that come before one node more than so many, or before a directive that is inside too many others.
abbrev pub steps_within : ℕ → List LinkStep → List LinkStep
steps_within room [] = []
steps_within zero (makes ∷ ss) = []
steps_within (suc room) (makes ∷ ss) = makes ∷ steps_within room ss
steps_within room (stops ∷ ss) = []
steps_within room (x ∷ ss) = x ∷ steps_within room ss

-- why not all steps are done
abbrev pub fault_in : ℕ → List LinkStep → Option Fault
fault_in room [] = None
fault_in zero (makes ∷ ss) = Some NodeLimit
fault_in (suc room) (makes ∷ ss) = fault_in room ss
fault_in room (stops ∷ ss) = Some Depth
fault_in room (x ∷ ss) = fault_in room ss

-- Definitions of an application's directives (guide: Directives, "Creating Directives"; API: `$compile`).
use Rattle.std.specs.Prelude.{◌≡◌, ℕ, Bool, true, false, not, ◌&&◌, ◌||◌, List, [], ◌∷◌, Result, Ok, Err, codes}
use Rattle.std.specs.Char.{is_ascii_lowercase, is_ascii_alphanumeric}
use Rattle.std.specs.List.{list_all, AllByRecursion}
use Rattle.std.specs.Str.{bytes_eq}
use Rattle.ng_base.specs.declared.fault.Memory.{Memory}
use Rattle.ng_base.specs.declared.fault.Memory.TheVariants.{Refused}
use Rattle.ng_bind.specs.Written.{IsWritten}
use Rattle.ng_bind.specs.declared.spec.BindFault.{BindFault}
use Rattle.ng_bind.specs.declared.spec.BindFault.TheVariants as reading
use Rattle.ng_bind.specs.declared.spec.Spec.{Spec}
use Rattle.ng_collect.specs.declared.definition.DirectiveDef.{DirectiveDef}
use Rattle.ng_collect.specs.declared.definition.ScopeAsk.{ScopeAsk}
use Rattle.ng_collect.specs.declared.definition.ScopeAsk.TheVariants.{Same, Child, Isolate}
use Rattle.ng_collect.specs.declared.fault.DefFault.{DefFault}
use Rattle.ng_collect.specs.declared.fault.DefFault.TheVariants as faults
use Rattle.ng_collect.specs.Names.{is_core}

-- a lower-case ASCII letter, then letters and digits; the core's names are none
abbrev pub is_directive_name : List ℕ → Bool
is_directive_name [] = false
is_directive_name (c ∷ cs) = is_ascii_lowercase c && list_all is_ascii_alphanumeric cs && not (is_core (c ∷ cs))

-- `E` is for elements, `A` for attributes, each at most once
abbrev pub allows_elements : List ℕ → Bool
allows_elements t = bytes_eq t (codes "E") || bytes_eq t (codes "EA") || bytes_eq t (codes "AE")

abbrev pub allows_attributes : List ℕ → Bool
allows_attributes t = bytes_eq t (codes "A") || bytes_eq t (codes "EA") || bytes_eq t (codes "AE")

abbrev pub is_restrict : List ℕ → Bool
is_restrict t = allows_elements t || allows_attributes t

abbrev pub is_isolate : ScopeAsk → Bool
is_isolate Same = false
is_isolate Child = false
is_isolate (Isolate specs) = true

abbrev pub is_child : ScopeAsk → Bool
is_child Same = false
is_child Child = true
is_child (Isolate specs) = false

-- the properties of an isolate scope, with the texts of their bindings
abbrev pub specs_of : ScopeAsk → List (List ℕ × List ℕ)
specs_of Same = []
specs_of Child = []
specs_of (Isolate specs) = specs

-- some binding is written so
abbrev pub IsBinding : List ℕ → Type 0
IsBinding t = (s : Spec) × IsWritten t s

-- what a reader's answer says of it
abbrev pub judgement : Result Spec BindFault → Result Bool Memory
judgement (Ok s) = Ok true
judgement (Err reading.BadBinding) = Ok false
judgement (Err (reading.Memory m)) = Err Refused

abbrev pub AreBindings : List (List ℕ × List ℕ) → Type 0
AreBindings specs = AllByRecursion (λ (p : List ℕ × List ℕ). IsBinding p.1) specs

-- what a definition must be
pub record IsDefinition (d : DirectiveDef) : Type 0 where
  pub name : is_directive_name d.name ≡ true
  pub bindings : AreBindings (specs_of d.scope)
  pub restrict : is_restrict d.restrict ≡ true

-- why it is none: its name first, then a binding, then its restriction
abbrev pub Refuses : DirectiveDef → DefFault → Type 0
Refuses d faults.BadName = is_directive_name d.name ≡ false
Refuses d faults.BadBinding = (is_directive_name d.name ≡ true) × (¬ AreBindings (specs_of d.scope))
Refuses d faults.BadRestrict = (is_directive_name d.name ≡ true) × AreBindings (specs_of d.scope) × (is_restrict d.restrict ≡ false)
Refuses d (faults.Memory m) = ⊥

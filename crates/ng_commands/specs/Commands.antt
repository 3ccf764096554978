-- What a command does to a page before its digest (guide: Scopes, "Integration with the browser event loop"; API: `$apply`).
use Rattle.std.specs.Prelude.{ℕ, ◌||◌, not, Bool, List, [], ◌∷◌, ◌++◌, map, Option, None, Some, Result, Ok, Err}
use Rattle.serde_json.specs.Data.{Data}
use Rattle.ng_act.specs.Asked.{an_emit, a_broadcast}
use Rattle.ng_act.specs.Running.{as_value_run}
use Rattle.ng_core.specs.State as act
use Rattle.ng_core.specs.State.{Run, ◌>>=◌, with_task, with_objects}
use Rattle.ng_base.specs.Objects.{Object}
use Rattle.ng_base.specs.Views.{prim}
use Rattle.ng_base.specs.declared.fault.Fault.{Fault}
use Rattle.ng_base.specs.declared.fault.Fault.TheVariants as faults
use Rattle.ng_base.specs.declared.value.Value.{Value}
use Rattle.ng_base.specs.declared.value.Value.TheVariants as value
use Rattle.ng_behaviour.specs.Scopes.{live_at}
use Rattle.ng_control.specs.State.{typed_in, checked_in}
use Rattle.ng_changes.specs.Changes.{changed}
use Rattle.ng_settling.specs.Inputs.{written}
use Rattle.ng_changes.specs.Runs.{asked_first, followed, program_run, destroyed}
use Rattle.ng_language.specs.Objects.{items_at}
use Rattle.ng_language.specs.Trees.{Trees}
use Rattle.ng_link.specs.Calls.{with_core, with_control_at}
use Rattle.ng_build.specs.Controls.{ControlHere, state_under, read_as}
use Rattle.ng_link.specs.Events.{scope_of, control_at}
use Rattle.ng_link.specs.State as link
use Rattle.ng_store.specs.Json.{json_value, with_json}
use Rattle.ng_store.specs.declared.json.JsonFault.{JsonFault}
use Rattle.ng_store.specs.declared.json.JsonFault.TheVariants as json

-- a program on a scope, in an `$apply`; a task on the root; a probe; a digest; a `$destroy` of a scope in an `$apply`; an event
-- from a scope, with a JSON list of arguments, in an `$apply`; and what is put in to the control that a node is, a text or whether it is checked
pub data Asked : Type 0 where
  applies : ℕ → Trees → Asked
  queues : Trees → Asked
  probes : Trees → Asked
  digests : Asked
  destroys_scope : ℕ → Asked
  emits : ℕ → List ℕ → Data → Asked
  broadcasts : ℕ → List ℕ → Data → Asked
  types : ℕ → List ℕ → Asked
  checks : ℕ → Bool → Asked

abbrev pub is_dead : link.State → ℕ → Bool
is_dead s scope = not (live_at s.core.scopes scope)

-- Nothing is done where the root does not live, or the scope in question does not. Below a live root a dead scope may be destroyed.
abbrev pub is_idle : Asked → link.State → Bool
is_idle (applies scope p) s = is_dead s 0 || is_dead s scope
is_idle (queues p) s = is_dead s 0
is_idle (probes p) s = is_dead s 0
is_idle digests s = is_dead s 0
is_idle (destroys_scope scope) s = is_dead s 0
is_idle (emits scope name d) s = is_dead s 0 || is_dead s scope
is_idle (broadcasts scope name d) s = is_dead s 0 || is_dead s scope
is_idle (types n t) s = is_dead s 0 || is_dead s (scope_of s n)
is_idle (checks n b) s = is_dead s 0 || is_dead s (scope_of s n)

-- a command begins: no body was entered, and no fault was handed over
abbrev pub begun_core : act.State → act.State
begun_core c = record c { entered = 0; handed = record { count = 0; first = None } }

abbrev pub begun : link.State → link.State
begun s = with_core (begun_core s.core) s

-- why JSON is not read as arguments
abbrev pub json_fault : JsonFault → Fault
json_fault json.Number = faults.Range
json_fault json.Full = faults.StoreFull
json_fault (json.Memory m) = faults.Memory m

-- JSON is read into the objects, or is refused
abbrev pub json_read : Result Value JsonFault → Data → act.State → Run Value
json_read (Ok v) d c = (with_objects (with_json c.objects d) c, Ok v)
json_read (Err f) d c = (c, Err (json_fault f))

abbrev pub json_run : Data → act.State → Run Value
json_run d c = json_read (json_value c.objects d) d c

-- the items of a value that is an array
abbrev pub items_in : List Object → Value → List Value
items_in objects (value.Obj o) = items_at objects o.0
items_in objects v = []

-- the arguments of an event are read as one array, and are its items; then the event goes its way
abbrev pub emit_run : ℕ → List ℕ → Data → act.State → Run Value
emit_run scope name d c = json_run d c >>= λ v e. as_value_run (asked_first (an_emit scope name (map prim (items_in e.objects v))) e)

abbrev pub broadcast_run : ℕ → List ℕ → Data → act.State → Run Value
broadcast_run scope name d c = json_run d c >>= λ v e. as_value_run (asked_first (a_broadcast scope name (map prim (items_in e.objects v))) e)

abbrev pub with_probe : Trees → act.State → act.State
with_probe p c = record c { probes = c.probes ++ p ∷ [] }

-- A control takes what is put in, and shows it; then its model is written, and what `ng-change` says runs (API: ngModel; API: ngChange).
abbrev pub typed_run : List ℕ → ℕ → Option ControlHere → link.State → link.State
typed_run t scope None s = s
typed_run t scope (Some c) s = written scope c.writes (read_as t (state_under c.key s.controls)) c.changes (with_control_at (λ x. typed_in x t) c.key s)

abbrev pub checked_run : Bool → ℕ → Option ControlHere → link.State → link.State
checked_run b scope None s = s
checked_run b scope (Some c) s = written scope c.writes (value.Bool b) c.changes (with_control_at checked_in c.key s)

-- What is done before the digest: a fault is handed over, and what programs left for the watchers is done.
abbrev pub asked_run : Asked → link.State → link.State
asked_run (applies scope p) s = followed (program_run scope p s.core) s
asked_run (queues p) s = with_core (with_task (record { scope = 0; body = p }) s.core) s
asked_run (probes p) s = with_core (with_probe p s.core) s
asked_run digests s = s
asked_run (destroys_scope scope) s = changed (with_core (destroyed scope s.core) s)
asked_run (emits scope name d) s = followed (emit_run scope name d s.core) s
asked_run (broadcasts scope name d) s = followed (broadcast_run scope name d s.core) s
asked_run (types n t) s = typed_run t (scope_of s n) (control_at s n) s
asked_run (checks n b) s = checked_run b (scope_of s n) (control_at s n) s

-- What programs, fires, tasks and the end of a digest leave of sites.
use Rattle.std.proofs.Common.{◌≡◌, ◌≤◌, ℕ, Bool, true, false, cond, refl, List, [], ◌∷◌, length, map, length-append, arith, Option, Some, None, Result, Ok, Err}
use Rattle.std.specs.Prelude.{is_some, is_err}
use Rattle.serde_json.specs.Data.{Data}
use Rattle.ng_core.specs.Keeping.{stores, nothing}
use Rattle.ng_act.specs.Asked.{Asked, a_body, an_emit, a_broadcast}
use Rattle.ng_act.specs.Expressions.{programmed}
use Rattle.ng_act.specs.Actions.{does}
use Rattle.ng_act.specs.Running.{as_value_run}
use Rattle.ng_core.specs.State as act
use Rattle.ng_core.specs.State.{Change, adds, removes, leaves, Run, Task, ◌>>=◌, handed, with_locals}
use Rattle.ng_base.specs.Objects.{Object}
use Rattle.ng_base.specs.Views.{ViewTree, prim}
use Rattle.ng_base.specs.declared.fault.Fault.{Fault}
use Rattle.ng_base.specs.declared.path.Key.{Key}
use Rattle.ng_base.specs.declared.value.Value.{Value}
use Rattle.ng_base.specs.declared.value.Value.TheVariants as value
use Rattle.ng_behaviour.specs.Scopes.{path_at}
use Rattle.ng_control.specs.State.{ControlState, typed_in, checked_in}
use Rattle.ng_changes.specs.Changes.{key_in, watching_in, listening_in, applied, applied_all, changed, without_changes}
use Rattle.ng_settling.specs.ListenerRuns.{former_value, listener_locals, listener_run}
use Rattle.ng_settling.specs.Inputs.{write_run, all_run, written}
use Rattle.ng_changes.specs.Runs.{asked_first, followed, task_run, ran_of, ran, without_task, program_run, destroyed}
use Rattle.ng_settling.specs.Settling.{without_probes}
use Rattle.ng_language.specs.Trees.{Trees}
use Rattle.ng_link.specs.Calls.{with_core, with_control_at, ended_at}
use Rattle.ng_build.specs.Controls.{ControlHere, state_under, read_as}
use Rattle.ng_link.specs.Events.{scope_of, control_at}
use Rattle.ng_link.specs.State.{State, Listening}
use Rattle.ng_store.specs.Json.{json_value, placed, with_json}
use Rattle.ng_store.specs.declared.json.JsonFault.{JsonFault}
use Rattle.ng_directives.specs.Writing.{input_name}
use Rattle.ng_write.specs.Making.{value_in}
use Rattle.ng_commands.specs.Commands as commands
use Rattle.ng_commands.specs.Commands.{json_read, json_run, items_in, emit_run, broadcast_run, typed_run, checked_run, asked_run, applies, queues, probes, digests, destroys_scope, emits, broadcasts, types, checks}
use Rattle.ng_commands.proofs.EventsStay.{part, Stays, stays_refl, stays_trans, objects_stay, fault_stays}
use Rattle.ng_act.proofs.Programs.{some_first}
use Rattle.ng_commands.proofs.ProgramsStay.{bind_stay, stores_stay, statements_stay, does_stay, destroys_stay}
use Rattle.ng_commands.proofs.Sites.{SitesStay, sites_refl, sites_trans, core_sites, declared_sites, undeclared_sites, left_sites, ended_sites}

-- a run, whatever it gives
noted : {A : Type 0} (s : act.State) (o : Result A Fault) → Stays (part s) (part (handed (s, o)))
noted s (Ok v) = stays_refl (part s)
noted s (Err f) = fault_stays f (part s)

pub handed_run : {A : Type 0} (c : act.State) (r : Run A) → Stays (part c) (part r.0) → Stays (part c) (part (handed r))
handed_run c r h = stays_trans (part c) (part r.0) (part (handed r)) h (noted r.0 r.1)

pub value_run : (c : act.State) (r : Run ViewTree) → Stays (part c) (part r.0) → Stays (part c) (part (as_value_run r).0)
value_run c r h = bind_stay (part c) r.0 r.1 (λ v s. (s, Ok (value_in v))) h (λ v s. stays_refl (part s))

pub first_stays : (a : Asked) (c : act.State) → Stays (part c) (part (asked_first a c).0)
unfolding asked_first
first_stays a c = does_stay 64 a c

-- what programs left for the watchers is done
one_applied : (c : Change) (s : State) → SitesStay s (applied c s)
one_applied (adds w) s = declared_sites (key_in s w.scope w.serial) (watching_in s w) (listening_in w) s
one_applied (removes scope serial) s = undeclared_sites (key_in s scope serial) s
one_applied (leaves scope) s = left_sites (path_at s.core.scopes scope) s

all_applied : (cs : List Change) (s : State) → SitesStay s (applied_all cs s)
all_applied [] s = sites_refl s
all_applied (c ∷ cs) s = sites_trans s (applied c s) (applied_all cs (applied c s)) (one_applied c s) (all_applied cs (applied c s))

pub changed_sites : (s : State) → SitesStay s (changed s)
changed_sites s = sites_trans s (without_changes s) (changed s) (core_sites s (record s.core { changes = [] }) (stays_refl (part s.core))) (all_applied s.core.changes (without_changes s))

pub followed_sites : {A : Type 0} (r : Run A) (s : State) → Stays (part s.core) (part r.0) → SitesStay s (followed r s)
followed_sites r s h = sites_trans s (with_core (handed r) s) (followed r s) (core_sites s (handed r) (handed_run s.core r h)) (changed_sites (with_core (handed r) s))

-- a fault of a run is handed over
pub faulted_some : {A : Type 0} (r : Run A) (s : State) → is_err r.1 ≡ true → is_some (followed r s).core.handed.first ≡ true
faulted_some r s e = (changed_sites (with_core (handed r) s)).core.some (by_end r.0 r.1 e)
  where
    by_end : {A : Type 0} (t : act.State) (o : Result A Fault) → is_err o ≡ true → is_some (handed (t, o)).handed.first ≡ true
    by_end t (Ok v) e = cc
    by_end t (Err f) e = some_first t.handed.first f

-- the program of a declared watch
former_stays : (o : Option ViewTree) (v : ViewTree) (c : act.State) → Stays (part c) (part (former_value o v c).0)
former_stays None v c = stays_refl (part c)
former_stays (Some f) v c = stores_stay f c

pub listener_stays : (l : Listening) (former : Option ViewTree) (v : ViewTree) (c : act.State) → Stays (part c) (part (listener_run l former v c).0)
listener_stays l former v c =
    bind_stay (part c) (stores v c).0 (stores v c).1 (λ w d. former_value former w d >>= λ o e. asked_first (a_body l.scope (listener_locals w o) l.body) e) (stores_stay v c)
    (λ w d. bind_stay (part d) (former_value former w d).0 (former_value former w d).1 (λ o e. asked_first (a_body l.scope (listener_locals w o) l.body) e) (former_stays former w d)
    (λ o e. first_stays (a_body l.scope (listener_locals w o) l.body) e))

abbrev pub RunStays : act.State → Option (Run ViewTree) → Type 0
RunStays c None = Unit {0}
RunStays c (Some r) = Stays (part c) (part r.0)

-- a task
by_tasks : (ts : List Task) (s : State) → SitesStay s (ran_of ts s)
by_tasks [] s = sites_refl s
by_tasks (t ∷ ts) s = followed_sites (task_run t (without_task ts s.core)) s (first_stays (a_body t.scope [] t.body) (without_task ts s.core))

pub ran_sites : (s : State) → SitesStay s (ran s)
ran_sites s = by_tasks s.core.tasks s

-- the end of the rounds
pub finished_sites : (s : State) → SitesStay s (without_probes (ended_at s))
finished_sites s = sites_trans s (ended_at s) (without_probes (ended_at s)) (ended_sites s) (core_sites (ended_at s) (record (ended_at s).core { probes = [] }) (stays_refl (part s.core)))

-- what commands do
pub program_stays : (scope : ℕ) (p : Trees) (c : act.State) → Stays (part c) (part (program_run scope p c).0)
unfolding program_run
program_stays scope p c =
    let d : act.State = with_locals [] c in
    value_run c (programmed (does 64) scope p d) (statements_stay 64 scope nothing p d)

pub destroyed_stays : (scope : ℕ) (c : act.State) → Stays (part c) (part (destroyed scope c))
unfolding destroyed
destroyed_stays scope c = destroys_stay 64 scope c

-- JSON is read behind the objects that stand
pub json_grows : (objects : List Object) (d : Data) → length objects ≤ length (with_json objects d)
json_grows objects d = omega (arith, length-append objects (placed (length objects) d []).1)

read_stays : (r : Result Value JsonFault) (d : Data) (c : act.State) → Stays (part c) (part (json_read r d c).0)
read_stays (Ok v) d c = objects_stay (part c) (length (with_json c.objects d)) (json_grows c.objects d)
read_stays (Err f) d c = stays_refl (part c)

pub emit_stays : (scope : ℕ) (name : List ℕ) (d : Data) (c : act.State) → Stays (part c) (part (emit_run scope name d c).0)
emit_stays scope name d c =
    bind_stay (part c) (json_run d c).0 (json_run d c).1 (λ v e. as_value_run (asked_first (an_emit scope name (map prim (items_in e.objects v))) e)) (read_stays (json_value c.objects d) d c)
    (λ v e. value_run e (asked_first (an_emit scope name (map prim (items_in e.objects v))) e) (first_stays (an_emit scope name (map prim (items_in e.objects v))) e))

pub broadcast_stays : (scope : ℕ) (name : List ℕ) (d : Data) (c : act.State) → Stays (part c) (part (broadcast_run scope name d c).0)
broadcast_stays scope name d c =
    bind_stay (part c) (json_run d c).0 (json_run d c).1 (λ v e. as_value_run (asked_first (a_broadcast scope name (map prim (items_in e.objects v))) e)) (read_stays (json_value c.objects d) d c)
    (λ v e. value_run e (asked_first (a_broadcast scope name (map prim (items_in e.objects v))) e) (first_stays (a_broadcast scope name (map prim (items_in e.objects v))) e))

-- a control takes what is put in, its model is written, and programs run after that
pub control_sites : (f : ControlState → ControlState) (k : Key) (s : State) → SitesStay s (with_control_at f k s)
control_sites f k s = record { instances = refl; inner = refl; templates = refl; keys = λ o. o; found = λ o q w i e. e; core = stays_refl (part s.core) }

pub write_stays : (scope : ℕ) (p : Trees) (v : Value) (c : act.State) → Stays (part c) (part (write_run scope p v c).0)
unfolding write_run
write_stays scope p v c =
    let d : act.State = with_locals ((input_name, v) ∷ []) c in
    value_run c (programmed (does 64) scope p d) (statements_stay 64 scope nothing p d)

all_sites : (scope : ℕ) (ps : List Trees) (s : State) → SitesStay s (all_run scope ps s)
all_sites scope [] s = sites_refl s
all_sites scope (p ∷ ps) s =
    let t = followed (program_run scope p s.core) s in
    sites_trans s t (all_run scope ps t) (followed_sites (program_run scope p s.core) s (program_stays scope p s.core)) (all_sites scope ps t)

pub written_sites : (scope : ℕ) (p : Trees) (v : Value) (ps : List Trees) (s : State) → SitesStay s (written scope p v ps s)
written_sites scope p v ps s = by_end (is_err (write_run scope p v s.core).1)
  where
    t : State
    t = followed (write_run scope p v s.core) s

    one : SitesStay s t
    one = followed_sites (write_run scope p v s.core) s (write_stays scope p v s.core)

    by_end : (b : Bool) → SitesStay s (cond b t (all_run scope ps t))
    by_end true = one
    by_end false = sites_trans s t (all_run scope ps t) one (all_sites scope ps t)

typed_sites : (t : List ℕ) (scope : ℕ) (c : Option ControlHere) (s : State) → SitesStay s (typed_run t scope c s)
typed_sites t scope None s = sites_refl s
typed_sites t scope (Some c) s =
    let u = with_control_at (λ x. typed_in x t) c.key s in
    sites_trans s u (typed_run t scope (Some c) s) (control_sites (λ x. typed_in x t) c.key s) (written_sites scope c.writes (read_as t (state_under c.key s.controls)) c.changes u)

checked_sites : (b : Bool) (scope : ℕ) (c : Option ControlHere) (s : State) → SitesStay s (checked_run b scope c s)
checked_sites b scope None s = sites_refl s
checked_sites b scope (Some c) s =
    let u = with_control_at checked_in c.key s in
    sites_trans s u (checked_run b scope (Some c) s) (control_sites checked_in c.key s) (written_sites scope c.writes (value.Bool b) c.changes u)

pub asked_sites : (a : commands.Asked) (s : State) → SitesStay s (asked_run a s)
asked_sites (applies scope p) s = followed_sites (program_run scope p s.core) s (program_stays scope p s.core)
asked_sites (queues p) s = core_sites s (act.with_task (record { scope = 0; body = p }) s.core) (stays_refl (part s.core))
asked_sites (probes p) s = core_sites s (commands.with_probe p s.core) (stays_refl (part s.core))
asked_sites digests s = sites_refl s
asked_sites (destroys_scope scope) s = sites_trans s (with_core (destroyed scope s.core) s) (changed (with_core (destroyed scope s.core) s)) (core_sites s (destroyed scope s.core) (destroyed_stays scope s.core)) (changed_sites (with_core (destroyed scope s.core) s))
asked_sites (emits scope name d) s = followed_sites (emit_run scope name d s.core) s (emit_stays scope name d s.core)
asked_sites (broadcasts scope name d) s = followed_sites (broadcast_run scope name d s.core) s (broadcast_stays scope name d s.core)
asked_sites (types n t) s = typed_sites t (scope_of s n) (control_at s n) s
asked_sites (checks n b) s = checked_sites b (scope_of s n) (control_at s n) s

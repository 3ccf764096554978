-- What a directive does on its scope when its element is linked (guide: Directives, "Creating Directives"): functions are installed; and behind its
-- contents watches and listeners come, if the scope lives, and a program runs.
use Rattle.std.specs.Prelude.{ℕ, ◌||◌, Bool, false, List, [], ◌∷◌, ◌++◌, length, Option, None, Some, slice_get, if◌then◌else◌}
use Rattle.ng_base.specs.declared.value.Value.TheVariants as value
use Rattle.ng_behaviour.specs.Scopes.{object_at, live_at}
use Rattle.ng_core.specs.ScopeCalls.{listens, watches}
use Rattle.ng_core.specs.State as act
use Rattle.ng_core.specs.State.{a_declared, with_funs, with_objects}
use Rattle.ng_language.specs.Objects.{set_name}
use Rattle.ng_link.specs.Calls.{with_core}
use Rattle.ng_link.specs.State.{State}
use Rattle.ng_parts.specs.Directing.{Function, Watching, Hearing, Programs}
use Rattle.ng_changes.specs.Changes.{changed, has_additions}
use Rattle.ng_changes.specs.Runs.{program_run, followed}

-- a function stands under its name, whatever that is, and runs on the scope
abbrev pub installs : ℕ → Function → act.State → act.State
installs scope f s =
    with_funs (s.funs ++ a_declared scope f.params f.body ∷ [])
    (with_objects (set_name s.objects (object_at s.scopes scope) f.name (value.Fun (record { 0 = length s.funs }))) s)

abbrev pub installs_all : ℕ → List Function → act.State → act.State
installs_all scope [] s = s
installs_all scope (f ∷ fs) s = installs_all scope fs (installs scope f s)

abbrev pub declares_all : ℕ → List Watching → act.State → act.State
declares_all scope [] s = s
declares_all scope (w ∷ ws) s = declares_all scope ws (watches scope w.kind w.watched w.body s).0

abbrev pub registers_all : ℕ → List Hearing → act.State → act.State
registers_all scope [] s = s
registers_all scope (l ∷ ls) s = registers_all scope ls (listens scope l.name l.body s).0

-- a scope that is dead has no watch and no listener
abbrev pub registered_on : ℕ → List Watching → List Hearing → act.State → act.State
registered_on scope ws ls s = if live_at s.scopes scope then registers_all scope ls (declares_all scope ws s) else s

abbrev pub functions_in : Option Programs → List Function
functions_in None = []
functions_in (Some p) = p.functions

abbrev pub installed_on : ℕ → ℕ → State → State
installed_on directive scope s = with_core (installs_all scope (functions_in (slice_get s.directives directive)) s.core) s

-- the state after that, and whether a watcher was added
abbrev pub first_attended : ℕ → Programs → State → State
first_attended scope p s = with_core (registered_on scope p.watches p.listeners s.core) s

abbrev pub linked_by_program : ℕ → Programs → State → State × Bool
linked_by_program scope p s = by (changed (first_attended scope p s))
  where
    by : State → State × Bool
    by u = (followed (program_run scope p.link u.core) u, has_additions (first_attended scope p s).core.changes || has_additions (program_run scope p.link u.core).0.changes)

abbrev pub attended_by : ℕ → Option Programs → State → State × Bool
attended_by scope None s = (s, false)
attended_by scope (Some p) s = linked_by_program scope p s

abbrev pub attended : ℕ → ℕ → State → State × Bool
attended directive scope s = attended_by scope (slice_get s.directives directive) s

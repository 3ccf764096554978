-- Programs that run while no body and no event is open: that of a declared watch, of a task, of a command.
use Rattle.std.specs.Prelude.{ℕ, Bool, true, false, List, [], ◌∷◌, Ok}
use Rattle.ng_act.specs.Asked.{Asked, a_body}
use Rattle.ng_act.specs.Calls.{destroys}
use Rattle.ng_act.specs.Actions.{does}
use Rattle.ng_core.specs.State as act
use Rattle.ng_act.specs.Running.{act_run}
use Rattle.ng_core.specs.State.{Run, Task, handed, with_locals}
use Rattle.ng_base.specs.Views.{ViewTree}
use Rattle.ng_base.specs.declared.value.Value.{Value}
use Rattle.ng_changes.specs.Changes.{changed}
use Rattle.ng_language.specs.Trees.{Trees}
use Rattle.ng_link.specs.Calls.{with_core}
use Rattle.ng_link.specs.State.{State}

-- What is asked where no body and no event is open, so that 64 may be. It is closed where its steps don't matter.
unfoldable pub asked_first : Asked → act.State → Run ViewTree
asked_first a c = does 64 a c

-- a run's fault is handed over, and then what it left for the watchers is done
abbrev pub followed : {A : Type 0} → Run A → State → State
followed r s = changed (with_core (handed r) s)

-- the core while a task runs: it waits no more
abbrev pub without_task : List Task → act.State → act.State
without_task ts c = record c { tasks = ts }

abbrev pub task_run : Task → act.State → Run ViewTree
task_run t c = asked_first (a_body t.scope [] t.body) c

-- whether a task waits
abbrev pub any_waits : List Task → Bool
any_waits [] = false
any_waits (t ∷ ts) = true

abbrev pub ran_of : List Task → State → State
ran_of [] s = s
ran_of (t ∷ ts) s = followed (task_run t (without_task ts s.core)) s

-- the first task that waits runs on its scope, live or not (API: `$rootScope.Scope`, `$evalAsync`)
abbrev pub ran : State → State
ran s = ran_of s.core.tasks s

-- locals are given back as they were
abbrev pub back : {A : Type 0} → act.State → Run A → Run A
back c r = (with_locals c.locals r.0, r.1)

-- a program runs on a scope while no body and no event is open
unfoldable pub program_run : ℕ → Trees → act.State → Run Value
program_run scope p c = back c (act_run 64 scope [] p c)

-- a scope is destroyed then
unfoldable pub destroyed : ℕ → act.State → act.State
destroyed scope c = destroys (does 64) scope c

abbrev pub destroy_run : ℕ → act.State → Run (Unit {0})
destroy_run scope c = (destroyed scope c, Ok tt)

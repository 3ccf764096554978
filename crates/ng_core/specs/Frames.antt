-- What contracts say of a core: the state that it stands for, what holds of it, and what no action changes.
use Rattle.std.specs.Prelude.{ℕ, ◌<◌, ◌≤◌, ◌≡◌, false, List, map, length, Option, Some, Result, Ok, Err}
use Rattle.std.specs.List.{AllByRecursion}
use Rattle.ng_base.specs.Faults.{is_memory}
use Rattle.ng_base.specs.declared.fault.Fault.{Fault}
use Rattle.ng_behaviour.specs.ScopeObjects.{AreAmong}
use Rattle.ng_behaviour.specs.Scopes.{Scope, parent_at}
use Rattle.ng_chain.specs.declared.chain.Span.{Span}
use Rattle.ng_events.specs.Stands.{lists_of, walks_at, open_of}
use Rattle.ng_parse.specs.ProgramOf.{program}
use Rattle.ng_members.specs.Leaves.{LocalsStand}
use Rattle.ng_core.specs.State.{State, Run, Fun, a_declared, a_taker, an_unwatcher, an_outer, Task, Declared, Change, adds, removes, leaves}
use Rattle.ng_core.specs.declared.core_state.Core.{Core}
use Rattle.ng_core.specs.declared.core_state.Function.{Function}
use Rattle.ng_core.specs.declared.core_state.Function.TheVariants as functions
use Rattle.ng_core.specs.declared.pending.Task.{Task as Waiting}
use Rattle.ng_core.specs.declared.pending.DeclaredWatch.{DeclaredWatch}
use Rattle.ng_core.specs.declared.pending.WatchChange.{WatchChange}
use Rattle.ng_core.specs.declared.pending.WatchChange.TheVariants as changes

abbrev pub fun_of : Function → Fun
fun_of (functions.Declared scope params p) = a_declared scope.0 params (program p)
fun_of functions.Taker = a_taker
fun_of (functions.Unwatcher scope serial) = an_unwatcher scope.0 serial.0
fun_of (functions.Outer scope p) = an_outer scope.0 (program p)

abbrev pub task_of : Waiting → Task
task_of t = record { scope = t.scope.0; body = program t.program }

abbrev pub declared_of : DeclaredWatch → Declared
declared_of w = record { scope = w.scope.0; serial = w.serial.0; kind = w.kind; watched = program w.program; body = program w.listener }

abbrev pub change_of : WatchChange → Change
change_of (changes.Add w) = adds (declared_of w)
change_of (changes.Remove scope serial) = removes scope.0 serial.0
change_of (changes.Leave scope) = leaves scope.0

-- what a core stands for
abbrev pub state_of : Core → State
state_of c = record {
  objects = c.store;
  scopes = c.scopes;
  heard = lists_of c.listeners;
  funs = map fun_of c.funs.items;
  locals = c.locals;
  stopped = c.stopped.items;
  entered = c.bodies;
  handed = c.handed;
  tasks = map task_of c.tasks.items;
  probes = map program c.probes.items;
  changes = map change_of c.changes.items;
  serial = c.serial.0;
}

-- a parent is one of the scopes
abbrev pub HaveParents : List Scope → Type 0
HaveParents t = (s p : ℕ) → parent_at t s ≡ Some p → p < length t

-- a function's scope is one of so many
abbrev pub FunStands : ℕ → Fun → Type 0
FunStands n (a_declared scope params p) = scope < n
FunStands n a_taker = Unit {0}
FunStands n (an_unwatcher scope serial) = scope < n
FunStands n (an_outer scope p) = scope < n

abbrev pub TaskStands : ℕ → Task → Type 0
TaskStands n t = t.scope < n

abbrev pub ChangeStands : ℕ → Change → Type 0
ChangeStands n (adds w) = w.scope < n
ChangeStands n (removes scope serial) = scope < n
ChangeStands n (leaves scope) = scope < n

-- what holds of a core between two calls: its objects and scopes stand, and no more walks are open than bodies and events
pub record IsSound (c : Core) : Type 0 where
  pub objects : AreAmong (length c.store) c.scopes
  pub parents : HaveParents c.scopes
  pub locals : LocalsStand (length c.store) c.locals
  pub funs : AllByRecursion (FunStands (length c.scopes)) (map fun_of c.funs.items)
  pub tasks : AllByRecursion (TaskStands (length c.scopes)) (map task_of c.tasks.items)
  pub changes : AllByRecursion (ChangeStands (length c.scopes)) (map change_of c.changes.items)
  pub depth : c.depth ≤ 64
  pub room : open_of c.listeners ≤ c.depth

-- what no action changes: the walks that are open, each at its place, and how many bodies and events are open
pub record Held : Type 0 where
  pub walks : ℕ → List (Option Span)
  pub bare : ℕ
  pub count : ℕ

abbrev pub held : Core → Held
held c = record { walks = walks_at c.listeners; bare = c.listeners.bare; count = open_of c.listeners }

-- a call left and answered what the definition says, unless memory ran out
abbrev pub Acts : {A B : Type 0} → (A → B) → Result A Fault → State → Run B → Type 0
Acts seen (Ok v) s r = r ≡ (s, Ok (seen v))
Acts seen (Err e) s r = is_memory e ≡ false → r ≡ (s, Err e)

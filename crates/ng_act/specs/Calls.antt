-- What a call does: a function, a method of a scope, of an event, of an array or of a value.
use Rattle.std.specs.Prelude.{ℕ, List, [], map, drop, codes, Option, Ok, Err, slice_get, if◌then◌else◌}
use Rattle.ng_base.specs.Views.{ViewTree}
use Rattle.ng_base.specs.declared.fault.Fault.TheVariants.{NotAFunction, InProgress, OutOfProfile}
use Rattle.ng_behaviour.specs.Listeners.{without_listener}
use Rattle.ng_behaviour.specs.Scopes.{live_at}
use Rattle.ng_language.specs.Texts.{to_text}
use Rattle.ng_language.specs.declared.snapshots.SnapKind.TheVariants as snaps
use Rattle.ng_members.specs.Methods.{argument, method_value}
use Rattle.ng_write.specs.Making.{value_in}
use Rattle.ng_write.specs.Changing.{changed}
use Rattle.ng_core.specs.Calling.{outlives, program_given, watch_kind, Found, no_function, takes, unwatches, opens, found_in}
use Rattle.ng_core.specs.State.{State, Run, Fun, removes, ◌>>=◌, with_change, with_heard, handed, given, written}
use Rattle.ng_core.specs.declared.called.Called.{Called}
use Rattle.ng_core.specs.declared.called.Called.TheVariants as calls
use Rattle.ng_core.specs.declared.called.ScopeMethod.{ScopeMethod}
use Rattle.ng_core.specs.declared.called.ScopeMethod.TheVariants as methods
use Rattle.ng_core.specs.Keeping.{nothing, as_view_run, stores_result}
use Rattle.ng_core.specs.ScopeCalls.{ons, declares, defers, event_run}
use Rattle.ng_core.specs.Burying.{buried}
use Rattle.ng_act.specs.Asked.{Doing, a_body, an_emit, a_broadcast}

-- what a function does, by its name
abbrev pub found_run : Doing → ℕ → Found → State → Run ViewTree
found_run go f no_function s = (s, Err NotAFunction)
found_run go f takes s = (with_heard (without_listener s.heard f) s, Ok nothing)
found_run go f (unwatches scope serial) s = (with_change (removes scope serial) s, Ok nothing)
found_run go f (opens scope ls p) s = go (a_body scope ls p) s

-- a function is called
abbrev pub function_run : Doing → ℕ → Option Fun → List ViewTree → State → Run ViewTree
function_run go f o args s = found_run go f (found_in s.objects o args) s

abbrev pub evals : Doing → ℕ → List ViewTree → State → Run ViewTree
evals go scope args s = given s (program_given (argument args 0)) >>= λ p t. go (a_body scope [] p) t

abbrev pub emits : Doing → ℕ → List ViewTree → State → Run ViewTree
emits go scope args s = given s (to_text s.objects (argument args 0)) >>= λ name t. go (an_emit scope name (drop 1 args)) t

abbrev pub broadcasts : Doing → ℕ → List ViewTree → State → Run ViewTree
broadcasts go scope args s = given s (to_text s.objects (argument args 0)) >>= λ name t. go (a_broadcast scope name (drop 1 args)) t

-- the broadcast of `$destroy` on a live scope, whose fault is handed over; then the scope and all below it die
abbrev pub destroys : Doing → ℕ → State → State
destroys go scope s = if live_at s.scopes scope then buried scope (handed (go (a_broadcast scope (codes "$destroy") []) s)) else s

-- `$destroy()` gives undefined
abbrev pub destroys_run : Doing → ℕ → State → Run ViewTree
destroys_run go scope s = (destroys go scope s, Ok nothing)

-- a method of a scope that has it still
abbrev pub method_run : Doing → ℕ → ScopeMethod → List ViewTree → State → Run ViewTree
method_run go scope methods.On args s = ons scope args s
method_run go scope methods.Emit args s = emits go scope args s
method_run go scope methods.Broadcast args s = broadcasts go scope args s
method_run go scope methods.Destroy args s = destroys_run go scope s
method_run go scope methods.Eval args s = evals go scope args s
method_run go scope methods.Apply args s = (s, Err InProgress)
method_run go scope methods.Digest args s = (s, Err InProgress)
method_run go scope methods.Watch args s = declares scope (watch_kind (argument args 2)) args s
method_run go scope methods.WatchCollection args s = declares scope snaps.Collection args s
method_run go scope methods.EvalAsync args s = defers scope args s
method_run go scope methods.LeftOut args s = (s, Err OutOfProfile)

-- on a dead scope every method but `$eval` does nothing
abbrev pub scope_run : Doing → ℕ → ScopeMethod → List ViewTree → State → Run ViewTree
scope_run go scope m args s =
    if outlives m then method_run go scope m args s
    else (if live_at s.scopes scope then method_run go scope m args s else (s, Ok nothing))

-- a call with its arguments
abbrev pub runs : Doing → Called → ViewTree → List ViewTree → State → Run ViewTree
runs go calls.Nothing t args s = (s, Ok nothing)
runs go calls.Other t args s = (s, Err NotAFunction)
runs go (calls.Function f) t args s = function_run go f.0 (slice_get s.funs f.0) args s
runs go (calls.Pure m) t args s = stores_result (method_value s.objects m t args) s
runs go (calls.OfArray o m) t args s = as_view_run (written (changed s.objects m o.0 (map value_in args)) s)
runs go (calls.OfEvent e m) t args s = (event_run e.0 m s, Ok nothing)
runs go (calls.OfScope scope m) t args s = scope_run go scope.0 m args s

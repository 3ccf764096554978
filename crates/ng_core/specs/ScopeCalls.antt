-- The methods of scopes and events that open no body and no event (API: `$rootScope.Scope`).
use Rattle.std.specs.Prelude.{ℕ, List, [], ◌∷◌, ◌++◌, length, Ok}
use Rattle.ng_base.specs.Views.{ViewTree, prim}
use Rattle.ng_base.specs.declared.value.Value.TheVariants as value
use Rattle.ng_behaviour.specs.Listeners.{with_listener}
use Rattle.ng_language.specs.Texts.{to_text}
use Rattle.ng_language.specs.declared.snapshots.SnapKind.{SnapKind}
use Rattle.ng_language.specs.Trees.{Trees}
use Rattle.ng_members.specs.Methods.{argument}
use Rattle.ng_write.specs.Events.{event_called}
use Rattle.ng_write.specs.declared.events.EventCall.{EventCall}
use Rattle.ng_write.specs.declared.events.EventCall.TheVariants as event_calls
use Rattle.ng_core.specs.Calling.{program_given, watch_given}
use Rattle.ng_core.specs.State.{State, Run, a_taker, an_unwatcher, adds, ◌>>=◌, with_task, with_change, with_serial, with_objects, with_heard, with_funs, with_stopped, given, stop}
use Rattle.ng_core.specs.Keeping.{nothing}

-- the listener is registered under the name of the function that takes it out, which is the value
abbrev pub listens : ℕ → List ℕ → Trees → State → Run ViewTree
listens scope name p s =
    (with_funs (s.funs ++ a_taker ∷ []) (with_heard (with_listener s.heard scope name (record { id = length s.funs; body = p })) s), Ok (prim (value.Fun (record { 0 = length s.funs }))))

-- `$on`: the event's name is a text, the listener a program
abbrev pub ons : ℕ → List ViewTree → State → Run ViewTree
ons scope args s = given s (to_text s.objects (argument args 0)) >>= λ name t. given t (program_given (argument args 1)) >>= λ p u. listens scope name p u

-- a watch more, under the next number; its value is the function that takes it out
abbrev pub watches : ℕ → SnapKind → Trees → Trees → State → Run ViewTree
watches scope kind e p s =
    (with_serial (with_change (adds (record { scope = scope; serial = s.serial; kind = kind; watched = e; body = p })) (with_funs (s.funs ++ an_unwatcher scope s.serial ∷ []) s)), Ok (prim (value.Fun (record { 0 = length s.funs }))))

-- `$watch` and `$watchCollection`: what is watched and what runs are programs
abbrev pub declares : ℕ → SnapKind → List ViewTree → State → Run ViewTree
declares scope kind args s = given s (watch_given (argument args 0)) >>= λ e t. given t (program_given (argument args 1)) >>= λ p u. watches scope kind e p u

-- `$evalAsync`: the program waits for the digest
abbrev pub defers : ℕ → List ViewTree → State → Run ViewTree
defers scope args s = given s (program_given (argument args 0)) >>= λ p t. (with_task (record { scope = scope; body = p }) t, Ok nothing)

-- `stopPropagation` and `preventDefault` set a property of the event, and the former ends its `$emit`
abbrev pub event_run : ℕ → EventCall → State → State
event_run e event_calls.StopPropagation s = with_stopped (stop e s.stopped) (with_objects (event_called s.objects e event_calls.StopPropagation) s)
event_run e event_calls.PreventDefault s = with_objects (event_called s.objects e event_calls.PreventDefault) s

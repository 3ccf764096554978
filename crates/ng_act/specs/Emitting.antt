-- An event goes up or down, and the listeners that it reaches have their turns (guide: Scopes, "Scope Events Propagation").
use Rattle.std.specs.Prelude.{ℕ, zero, suc, Bool, true, false, List, [], ◌∷◌, Option, Some, None, option_and_then, if◌then◌else◌}
use Rattle.ng_behaviour.specs.Listeners.{Listener, Heard, stands_at, heard_at, place_of, called}
use Rattle.ng_behaviour.specs.Scopes.{object_at, path_at, parent_at, live_at, next_scope}
use Rattle.ng_core.specs.State.{State, handed, is_stopped}
use Rattle.ng_core.specs.Burying.{next_then}
use Rattle.ng_core.specs.Events.{Event, object_value, shows_current, event_locals}
use Rattle.ng_act.specs.Asked.{Doing, a_body}

-- a listener's turn: it runs if it still stands and its scope is live, and a fault is handed over in place of its end
abbrev pub turned : Doing → Event → ℕ → Bool → Option Listener → State → State
turned go e scope live None s = s
turned go e scope false (Some l) s = s
turned go e scope true (Some l) s = handed (go (a_body scope (event_locals e) l.body) s)

-- the listener that stands at a place of a list, by its name
abbrev pub listener_at : List Heard → ℕ → ℕ → Option Listener
listener_at heard i k = option_and_then (λ (l : Listener). called heard l.id) (stands_at (heard_at heard i).entries k)

abbrev pub takes_turn : Doing → Event → ℕ → ℕ → ℕ → State → State
takes_turn go e scope i k s = turned go e scope (live_at s.scopes scope) (listener_at s.heard i k) s

-- each of a list of places has one turn, in order
abbrev pub turns : Doing → Event → ℕ → ℕ → List ℕ → State → State
turns go e scope i [] s = s
turns go e scope i (k ∷ ks) s = turns go e scope i ks (takes_turn go e scope i k s)

-- the places above one, so many
abbrev pub upfrom : ℕ → ℕ → List ℕ
upfrom p zero = []
upfrom p (suc k) = suc p ∷ upfrom (suc p) k

-- a scope is reached: the places that were given until now have one turn each. Where no listener stands any more the turn
-- is nothing, and a listener that is added has a place above them
abbrev pub visited : Doing → Event → ℕ → Option ℕ → State → State
visited go e scope None s = s
visited go e scope (Some i) s = turns go e scope i (upfrom 0 (heard_at s.heard i).last) s

abbrev pub visits : Doing → Event → ℕ → State → State
visits go e scope s =
    if live_at s.scopes scope
    then visited go e scope (place_of s.heard scope e.name) (shows_current e (object_value (object_at s.scopes scope)) s)
    else s

-- an event whose `stopPropagation` was called ends
abbrev pub unless_stopped : Event → State → (State → State) → State
unless_stopped e t f = if is_stopped t.stopped e.object then t else f t

-- the scope and then each parent, until `stopPropagation` was called
abbrev pub rises : ℕ → Doing → Event → Option ℕ → State → State
rises zero go e o s = s
rises (suc k) go e None s = s
rises (suc k) go e (Some scope) s = unless_stopped e (visits go e scope s) (λ t. rises k go e (parent_at t.scopes scope) t)

-- again and again the live scope of the least path above the last one that is the first scope or below it
abbrev pub sweeps : ℕ → Doing → Event → ℕ → ℕ → State → State
sweeps zero go e top last s = s
sweeps (suc k) go e top last s = next_then (next_scope s.scopes (path_at s.scopes last) (path_at s.scopes top)) s (λ scope. sweeps k go e top scope (visits go e scope s))

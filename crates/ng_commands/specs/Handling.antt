-- What a handler of an event does, up to its digest (API: ngClick; guide: Scopes, "Integration with the browser event loop"): whether it has its
-- turn, `$event`, and what its program leaves.
use Rattle.std.specs.Prelude.{ℕ, ◌&&◌, Bool, true, false, not, List, [], ◌∷◌, Option, None, Some, is_some, Result, Ok, Err, codes, if◌then◌else◌}
use Rattle.std.specs.List.{list_any}
use Rattle.std.specs.Str.{bytes_eq}
use Rattle.serde_json.specs.Data.{Data}
use Rattle.ng_core.specs.Events.{object_value}
use Rattle.ng_act.specs.Running.{act_run}
use Rattle.ng_core.specs.State as act
use Rattle.ng_core.specs.State.{Run, ◌>>=◌}
use Rattle.ng_base.specs.declared.fault.Fault.{Fault}
use Rattle.ng_base.specs.declared.value.Value.{Value}
use Rattle.ng_behaviour.specs.Scopes.{live_at}
use Rattle.ng_control.specs.State.{after_touch}
use Rattle.ng_dom.specs.Ancestors.{line}
use Rattle.ng_changes.specs.Runs.{followed, back}
use Rattle.ng_language.specs.Trees.{Trees}
use Rattle.ng_link.specs.Calls.{with_core, with_control_at, left_at}
use Rattle.ng_build.specs.Controls.{ControlHere}
use Rattle.ng_link.specs.Events.{named, is_handling, control_at, scope_of}
use Rattle.ng_link.specs.State.{State}
use Rattle.ng_link.specs.Untroubled.{untroubled}
use Rattle.ng_commands.specs.Commands.{begun}
use Rattle.ng_commands.specs.EventObject.{event_run}

-- an event: its type, and the names that `$event` has beside that
pub record Happening : Type 0 where
  pub type : List ℕ
  pub extra : Data

-- these don't bubble
abbrev pub stays_put : List (List ℕ)
stays_put = codes "mouseenter" ∷ codes "mouseleave" ∷ codes "focus" ∷ codes "blur" ∷ []

abbrev pub bubbles : List ℕ → Bool
bubbles type = not (list_any (bytes_eq type) stays_put)

-- The way of an event, which is fixed when it is dispatched: the node and the elements round it, or the node alone.
abbrev pub way : List ℕ → ℕ → State → List ℕ
way type n s = if bubbles type then line n (named s) else n ∷ []

-- `$event` is made by the first handler that has a program, and there is one for the whole dispatch. It may be awaited once the command has
-- begun. Where it can't be made no further handler runs.
pub data Event : Type 0 where
  unmade : Event
  awaited : Event
  made : ℕ → Event
  refused : Event

-- how far a dispatch has come
pub record Going : Type 0 where
  pub state : State
  pub event : Event

abbrev pub is_refused : Event → Bool
is_refused refused = true
is_refused (made o) = false
is_refused unmade = false
is_refused awaited = false

-- a handler runs where `$event` could be made, its node stands, and its scope lives
abbrev pub has_turn : ℕ → Going → Bool
has_turn n g = not (is_refused g.event) && (is_handling g.state n && live_at g.state.core.scopes (scope_of g.state n))

-- the first handler begins the command, and each begins without a fault
abbrev pub ready : Event → State → State
ready unmade s = begun s
ready awaited s = with_core (untroubled s.core) s
ready (made o) s = with_core (untroubled s.core) s
ready refused s = s

-- `$event`, as it stands or as it is made
abbrev pub event_of : Happening → Event → act.State → Run ℕ
event_of x (made o) c = (c, Ok o)
event_of x unmade c = event_run x.type x.extra c
event_of x awaited c = event_run x.type x.extra c
event_of x refused c = event_run x.type x.extra c

abbrev pub event_after : Result ℕ Fault → Event
event_after (Ok o) = made o
event_after (Err f) = refused

-- a program runs on a scope, while no body and no event is open, with the local `$event`
unfoldable pub handler_run : ℕ → ℕ → Trees → act.State → Run Value
handler_run scope o p c = back c (act_run 64 scope ((codes "$event", object_value o) ∷ []) p c)

abbrev pub handling_run : Happening → Event → ℕ → Trees → act.State → Run Value
handling_run x e scope p c = event_of x e c >>= λ o d. handler_run scope o p d

-- on a root that has died nothing is watched any more
abbrev pub rested : State → State
rested s = if live_at s.core.scopes 0 then s else left_at [] s

-- what a handler leaves: its fault is handed over, and what it left for the watchers is done
abbrev pub handled : Happening → ℕ → Trees → Going → State
handled x n p g = by (ready g.event g.state)
  where
    by : State → State
    by s = rested (followed (handling_run x g.event (scope_of s n) p s.core) s)

abbrev pub event_then : Happening → Going → Event
event_then x g = event_after (event_of x g.event (ready g.event g.state).core).1

-- the control that a node is loses the focus at a `blur`, where its scope lives; that is a turn of its own, in an `$apply` of its own
abbrev pub is_blur : List ℕ → Bool
is_blur type = bytes_eq type (codes "blur")

abbrev pub has_touch : Happening → ℕ → Going → Bool
has_touch x n g = is_blur x.type && (not (is_refused g.event) && (is_some (control_at g.state n) && live_at g.state.core.scopes (scope_of g.state n)))

abbrev pub touch_run : Option ControlHere → State → State
touch_run None s = s
touch_run (Some c) s = with_control_at after_touch c.key s

abbrev pub touched : ℕ → Going → State
touched n g = rested (touch_run (control_at g.state n) (ready g.event g.state))

abbrev pub touched_then : Event → Event
touched_then unmade = awaited
touched_then awaited = awaited
touched_then (made o) = made o
touched_then refused = refused

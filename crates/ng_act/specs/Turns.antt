-- The turns that a walk has left, and the walks but one.
use Rattle.std.specs.Prelude.{ℕ, ◌-◌, List, Option, Some, None}
use Rattle.ng_chain.specs.Walked.{walk_at}
use Rattle.ng_chain.specs.declared.chain.Span.{Span}
use Rattle.ng_events.specs.Stands.{Table, walks_at, put_walk}
use Rattle.ng_events.specs.declared.stands.EventWalk.{EventWalk}
use Rattle.ng_events.specs.declared.stands.EventWalk.TheVariants.{Bare, On}
use Rattle.ng_core.specs.Events.{Event}
use Rattle.ng_act.specs.Asked.{Doing}
use Rattle.ng_act.specs.Emitting.{turns, upfrom}
use Rattle.ng_core.specs.State.{State}

-- the turns that a walk has left
abbrev pub left_turns : Doing → Event → ℕ → ℕ → Option Span → State → State
left_turns go e scope i None s = s
left_turns go e scope i (Some w) s = turns go e scope i (upfrom w.place (w.end - w.place)) s

abbrev pub walk_turns : Doing → Event → ℕ → Table → EventWalk → State → State
walk_turns go e scope t Bare s = s
walk_turns go e scope t (On i w) s = left_turns go e scope i (walk_at (walks_at t i) w.slot) s

-- the walks as they are once one is closed
abbrev pub closed : Table → EventWalk → ℕ → List (Option Span)
closed t Bare = walks_at t
closed t (On i w) = put_walk (walks_at t) i w.slot None

abbrev pub left_of : Option Span → ℕ
left_of None = 0
left_of (Some w) = w.end - w.place

-- how many places a walk has ahead at most
abbrev pub ahead_of : Table → EventWalk → ℕ
ahead_of t Bare = 0
ahead_of t (On i w) = left_of (walk_at (walks_at t i) w.slot)

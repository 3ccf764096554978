-- A dispatch of an event comes to an end: each handler's digest does, and no handler adds to the way.
use Rattle.std.proofs.Common.{◌≡◌, ℕ, Bool, true, false, List, [], ◌∷◌, ◌++◌, Option, Some, None, refl}
use Rattle.ng_behaviour.specs.Scopes.{live_at}
use Rattle.ng_changes.specs.Runs.{followed}
use Rattle.ng_language.specs.Trees.{Trees}
use Rattle.ng_link.specs.Calls.{left_at}
use Rattle.ng_build.specs.Controls.{ControlHere}
use Rattle.ng_link.specs.Events.{handlers_at, control_at, scope_of}
use Rattle.ng_link.specs.State.{State}
use Rattle.ng_commands.specs.Handling.{Happening, Event, unmade, awaited, made, refused, Going, way, has_turn, ready, handling_run, rested, handled, event_then, has_touch, touch_run, touched, touched_then}
use Rattle.ng_page.specs.Dispatch.{Told, MayTakeTurn, Handles, MayTouch, HandlesAt, is_stopped, Unless, Bubbles, before, Dispatches}
use Rattle.ng_fire.proofs.Ordered.{IsOrdered, either, left_ordered, followed_ordered}
use Rattle.ng_laws.proofs.StepEnds.{StepEnds, step_ends}

-- ---- one handler

ready_ordered : (e : Event) (s : State) → IsOrdered s → IsOrdered (ready e s)
ready_ordered unmade s h = h
ready_ordered awaited s h = h
ready_ordered (made o) s h = h
ready_ordered refused s h = h

rested_ordered : (s : State) → IsOrdered s → IsOrdered (rested s)
rested_ordered s h = either (live_at s.core.scopes 0) s (left_at [] s) h (left_ordered [] s h)

handled_ordered : (x : Happening) (n : ℕ) (p : Trees) (g : Going) → IsOrdered g.state → IsOrdered (handled x n p g)
handled_ordered x n p g h =
    let s = ready g.event g.state in
    let r = handling_run x g.event (scope_of s n) p s.core in
    rested_ordered (followed r s) (followed_ordered r s (ready_ordered g.event g.state h))

-- that of a control
touched_ordered : (n : ℕ) (g : Going) → IsOrdered g.state → IsOrdered (touched n g)
touched_ordered n g h = rested_ordered (touch_run (control_at g.state n) (ready g.event g.state)) (by_control (control_at g.state n) (ready g.event g.state) (ready_ordered g.event g.state h))
  where
    by_control : (c : Option ControlHere) (s : State) → IsOrdered s → IsOrdered (touch_run c s)
    by_control None s h = h
    by_control (Some c) s h = h

-- what goes on from a place comes to an end
abbrev IsGone : (List Told → Going → Type 0) → Type 0
IsGone Goes = (os : List Told) × (h : Going) × Goes os h × IsOrdered h.state

module _ (x : Happening) where
  turned : (n : ℕ) (p : Trees) (g : Going) → StepEnds (handled x n p g) → IsGone (MayTakeTurn true x n p g)
  turned n p g e =
      let s = handled x n p g in
      let o : Told = record { count = s.core.handed.count; first = s.core.handed.first; digest = e.answer; probed = e.probed } in
      let h : Going = record { state = e.state; event = event_then x g } in
      (o ∷ [], h, (o, record { ends = e.ends; short = e.short; event = refl }, refl), e.ordered)

  may_some : (b : Bool) (n : ℕ) (p : Trees) (g : Going) → IsOrdered g.state → IsGone (MayTakeTurn b x n p g)
  may_some true n p g h = turned n p g (step_ends (handled x n p g) (handled_ordered x n p g h))
  may_some false n p g h = ([], g, (refl, refl), h)

  -- ---- one after another

  handles_some : (n : ℕ) (ps : List Trees) (g : Going) → IsOrdered g.state → IsGone (Handles x n ps g)
  handles_some n [] g h = ([], g, (refl, refl), h)
  handles_some n (p ∷ ps) g h =
      let one = may_some (has_turn n g) n p g h in
      let more = handles_some n ps one.1 one.3 in
      (one.0 ++ more.0, more.1, (one.1, one.0, more.0, one.2, more.2, refl), more.3)

  touched_on : (n : ℕ) (g : Going) → StepEnds (touched n g) → IsGone (MayTouch true n g)
  touched_on n g e =
      let s = touched n g in
      let o : Told = record { count = s.core.handed.count; first = s.core.handed.first; digest = e.answer; probed = e.probed } in
      let h : Going = record { state = e.state; event = touched_then g.event } in
      (o ∷ [], h, (o, record { ends = e.ends; short = e.short; event = refl }, refl), e.ordered)

  may_touch_some : (b : Bool) (n : ℕ) (g : Going) → IsOrdered g.state → IsGone (MayTouch b n g)
  may_touch_some true n g h = touched_on n g (step_ends (touched n g) (touched_ordered n g h))
  may_touch_some false n g h = ([], g, (refl, refl), h)

  node_some : (n : ℕ) (g : Going) → IsOrdered g.state → IsGone (HandlesAt x n g)
  node_some n g h =
      let one = may_touch_some (has_touch x n g) n g h in
      let more = handles_some n (handlers_at g.state n x.type) one.1 one.3 in
      (one.0 ++ more.0, more.1, (one.1, one.0, more.0, one.2, more.2, refl), more.3)

  unless_some : (b : Bool) (Goes : Going → List Told → Going → Type 0) (g : Going) → IsOrdered g.state → IsGone (Goes g) → IsGone (Unless b Goes g)
  unless_some true Goes g h gone = ([], g, (refl, refl), h)
  unless_some false Goes g h gone = gone

  bubbles_some : (ns : List ℕ) (g : Going) → IsOrdered g.state → IsGone (Bubbles x ns g)
  bubbles_some [] g h = ([], g, (refl, refl), h)
  bubbles_some (n ∷ ns) g h =
      let one = node_some n g h in
      let more = bubbles_some ns one.1 one.3 in
      unless_some (is_stopped g)
      (λ (g : Going) (os : List Told) (h : Going). (mid : Going) × (first : List Told) × (rest : List Told) × HandlesAt x n g first mid × Bubbles x ns mid rest h × (os ≡ first ++ rest)) g h
      (one.0 ++ more.0, more.1, (one.1, one.0, more.0, one.2, more.2, refl), more.3)

pub dispatch_some : (x : Happening) (n : ℕ) (s : State) → IsOrdered s → (os : List Told) × (t : State) × Dispatches x n s os t × IsOrdered t
dispatch_some x n s h =
    let gone = bubbles_some x (way x.type n s) (before s) h in
    (gone.0, gone.1.state, (gone.1, gone.2, refl), gone.3)

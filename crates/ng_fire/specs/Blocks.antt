-- What the fire of a site does that fills outlets (API: ngIf, ngSwitch, ngInclude, ngRepeat). First the scopes of bodies that are not to stay are
-- destroyed, each before its body is gone. Then, where a body is called for that doesn't stand, a child scope is made and the body is linked
-- on it, up to the first fault.
use Rattle.std.specs.Prelude.{ℕ, ◌||◌, Bool, true, false, List, [], ◌∷◌, Option, None, Some, Result, Ok, Err, if◌then◌else◌}
use Rattle.ng_core.specs.Burying.{buried}
use Rattle.ng_core.specs.State as act
use Rattle.ng_core.specs.State.{Run, with_fault}
use Rattle.ng_base.specs.Views.{ViewTree}
use Rattle.ng_base.specs.declared.fault.Fault.{Fault}
use Rattle.ng_base.specs.declared.fault.Fault.TheVariants.{Depth}
use Rattle.ng_drawing.specs.Origins.{is_too_deep}
use Rattle.ng_drawing.specs.Template.{Fragment}
use Rattle.ng_drawing.specs.declared.origin.Origin.{Origin}
use Rattle.ng_drawing.specs.Named.{fragments_in}
use Rattle.ng_instances.specs.Changing.{Place}
use Rattle.ng_link.specs.Calls.{with_core, unlinked_at}
use Rattle.ng_link.specs.Events.{scope_in}
use Rattle.ng_instances.specs.Due.{Due}
use Rattle.ng_instances.specs.Instances.{Body, linked_at}
use Rattle.ng_link.specs.State.{State}
use Rattle.ng_changes.specs.Changes.{changed}
use Rattle.ng_steps.specs.Links.{Linking, begins_linking, adds, link_at}
use Rattle.ng_changes.specs.Runs.{followed, destroy_run}
use Rattle.ng_members.specs.Leaves.{Local}
use Rattle.ng_changes.specs.ChildRun.{child_run}
use Rattle.ng_rows.specs.Chosen.{told_on, goes}

-- how far a fire has come: the state, whether the fire itself has faulted, and whether it left a watcher more
pub record Firing : Type 0 where
  pub state : State
  pub faulted : Bool
  pub added : Bool

abbrev pub begins_firing : State → Firing
begins_firing s = record { state = s; faulted = false; added = false }

-- after a run: its fault is handed over, and what it left for the watchers is done
abbrev pub went : {A : Type 0} → Run A → Firing → Firing
went r g = record { state = followed r g.state; faulted = g.faulted; added = g.added || adds r }

-- the scope of the body on a path is destroyed
abbrev pub ended : List ℕ → Firing → Firing
ended p g = went (destroy_run (scope_in (linked_at p g.state.instances)) g.state.core) g

-- then the body is gone
abbrev pub gone : List ℕ → Body → Firing → Firing
gone holder b g = by (ended b.path g)
  where
    by : Firing → Firing
    by h = record h { state = unlinked_at holder b.path h.state }

abbrev pub all_gone : List ℕ → List Body → Firing → Firing
all_gone holder [] g = g
all_gone holder (b ∷ bs) g = all_gone holder bs (gone holder b g)

-- the fire itself faults
abbrev pub faulted_with : Fault → Firing → Firing
faulted_with e g = record g { state = with_core (with_fault e g.state.core) g.state; faulted = true }

-- A scope that was made in vain: it and all below it are dead, and their listeners and watches are gone, without an event.
abbrev pub discarded : ℕ → State → State
discarded scope s = changed (with_core (buried scope s.core) s)

-- a body is linked on its scope; a fault of that makes the scope one that was made in vain
abbrev pub linked_then : ℕ → Option Fault → Linking → Firing → Firing
linked_then scope None l g = record g { state = l.state; added = g.added || l.added }
linked_then scope (Some e) l g = faulted_with e (record g { state = discarded scope l.state; added = g.added || l.added })

abbrev pub linked_by : ℕ → Linking → Firing → Firing
linked_by child l g = linked_then child l.fault l g

abbrev pub body_linked : Place → Origin → Fragment → ℕ → List ℕ → State → Firing → Firing
body_linked place which f child outsides s g = linked_by child (link_at place which child outsides f s) g

-- A template that is included where no more may be is a fault before the first step.
abbrev pub body_on : Place → Origin → Fragment → ℕ → List ℕ → State → Firing → Firing
body_on place which f child outsides s g = if is_too_deep which then linked_then child (Some Depth) (begins_linking child outsides s) g else body_linked place which f child outsides s g

-- a body is made at a place, on the child scope where there is one, once that has been told some names
abbrev pub body_made : Place → List ℕ → List Local → Origin → Fragment → act.State → Result ℕ Fault → Firing → Firing
body_made place outsides names which f c (Err e) g = faulted_with e g
body_made place outsides names which f c (Ok child) g = body_on place which f child outsides (with_core (told_on child names c) g.state) g

-- the body of a fragment is made at a place round which is a scope, where the slots in it are given something by directives of which these are the
-- scopes outside
abbrev pub filled : Place → ℕ → List ℕ → List Local → Origin → Firing → Firing
filled place scope outsides names which g = by (child_run scope g.state.core)
  where
    by : Run ℕ → Firing
    by r = body_made place outsides names which (fragments_in g.state.templates which) r.0 r.1 g

abbrev pub outlet_emptied : List ℕ → ViewTree → Due → Firing → Firing
outlet_emptied holder v d g = if goes d.filling v then all_gone holder d.bodies g else g

abbrev pub outlets_emptied : List ℕ → ViewTree → List Due → Firing → Firing
outlets_emptied holder v [] g = g
outlets_emptied holder v (d ∷ ds) g = outlets_emptied holder v ds (outlet_emptied holder v d g)

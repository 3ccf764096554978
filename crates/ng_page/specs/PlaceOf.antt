-- The engine of a page as a world.
use Rattle.std.specs.Prelude.{ℕ, ◌≡◌, List, Option, Some, None, Result, Ok, Err, IsSome, option_map}
use Rattle.ng_base.specs.Views.{ViewTree}
use Rattle.ng_base.specs.declared.fault.Fault.{Fault}
use Rattle.ng_base.specs.declared.path.Key.{Key}
use Rattle.ng_digest.specs.Place.{Place, Moves}
use Rattle.ng_digest.specs.Progress.{place}
use Rattle.ng_digest.specs.declared.world.Tested.{Tested}
use Rattle.ng_digest.specs.declared.world.Tested.TheVariants.{Dirty}
use Rattle.ng_digest.specs.declared.world.Stage.{Stage}
use Rattle.ng_digest.specs.declared.world.Stage.TheVariants.{AtKey, Pending}
use Rattle.ng_link.specs.State as link
use Rattle.ng_link.specs.declared.works.Works.{Works}
use Rattle.ng_value.specs.Snaps.{snap_of}
use Rattle.ng_watch.specs.Table.{Table, found}
use Rattle.ng_watch.specs.Verdicts.{Judged, judged_of, verdict}
use Rattle.ng_watch.specs.Walks.{Arrival, behind_all, at_watcher}
use Rattle.ng_watch.specs.declared.watch.Verdict.{Verdict}
use Rattle.ng_page.specs.KnownClean.{AreClean}
use Rattle.ng_page.specs.PageMachine.{State, handed_on_at, page_machine}
use Rattle.ng_page.specs.declared.engine.Engine.{Engine}
use Rattle.ng_commands.specs.BetweenSteps.{WorksAre}

-- what works stand for in a digest, with what it remembers of tests, fires and probes
abbrev pub seen_of : Works → List Key → List Key → List (List ℕ) → State
seen_of w told faulted probed = record { works = link.state_of w; told = told; faulted = faulted; probed = probed }

abbrev pub state_of : Engine → State
state_of e = seen_of e.works e.told.keys e.faulted.keys e.probed

abbrev pub place_of : Engine → Place State Key
place_of e = place (state_of e) e.progress

-- the cursor stands at a key that has a watcher
abbrev pub IsAtWatcher : Option Key → Table → Type 0
IsAtWatcher None t = ⊥
IsAtWatcher (Some k) t = IsSome (found k t)

-- what a dirty test at the cursor hands on
abbrev pub handed_on_from : State → Option Key → Option ViewTree
handed_on_from s None = None
handed_on_from s (Some k) = handed_on_at s k

-- what the test of the watcher at the cursor finds, if there is one
abbrev pub judged_in : link.State → Key → Option (Result Judged Fault)
judged_in s k = option_map (verdict s.core.objects) (found k s.watchers)

abbrev pub judged_at : State → Option Key → Option (Result Judged Fault)
judged_at s None = None
judged_at s (Some k) = judged_in s.works k

-- what a walk found at a watcher
abbrev pub seen_found : Result Verdict Fault → Result Judged Fault
seen_found (Ok v) = Ok (judged_of v)
seen_found (Err f) = Err f

-- the key to which a walk came, the one up to which it went where it came to none, and what it found: nothing new at the end
abbrev pub key_at : Arrival → Option Key
key_at (behind_all c) = None
key_at (at_watcher k r) = Some k

abbrev pub last_at : Arrival → Option Key
last_at (behind_all c) = c
last_at (at_watcher k r) = None

abbrev pub found_there : Arrival → Result Judged Fault → Result Judged Fault
found_there (behind_all c) r = r
found_there (at_watcher k x) r = x

-- before a test what it finds is at hand, and between it and its fire the snapshot of now
abbrev pub IsAtStage : Stage → Engine → Type 0
IsAtStage AtKey e = IsAtWatcher e.progress.cursor (link.state_of e.works).watchers × (judged_at (state_of e) e.progress.cursor ≡ Some (seen_found e.ahead))
IsAtStage Pending e = IsAtWatcher e.progress.cursor (link.state_of e.works).watchers × (option_map snap_of e.pending ≡ handed_on_from (state_of e) e.progress.cursor)
IsAtStage stage e = Unit {0}

-- what holds where a test was dirty
abbrev pub OnDirty : Tested → Type 0 → Type 0
OnDirty Dirty p = p
OnDirty tested p = Unit {0}

-- what holds of the engine between the calls of a digest
pub record Holds (e : Engine) : Type 0 where
  pub works : WorksAre e.works
  pub stage : IsAtStage e.progress.stage e
  pub known : AreClean e.known e.progress.cursor e.told.keys (link.state_of e.works).core.objects (link.state_of e.works).watchers

-- which counter of a page stands at its last value is told by the commands on it, and not by each call of a digest
abbrev pub engine_moves : Moves Engine
engine_moves = record { State = State; Key = Key; machine = page_machine; at = place_of; Holds = Holds; Rests = λ e. WorksAre e.works; IsWorn = λ e. Unit {0} }

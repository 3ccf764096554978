-- What is proved of pages by their definitions alone.
use Rattle.std.specs.Prelude.{ℕ, ◌+◌, ◌≡◌, ◌≤◌, ◌<◌, List, [], ◌∷◌, ◌++◌, Some, Ok}
use Rattle.std.specs.List.{AllByRecursion}
use Rattle.std.specs.List.Sorted.{IsStrictlySortedBy}
use Rattle.std.specs.Ordering.{nat_cmp}
use Rattle.ng_core.specs.ScopeCalls.{watches}
use Rattle.ng_act.specs.Asked.{Asked as Opened}
use Rattle.ng_act.specs.Actions.{does}
use Rattle.ng_core.specs.State as act
use Rattle.ng_base.specs.Objects.{Object}
use Rattle.ng_base.specs.Views.{ViewTree}
use Rattle.ng_base.specs.declared.name.Oid.{Oid}
use Rattle.ng_base.specs.declared.path.Key.{Key}
use Rattle.ng_drawing.specs.Drawing.{shown_as}
use Rattle.ng_drawing.specs.Template.{Fragment}
use Rattle.ng_steps.specs.Links.{Linking, begins_linking, steps_linked}
use Rattle.ng_language.specs.Trees.{Trees}
use Rattle.ng_language.specs.declared.snapshots.SnapKind.{SnapKind}
use Rattle.ng_build.specs.Linking.{LinkStep}
use Rattle.ng_link.specs.Standing.{AreInner}
use Rattle.ng_link.specs.State.{State, shown, rendering}
use Rattle.ng_value.specs.Taken.{taken}
use Rattle.ng_watch.specs.Now.{value_now, two_way_kind}
use Rattle.ng_watch.specs.Seen.{Watcher}
use Rattle.ng_watch.specs.Table.{found}
use Rattle.ng_watch.specs.Verdicts.{own_value}
use Rattle.ng_watch.specs.declared.watch.WatchKind.TheVariants as kinds
use Rattle.ng_commands.specs.Commands.{Asked}
use Rattle.ng_commands.specs.Handling.{Happening}
use Rattle.ng_page.specs.Dispatch.{Told, Dispatches}
use Rattle.ng_commands.specs.Settled.{IsSettled, IsWatched, Fits}
use Rattle.ng_page.specs.Steps.{Outcome, Steps}

-- Where no watcher of a page is dirty, and each block has the bodies that it calls for, the page shows its rendering. The scopes of what is linked are noted
-- with it.
abbrev pub SettledPageShowsItsRendering : Type 0
SettledPageShowsItsRendering = (s : State) → IsSettled s → IsWatched s → AreInner s.inner s.instances → Fits [] s → rendering s ≡ shown_as (shown s)

-- Both sides of a two-way binding come to what its watcher has kept: what its program comes to now, and what the isolate scope itself has under the name.
pub record SidesAgree (objects : List Object) (w : Watcher) (dest : ℕ) (name : List ℕ) : Type 0 where
  pub value : ViewTree
  pub last : ViewTree
  pub now : value_now objects w.watch ≡ Ok value
  pub parent : taken (two_way_kind value) objects value ≡ Ok last
  pub own : taken (two_way_kind value) objects (own_value objects dest name) ≡ Ok last
  pub kept : w.kept ≡ Some last

-- where no watcher of a page is dirty, both sides of each two-way binding agree
abbrev pub SettledBindingsAgree : Type 0
SettledBindingsAgree =
    (s : State) → IsSettled s → (k : Key) (w : Watcher) (dest : Oid) (name : List ℕ) → found k s.watchers ≡ Some w → w.watch.kind ≡ kinds.TwoWay dest name → SidesAgree s.core.objects w dest.0 name

-- what holds of the state before each step of a page and that after it: of the step of a command and that of an event
abbrev pub OfEachStep : (State → State → Type 0) → Type 0
OfEachStep P =
    ((a : Asked) (s : State) (o : Outcome) (t : State) → Steps a s o t → P s t)
    × ((x : Happening) (n : ℕ) (s : State) (os : List Told) (t : State) → Dispatches x n s os t → P s t)

-- no step changes a template
abbrev pub NoStepChangesATemplate : Type 0
NoStepChangesATemplate = OfEachStep (λ s t. t.templates ≡ s.templates)

-- A watcher's key has a number of registration. The sites that are linked get new ones, one above the other: none was given before
-- the linking, and the next number is above them all.
abbrev pub AreNew : ℕ → Linking → Type 0
AreNew first g = IsStrictlySortedBy nat_cmp g.made.serials × AllByRecursion (λ n. (first ≤ n) × (n < g.state.core.serial)) g.made.serials

abbrev pub LinkedSitesGetNewNumbers : Type 0
LinkedSitesGetNewNumbers =
    (f : Fragment) (scope : ℕ) (outsides : List ℕ) (xs : List LinkStep) (s : State) → AreNew s.core.serial (steps_linked f xs (begins_linking scope outsides s))

-- a watch that is declared gets the next number, and then the next one is above it
abbrev pub DeclaredWatchGetsTheNextNumber : Type 0
DeclaredWatchGetsTheNextNumber = (scope : ℕ) (kind : SnapKind) (watched body : Trees) (c : act.State) →
    ((watches scope kind watched body c).0.changes ≡ c.changes ++ act.adds (record { scope = scope; serial = c.serial; kind = kind; watched = watched; body = body }) ∷ [])
    × ((watches scope kind watched body c).0.serial ≡ c.serial + 1)

-- no program lowers the next number, whatever it opens
abbrev pub NoProgramLowersTheNextNumber : Type 0
NoProgramLowersTheNextNumber = (room : ℕ) (a : Opened) (c : act.State) → c.serial ≤ (does room a c).0.serial

-- and no step does
abbrev pub NoStepLowersTheNextNumber : Type 0
NoStepLowersTheNextNumber = OfEachStep (λ s t. s.core.serial ≤ t.core.serial)

-- What an outlet asks of the table of instances when the site fires that it is filled by, and what its turn leaves for those after it.
use Rattle.std.specs.Prelude.{ℕ, ◌≡◌, ◌+◌, ◌<◌, ◌≤◌, false, List, [], ◌∷◌, map, Option, Some, None, option_map, slice_get}
use Rattle.std.specs.List.{AllByRecursion}
use Rattle.ng_drawing.specs.Named.{Named}
use Rattle.ng_instances.specs.Due.{Due}
use Rattle.ng_link.specs.Events.{scope_in}
use Rattle.ng_instances.specs.Instances.{Body, OutletState, Linked, Instances, is_path, linked_at, with_bodies}
use Rattle.ng_link.specs.Standing.{IsBelow, body_count, held_count}
use Rattle.ng_behaviour.specs.Keys.{begins}
use Rattle.ng_changes.specs.Whole.{HasBody}

abbrev pub outlets_in : Option Linked → List OutletState
outlets_in None = []
outlets_in (Some l) = l.page.outlets

-- an outlet without its bodies
abbrev pub bare : OutletState → OutletState
bare x = with_bodies [] x

-- the outlets of an instance, and how many bodies on a path it holds
abbrev pub bare_outlets : List ℕ → Instances → List OutletState
bare_outlets holder is = map bare (outlets_in (linked_at holder is))

abbrev pub bodies_held : List ℕ → List ℕ → Instances → ℕ
bodies_held holder q is = held_count q (outlets_in (linked_at holder is))

-- so many bodies on each path are held
abbrev pub AreHeldBy : List ℕ → List Body → Instances → Type 0
AreHeldBy holder bs is = (q : List ℕ) → body_count q bs ≤ bodies_held holder q is

-- an outlet of this number is there, round which is this scope, and the scopes outside what its slots are given are these
abbrev pub IsAt : List ℕ → Instances → ℕ → ℕ → List ℕ → Type 0
IsAt holder is o scope outsides = option_map {U = ℕ × List ℕ} (λ (x : OutletState). (x.scope, x.outsides)) (slice_get (bare_outlets holder is) o) ≡ Some (scope, outsides)

-- an outlet is there, and its bodies are fragments
pub record IsThere (all : List Named) (holder : List ℕ) (is : Instances) (d : Due) : Type 0 where
  pub outlet : IsAt holder is d.outlet d.scope d.outsides
  pub body : HasBody all d.home.template.0 d.filling

abbrev pub due_count : List ℕ → List Due → ℕ
due_count q [] = 0
due_count q (d ∷ ds) = body_count q d.bodies + due_count q ds

-- outlets of an instance that are due: each is there, and the instance holds the bodies that they have
pub record AreDue (all : List Named) (holder : List ℕ) (is : Instances) (ds : List Due) : Type 0 where
  pub there : AllByRecursion (IsThere all holder is) ds
  pub bodies : (q : List ℕ) → due_count q ds ≤ bodies_held holder q is

-- an instance stays on its scope with its outlets, whatever fills them
pub record Keeps (holder : List ℕ) (old new : Instances) : Type 0 where
  pub scope : scope_in (linked_at holder new) ≡ scope_in (linked_at holder old)
  pub outlets : bare_outlets holder new ≡ bare_outlets holder old

-- so it does, and of its bodies at most these go
pub record Serves (holder : List ℕ) (bs : List Body) (old new : Instances) : Type 0 where
  pub scope : scope_in (linked_at holder new) ≡ scope_in (linked_at holder old)
  pub outlets : bare_outlets holder new ≡ bare_outlets holder old
  pub bodies : (q : List ℕ) → bodies_held holder q old ≤ bodies_held holder q new + body_count q bs

-- what is linked stays as it is, but on the path of an instance, whose outlets may change
abbrev pub OthersStay : List ℕ → Instances → Instances → Type 0
OthersStay holder old new = (q : List ℕ) (l : Linked) → is_path q holder ≡ false → linked_at q old ≡ Some l → linked_at q new ≡ Some l

-- what is linked below an instance, and not below bodies that go, stays as it is
abbrev pub RestStays : List ℕ → List Body → Instances → Instances → Type 0
RestStays holder bs old new = (q : List ℕ) → IsBelow holder q → AllByRecursion (λ (b : Body). begins b.path q ≡ false) bs → linked_at q new ≡ linked_at q old

-- what is linked on the paths of bodies stays as it is: they keep their scopes and their nodes
abbrev pub BodiesStay : List Body → Instances → Instances → Type 0
BodiesStay bs old new = (q : List ℕ) (l : Linked) → 0 < body_count q bs → linked_at q old ≡ Some l → linked_at q new ≡ Some l

-- What goes when a body is unlinked.
use Rattle.std.specs.Prelude.{ℕ, zero, suc, ◌≡◌, List, [], ◌∷◌, Option, Some, slice_get}
use Rattle.ng_dom.specs.Document.{rooms, top, Becomes, Stays, Fewer}
use Rattle.ng_dom.specs.Editing.{changed_in, with_groups, group_removed}
use Rattle.ng_dom.specs.Lists.{list_at, without_at}
use Rattle.ng_dom.specs.Nodes.{NamedForest, names_of}
use Rattle.ng_dom.specs.Removal.{groups_in, group_emptied, AreGone, IsThere, IsApartFromOthers}
use Rattle.ng_dom.specs.Rooms.{ReadsIn}
use Rattle.ng_dom.specs.declared.dom.Dom.{Dom}
use Rattle.ng_instances.specs.Instances.{Body, OutletState}

-- the i-th of some bodies has this path
abbrev pub IsBodyAt : List ℕ → ℕ → List Body → Type 0
IsBodyAt p i bs = (c : Body) × (slice_get bs i ≡ Some c) × (p ≡ c.path)

-- so has the i-th body of an outlet
abbrev pub IsHeldAt : List ℕ → ℕ → ℕ → List OutletState → Type 0
IsHeldAt p o i os = (x : OutletState) × (slice_get os o ≡ Some x) × IsBodyAt p i x.bodies

-- the i-th body of an outlet is taken out
abbrev pub body_cut : ℕ → ℕ → List OutletState → List OutletState
body_cut o i [] = []
body_cut zero i (x ∷ xs) = (record x { bodies = without_at i x.bodies }) ∷ xs
body_cut (suc o) i (x ∷ xs) = x ∷ body_cut o i xs

-- the nodes of the i-th group of an anchor are gone
pub record Empties (a i : ℕ) (d e : Dom) : Type 0 where
  pub reads : (piece : NamedForest) → names_of piece ≡ list_at i (groups_in (rooms d a)) → ReadsIn (rooms d) (Some a) piece → IsApartFromOthers i (groups_in (rooms d a))
      → (p : Option ℕ) (f : NamedForest) → (p ≡ Some a → ⊥) → ReadsIn (rooms d) p f → IsThere (rooms e) p → ReadsIn (rooms e) p (changed_in a (with_groups (group_emptied i)) f)
  pub gone : (piece : NamedForest) → names_of piece ≡ list_at i (groups_in (rooms d a)) → ReadsIn (rooms d) (Some a) piece → AreGone (rooms e) piece
  pub top : top e ≡ top d
  pub fewer : Fewer d e

-- and the group is taken out
pub record CutsOut (a i : ℕ) (d g : Dom) : Type 0 where
  pub emptied : Dom
  pub empties : Empties a i d emptied
  pub becomes : Becomes emptied g (changed_in a (with_groups (group_removed i)))
  pub stays : Stays emptied g

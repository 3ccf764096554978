-- The bodies of an outlet in another order, or with other roles.
use Rattle.std.specs.Prelude.{ℕ, ◌≡◌, ◌&&◌, Bool, true, false, List, [], ◌∷◌, Option, None, Some, slice_get}
use Rattle.std.specs.List.{AllByRecursion}
use Rattle.ng_dom.specs.Document.{Becomes, Stays}
use Rattle.ng_dom.specs.Editing.{changed_in, with_groups, picked}
use Rattle.ng_dom.specs.declared.dom.Dom.{Dom}
use Rattle.ng_instances.specs.Instances.{Body, OutletState, Instances, is_path, linked_at}
use Rattle.ng_instances.specs.PlaceOf.{outlet_of_linked}
use Rattle.ng_link.specs.Standing.{body_count}

-- whether bodies are on the same paths, one by one
abbrev pub are_alike : List Body → List Body → Bool
are_alike [] [] = true
are_alike (b ∷ bs) (c ∷ cs) = is_path b.path c.path && are_alike bs cs
are_alike bs cs = false

-- the body at a place is on a path
abbrev pub IsPlaceOf : List Body → List ℕ → ℕ → Type 0
IsPlaceOf bs p i = (b : Body) × (slice_get bs i ≡ Some b) × (p ≡ b.path)

-- each path has the place of a body on it
abbrev pub ArePlaces : List Body → List (List ℕ × ℕ) → Type 0
ArePlaces bs es = AllByRecursion (λ e. IsPlaceOf bs e.0 e.1) es

-- these places are those of bodies, by their paths, among others
abbrev pub AreAt : List Body → List ℕ → List Body → Type 0
AreAt old [] [] = Unit {0}
AreAt old (i ∷ is) (b ∷ bs) = IsPlaceOf old b.path i × AreAt old is bs
AreAt old is bs = ⊥

-- an outlet's anchor and the order that its bodies come to; none where they are on the same paths
abbrev pub IsOrder : Option (ℕ × List ℕ) → List Body → Option OutletState → Type 0
IsOrder r new None = r ≡ None
IsOrder None new (Some x) = are_alike x.bodies new ≡ true
IsOrder (Some r) new (Some x) = (r.0 ≡ x.anchor) × AreAt x.bodies r.1 new

-- the groups of an anchor stand in another order
abbrev pub Picks : ℕ → List ℕ → Dom → Dom → Type 0
Picks anchor order d e = Becomes d e (changed_in anchor (with_groups (picked order))) × Stays d e

abbrev pub PicksBy : Option (ℕ × List ℕ) → Dom → Dom → Type 0
PicksBy None d e = e ≡ d
PicksBy (Some r) d e = Picks r.0 r.1 d e

-- bodies are those of an outlet, on whose paths there are as many as before
abbrev pub Rearranges : List Body → List Body → Type 0
Rearranges new old = (q : List ℕ) → body_count q new ≡ body_count q old

abbrev pub IsRearranged : List Body → ℕ → List ℕ → Instances → Type 0
IsRearranged bs o holder is = (x : OutletState) → outlet_of_linked o (linked_at holder is) ≡ Some x → Rearranges bs x.bodies

-- Nodes that are taken away for good.
use Rattle.std.specs.Prelude.{ℕ, zero, suc, ◌≡◌, ◌==◌, ◌⊎◌, ◌++◌, Bool, true, false, List, [], ◌∷◌, filter, Option, Some, None, IsSome, if◌then◌else◌}
use Rattle.ng_dom.specs.Lists.{among, list_at, without_at}
use Rattle.ng_dom.specs.Nodes.{NamedNode, NamedForest, NamedGroups, named_text, named_comment, named_element, named_anchor, nothing_named, named_then, no_groups, group_then, name_of}
use Rattle.ng_dom.specs.Rooms.{Shape, Room, Rooms, text_shape, comment_shape, element_shape, anchor_shape, room_changed}

-- lists one after another
abbrev pub all_of : List (List ℕ) → List ℕ
all_of [] = []
all_of (ks ∷ kss) = ks ++ all_of kss

-- the names that a node holds: an element's children, or those of an anchor's groups
abbrev pub held : Shape → List ℕ
held (text_shape t) = []
held (comment_shape t) = []
held (element_shape e ats ks) = ks
held (anchor_shape gs) = all_of gs

abbrev pub groups_held : Shape → List (List ℕ)
groups_held (text_shape t) = []
groups_held (comment_shape t) = []
groups_held (element_shape e ats ks) = []
groups_held (anchor_shape gs) = gs

-- the groups of an anchor by name
abbrev pub groups_in : Option Room → List (List ℕ)
groups_in None = []
groups_in (Some x) = groups_held x.shape

abbrev pub is_parent : ℕ → Option ℕ → Bool
is_parent p None = false
is_parent p (Some m) = m == p

abbrev pub has_parent : ℕ → Option Room → Bool
has_parent p None = false
has_parent p (Some x) = is_parent p x.parent

-- a name has a room whose parent is p
abbrev pub is_under : Rooms → ℕ → ℕ → Bool
is_under r p q = has_parent p (r q)

-- those of some names that pass a test
abbrev pub one_if : Bool → ℕ → List ℕ
one_if true x = x ∷ []
one_if false x = []

abbrev pub chosen : (ℕ → Bool) → List ℕ → List ℕ
chosen p [] = []
chosen p (x ∷ xs) = one_if (p x) x ++ chosen p xs

abbrev pub chosen_groups : (ℕ → Bool) → List (List ℕ) → List ℕ
chosen_groups p [] = []
chosen_groups p (ks ∷ kss) = chosen p ks ++ chosen_groups p kss

abbrev pub chosen_held : (ℕ → Bool) → Shape → List ℕ
chosen_held p (text_shape t) = []
chosen_held p (comment_shape t) = []
chosen_held p (element_shape e ats ks) = chosen p ks
chosen_held p (anchor_shape gs) = chosen_groups p gs

-- a name has no room any more
abbrev pub room_gone : ℕ → Rooms → Rooms
room_gone n r q = if q == n then None else r q

-- a name's parent is gone
pub record HasGoneParent (r s : Rooms) (q : ℕ) : Type 0 where
  pub parent : ℕ
  pub under : is_under r parent q ≡ true
  pub gone : s parent ≡ None

-- a name is one of these, or its parent is gone
abbrev pub IsDoomed : List ℕ → Rooms → Rooms → ℕ → Type 0
IsDoomed names r s q = (among q names ≡ true) ⊎ HasGoneParent r s q

-- these names are taken away with all that they hold, and no others
pub record Takes (names : List ℕ) (r s : Rooms) : Type 0 where
  pub each : (q : ℕ) → (s q ≡ r q) ⊎ ((s q ≡ None) × IsDoomed names r s q)
  pub gone : (q : ℕ) → among q names ≡ true → s q ≡ None
  pub closed : (p q : ℕ) (x : Room) → r p ≡ Some x → s p ≡ None → among q (held x.shape) ≡ true → is_under r p q ≡ true → s q ≡ None

-- these names are being taken away: those that are left will be taken too
pub record Taking (names : List ℕ) (r s : Rooms) (left : List ℕ) : Type 0 where
  pub each : (q : ℕ) → (s q ≡ r q) ⊎ ((s q ≡ None) × IsDoomed names r s q)
  pub doomed : (q : ℕ) → among q left ≡ true → IsDoomed names r s q
  pub roots : (q : ℕ) → among q names ≡ true → (s q ≡ None) ⊎ (among q left ≡ true)
  pub closed : (p q : ℕ) (x : Room) → r p ≡ Some x → s p ≡ None → among q (held x.shape) ≡ true → is_under r p q ≡ true → (s q ≡ None) ⊎ (among q left ≡ true)

-- all names but this one
abbrev pub differs : ℕ → ℕ → Bool
differs n k = if k == n then false else true

abbrev pub all_but : ℕ → List ℕ → List ℕ
all_but n ks = filter (differs n) ks

abbrev pub each_but : ℕ → List (List ℕ) → List (List ℕ)
each_but n [] = []
each_but n (ks ∷ kss) = all_but n ks ∷ each_but n kss

-- a name is no child and in no group
abbrev pub shape_without : ℕ → Shape → Shape
shape_without n (text_shape u) = text_shape u
shape_without n (comment_shape u) = comment_shape u
shape_without n (element_shape e ats ks) = element_shape e ats (all_but n ks)
shape_without n (anchor_shape gs) = anchor_shape (each_but n gs)

-- a name is taken out where its parent holds it
abbrev pub room_without : Option ℕ → ℕ → Rooms → Rooms
room_without None n r = r
room_without (Some p) n r = room_changed p (shape_without n) r

abbrev pub top_without : Option ℕ → ℕ → List ℕ → List ℕ
top_without None n ks = all_but n ks
top_without (Some p) n ks = ks

-- a node is taken out wherever it stands, with all that it holds
abbrev mutual
  pub without_inside : ℕ → NamedNode → NamedNode
  without_inside n (named_text m t) = named_text m t
  without_inside n (named_comment m t) = named_comment m t
  without_inside n (named_element m e ats f) = named_element m e ats (without n f)
  without_inside n (named_anchor m gs) = named_anchor m (without_groups n gs)

  pub without : ℕ → NamedForest → NamedForest
  without n nothing_named = nothing_named
  without n (named_then x f) = if name_of x == n then without n f else named_then (without_inside n x) (without n f)

  pub without_groups : ℕ → NamedGroups → NamedGroups
  without_groups n no_groups = no_groups
  without_groups n (group_then f gs) = group_then (without n f) (without_groups n gs)

-- the i-th group holds nothing any more
abbrev pub group_emptied : ℕ → NamedGroups → NamedGroups
group_emptied i no_groups = no_groups
group_emptied zero (group_then g gs) = group_then nothing_named gs
group_emptied (suc i) (group_then g gs) = group_then g (group_emptied i gs)

-- none of these names stands in a forest
abbrev mutual
  pub SparesInside : List ℕ → NamedNode → Type 0
  SparesInside ns (named_text m t) = Unit {0}
  SparesInside ns (named_comment m t) = Unit {0}
  SparesInside ns (named_element m e ats f) = Spares ns f
  SparesInside ns (named_anchor m gs) = SparesGroups ns gs

  pub Spares : List ℕ → NamedForest → Type 0
  Spares ns nothing_named = Unit {0}
  Spares ns (named_then x f) = (among (name_of x) ns ≡ false) × SparesInside ns x × Spares ns f

  pub SparesGroups : List ℕ → NamedGroups → Type 0
  SparesGroups ns no_groups = Unit {0}
  SparesGroups ns (group_then f gs) = Spares ns f × SparesGroups ns gs

-- no node of a forest is live
abbrev mutual
  pub GoneInside : Rooms → NamedNode → Type 0
  GoneInside s (named_text m t) = Unit {0}
  GoneInside s (named_comment m t) = Unit {0}
  GoneInside s (named_element m e ats f) = AreGone s f
  GoneInside s (named_anchor m gs) = GoneGroups s gs

  pub AreGone : Rooms → NamedForest → Type 0
  AreGone s nothing_named = Unit {0}
  AreGone s (named_then x f) = (s (name_of x) ≡ None) × GoneInside s x × AreGone s f

  pub GoneGroups : Rooms → NamedGroups → Type 0
  GoneGroups s no_groups = Unit {0}
  GoneGroups s (group_then f gs) = AreGone s f × GoneGroups s gs

-- a parent is the top, or live
abbrev pub IsThere : Rooms → Option ℕ → Type 0
IsThere s None = Unit {0}
IsThere s (Some p) = IsSome (s p)

-- no name of the i-th list stands in another
abbrev pub IsApartFromOthers : ℕ → List (List ℕ) → Type 0
IsApartFromOthers i kss = (q : ℕ) → among q (list_at i kss) ≡ true → among q (all_of (without_at i kss)) ≡ false

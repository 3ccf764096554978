-- The document that a `Dom` keeps.
use Rattle.std.specs.Prelude.{ℕ, ◌≡◌, ◌⊎◌, ◌+◌, ◌==◌, nat_eq, List, Option, Some, None, true, IsSome, if◌then◌else◌}
use Rattle.std.specs.List.{IsDistinct}
use Rattle.ng_base.specs.declared.name.NodeId.{NodeId}
use Rattle.ng_dom.specs.Records.{live_in}
use Rattle.ng_dom.specs.Lists.{among}
use Rattle.ng_dom.specs.Nodes.{NamedNode, NamedForest, name_of, names_of, all_names, nothing_named, named_then}
use Rattle.ng_dom.specs.Walks.{read, read_all}
use Rattle.ng_dom.specs.Printed.{level, inner, counted_level, seek, found, IsRead}
use Rattle.ng_dom.specs.Paths.{StandsIn}
use Rattle.ng_dom.specs.Editing.{changed_in, with_kids, node_inserted, node_moved}
use Rattle.ng_dom.specs.Rooms.{Rooms, ReadsIn}
use Rattle.ng_dom.specs.Removal.{IsThere}
use Rattle.ng_dom.specs.Kept.{rooms_of, homes_of}
use Rattle.ng_dom.specs.Asked.{kids_in, is_element_room}
use Rattle.ng_dom.specs.declared.dom.Dom.{Dom}
use Rattle.ng_dom.specs.declared.record.Home.{Home}

-- what stands under each name
abbrev pub rooms : Dom → Rooms
rooms d = rooms_of d.nodes

-- what each node is drawn from
abbrev pub homes : Dom → ℕ → Option Home
homes d = homes_of d.nodes

-- the names of the nodes at the top
abbrev pub top : Dom → List ℕ
top d = d.top.items

-- the name of the next node
abbrev pub next_name : Dom → ℕ
next_name d = d.next

-- how many nodes are live
abbrev pub live_count : Dom → ℕ
live_count d = live_in d.nodes

-- a node of this name is live, or an element
abbrev pub IsLive : Dom → ℕ → Type 0
IsLive d n = IsSome (rooms d n)

abbrev pub IsElement : Dom → ℕ → Type 0
IsElement d n = is_element_room (rooms d n) ≡ true

-- a parent is the top or an element
abbrev pub IsParent : Dom → Option NodeId → Type 0
IsParent d None = Unit {0}
IsParent d (Some p) = IsElement d p.made.0

-- the whole document is this forest
abbrev pub Shows : Dom → NamedForest → Type 0
Shows d f = (top d ≡ names_of f) × ReadsIn (rooms d) None f

-- The whole document is this forest, each live node is one of its nodes, and no two of these have one name: so nothing stands apart.
pub record Holds (d : Dom) (f : NamedForest) : Type 0 where
  pub shows : Shows d f
  pub all : (q : ℕ) → IsLive d q → among q (all_names f) ≡ true
  pub once : IsDistinct nat_eq (all_names f)

-- whatever is read before, in the document or in a piece that is built apart, is read changed so afterwards
abbrev pub Becomes : Dom → Dom → (NamedForest → NamedForest) → Type 0
Becomes d e g = (p : Option ℕ) (f : NamedForest) → ReadsIn (rooms d) p f → ReadsIn (rooms e) p (g f)

-- whatever is read before is read afterwards
abbrev pub Remains : Dom → Dom → Type 0
Remains d e = (p : Option ℕ) (f : NamedForest) → ReadsIn (rooms d) p f → ReadsIn (rooms e) p f

-- a change within nodes: no node comes or goes, and each is drawn from what it was
pub record Stays (d e : Dom) : Type 0 where
  pub homes : (q : ℕ) → homes e q ≡ homes d q
  pub top : top e ≡ top d
  pub next : next_name e ≡ next_name d
  pub live : live_count e ≡ live_count d

-- nothing is changed
pub record Unchanged (d e : Dom) : Type 0 where
  pub rooms : (q : ℕ) → rooms e q ≡ rooms d q
  pub stays : Stays d e

-- one node more is live, drawn from this
pub record Gains (home : Home) (d e : Dom) : Type 0 where
  pub homes : (q : ℕ) → homes e q ≡ (if q == next_name d then Some home else homes d q)
  pub next : next_name e ≡ next_name d + 1
  pub live : live_count e ≡ live_count d + 1

-- a new node stands as the i-th child of a parent, or at the top, and all else is as it was
abbrev pub IsPlaced : Option NodeId → ℕ → NamedNode → Dom → Dom → Type 0
IsPlaced None i x d e = Remains d e × ((f : NamedForest) → Shows d f → Shows e (node_inserted i x f))
IsPlaced (Some p) i x d e = Becomes d e (changed_in p.made.0 (with_kids (node_inserted i x))) × (top e ≡ top d)

-- a new node is made for what a parent will hold and stands apart, and all else is as it was
abbrev pub IsApart : Option ℕ → NamedNode → Dom → Dom → Type 0
IsApart p x d e = Remains d e × ReadsIn (rooms e) p (named_then x nothing_named) × (top e ≡ top d)

abbrev pub IsMovedUnder : Option ℕ → ℕ → ℕ → Dom → Dom → Type 0
IsMovedUnder None i n d e = ((q : ℕ) → rooms e q ≡ rooms d q) × ((f : NamedForest) → Shows d f → Shows e (node_moved i n f))
IsMovedUnder (Some p) i n d e = Becomes d e (changed_in p (with_kids (node_moved i n))) × (top e ≡ top d)

-- a node is moved among the children of its parent, or at the top, and all else is as it was; one that isn't live isn't moved
abbrev pub IsMoved : Option (Option ℕ) → ℕ → ℕ → Dom → Dom → Type 0
IsMoved None i n d e = Unchanged d e
IsMoved (Some p) i n d e = IsMovedUnder p i n d e

-- no node comes or goes, and each is drawn from what it was
pub record Keeps (d e : Dom) : Type 0 where
  pub homes : (q : ℕ) → homes e q ≡ homes d q
  pub next : next_name e ≡ next_name d
  pub live : live_count e ≡ live_count d

-- nodes may be gone, and none comes: each of the others is drawn from what it was
pub record Fewer (d e : Dom) : Type 0 where
  pub homes : (q : ℕ) → (homes e q ≡ homes d q) ⊎ (rooms e q ≡ None)
  pub next : next_name e ≡ next_name d

-- no node comes or goes, and none is moved
pub record Undone (d e : Dom) : Type 0 where
  pub rooms : (q : ℕ) → rooms e q ≡ rooms d q
  pub top : top e ≡ top d
  pub live : live_count e ≡ live_count d

-- whatever is read before, in the document or below a node that is still live, is read changed so afterwards
abbrev pub Leaves : Dom → Dom → (NamedForest → NamedForest) → Type 0
Leaves d e g = (p : Option ℕ) (f : NamedForest) → ReadsIn (rooms d) p f → IsThere (rooms e) p → ReadsIn (rooms e) p (g f)

-- the names of the children of a node, or of the nodes at the top
abbrev pub names_under : Dom → Option ℕ → List ℕ
names_under d None = top d
names_under d (Some n) = kids_in (rooms d n)

-- the node of a number among those that are printed at the top or inside a node
abbrev pub child_in : Dom → Option ℕ → ℕ → Option ℕ
child_in d o i = found (seek None i (level (read_all (read (next_name d) (rooms d)) (names_under d o))))

-- so many nodes are printed at the top, or inside a node
abbrev pub Counts : Dom → Option NodeId → ℕ → Type 0
Counts d None k = (f : NamedForest) → Shows d f → k ≡ counted_level f
Counts d (Some p) k = (x : NamedNode) → name_of x ≡ p.made.0 → IsRead (rooms d) x → k ≡ counted_level (inner x)

-- a node of this name stands in the document
pub record Stands (d : Dom) (n : ℕ) : Type 0 where
  pub forest : NamedForest
  pub shows : Shows d forest
  pub inside : StandsIn n forest

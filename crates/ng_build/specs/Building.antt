-- Nodes that are built apart, for what stands of parts.
use Rattle.std.specs.Prelude.{ℕ, ◌≡◌, ◌+◌, ◌<◌, List, [], ◌∷◌, Option, None, Some, option_map}
use Rattle.ng_base.specs.declared.name.NodeId.{NodeId}
use Rattle.ng_base.specs.declared.path.Key.{Key}
use Rattle.ng_dom.specs.Document.{rooms, homes, top, next_name, live_count, IsLive, Shows, Becomes, Remains, Stays, Keeps}
use Rattle.ng_build.specs.Sources.{sources}
pub use Rattle.ng_dom.specs.Drawing.{Homed, HomedAll}
use Rattle.ng_dom.specs.Drawing.{Look, Stands, shows}
use Rattle.ng_dom.specs.Editing.{changed_in, with_groups, group_inserted}
use Rattle.ng_dom.specs.Nodes.{NamedNode, named_then, nothing_named, NamedForest}
use Rattle.ng_dom.specs.Rooms.{Rooms, ReadsIn}
use Rattle.ng_dom.specs.declared.dom.Dom.{Dom}

-- nothing is kept yet
abbrev pub unset : Key → Look
unset k = record { text = []; words = []; truth = None }

abbrev pub parent_name : Option NodeId → Option ℕ
parent_name p = option_map (λ n. n.made.0) p

-- the top, or a live node
abbrev pub IsThere : Dom → Option NodeId → Type 0
IsThere d None = Unit {0}
IsThere d (Some p) = IsLive d p.made.0

-- a node is made apart for a parent or the top
pub record IsMade (p : Option ℕ) (x : NamedNode) (d e : Dom) : Type 0 where
  pub remains : Remains d e
  pub reads : ReadsIn (rooms e) p (named_then x nothing_named)
  pub top : top e ≡ top d

-- What was read in a table in which a name was free is read as before. So calls on a new node spare what is older.
abbrev pub Spares : ℕ → Dom → Dom → Type 0
Spares n d e = (r : Rooms) → r n ≡ None → (p : Option ℕ) (f : NamedForest) → ReadsIn r p f → ReadsIn (rooms d) p f → ReadsIn (rooms e) p f

-- what stands is built apart for a parent or the top, in so many nodes of the next names
pub record Builds (p : Option ℕ) (ts : Stands) (count : ℕ) (d e : Dom) : Type 0 where
  pub remains : Remains d e
  pub reads : ReadsIn (rooms e) p (shows unset ts)
  pub homed : HomedAll (sources e) ts
  pub homes : (q : ℕ) → q < next_name d → homes e q ≡ homes d q
  pub next : next_name e ≡ next_name d + count
  pub live : live_count e ≡ live_count d + count
  pub top : top e ≡ top d

-- names of nodes stand at keys that rise from a number on
abbrev pub AllAt : (Key → Option ℕ) → (ℕ → Key) → ℕ → List ℕ → Type 0
AllAt site keys n [] = Unit {0}
AllAt site keys n (x ∷ xs) = (site (keys n) ≡ Some x) × AllAt site keys (n + 1) xs

-- what was built apart becomes the whole document, or a group of an anchor before the i-th
abbrev pub IsPut : Option ℕ → ℕ → Stands → Dom → Dom → Type 0
IsPut None i ts d e = Shows e (shows unset ts) × Keeps d e
IsPut (Some a) i ts d e = Becomes d e (changed_in a (with_groups (group_inserted i (shows unset ts)))) × Stays d e

-- what stands is built apart for a parent or the top, in so many nodes of the next names, and put there
pub record IsStood (p : Option ℕ) (i : ℕ) (ts : Stands) (count : ℕ) (d e : Dom) : Type 0 where
  pub apart : Dom
  pub builds : Builds p ts count d apart
  pub put : IsPut p i ts apart e

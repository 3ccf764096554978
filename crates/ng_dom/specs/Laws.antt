-- The laws of the drawing: an edit of one node is a change at one place of what stands.
use Rattle.std.specs.Prelude.{ℕ, ◌≡◌, ◌<◌, ◌+◌, true, nat_eq, List, [], ◌++◌, length, Option, Some, None, is_some, IsSome, option_map}
use Rattle.std.specs.List.{IsDistinct}
use Rattle.ng_base.specs.declared.path.Key.{Key}
use Rattle.ng_markup.specs.Forest.{Attributes, Forest, element, text, comment, no_nodes, node}
use Rattle.ng_dom.specs.Nodes.{NamedNode, NamedForest, NamedGroups, name_of, names_of, all_names, group_names, plain}
use Rattle.ng_dom.specs.Editing.{changed_in, with_text, with_groups, with_attributes, group_inserted, group_removed}
use Rattle.ng_dom.specs.Rooms.{Rooms, Room, ReadsIn, anchor_shape}
use Rattle.ng_dom.specs.Lists.{among, list_at}
use Rattle.ng_dom.specs.Removal.{groups_in, group_emptied, Spares, AreGone, IsApartFromOthers}
use Rattle.ng_dom.specs.Asked.{first_with_id}
use Rattle.ng_dom.specs.Printed.{at_place, plain_at, plain_node_of}
use Rattle.ng_dom.specs.Paths.{StandsIn}
use Rattle.ng_dom.specs.Document.{rooms, homes, next_name, IsLive, Shows, Holds, Fewer}
use Rattle.ng_dom.specs.Drawing.{Look, Stands, Bodies, Source, DrawnAttributes, of_text, of_comment, of_element, names_standing, HomedAll, HomedBodies, HeldAll, DifferAt, joined, drawn_attributes, shows, show_bodies, at_block_all}
use Rattle.ng_dom.specs.declared.dom.Dom.{Dom}
use Rattle.ng_dom.specs.declared.record.Home.{Home}
use Rattle.ng_dom.specs.declared.record.Piece.{Piece}

-- a table has one forest under these names
abbrev pub OneReading : Type 0
OneReading = (r : Rooms) (p : Option ℕ) (f g : NamedForest) → ReadsIn r p f → ReadsIn r p g → names_of f ≡ names_of g → f ≡ g

-- a key shows something else: to write the text of its node is to draw what stands anew
abbrev pub TextWritten : Type 0
TextWritten =
    (site : Key → Option ℕ) (home : ℕ → Option Source) (k : Key) (n : ℕ) (ps : List Piece) (v w : Key → Look) (ms : Stands)
    → site k ≡ Some n → home n ≡ Some (of_text ps) → HeldAll site home ms → DifferAt k v w
    → changed_in n (with_text (joined w ps)) (shows v ms) ≡ shows w ms

-- a block has other bodies: to change the groups of its anchor, which have these names, is to draw what stands then
abbrev pub GroupsChanged : Type 0
GroupsChanged =
    (r : Rooms) (p : Option ℕ) (a : ℕ) (x : Room) (gs : List (List ℕ)) (v : Key → Look) (ms : Stands) (f : NamedGroups → NamedGroups) (h : Bodies → Bodies)
    → ReadsIn r p (shows v ms) → r a ≡ Some x → x.shape ≡ anchor_shape gs
    → ((bs : Bodies) → group_names (show_bodies v bs) ≡ gs → f (show_bodies v bs) ≡ show_bodies v (h bs))
    → changed_in a (with_groups f) (shows v ms) ≡ shows v (at_block_all a h ms)

-- a key shows something else: to draw the attributes of its element anew is to draw what stands anew
abbrev pub AttributesWritten : Type 0
AttributesWritten =
    (site : Key → Option ℕ) (home : ℕ → Option Source) (k : Key) (n : ℕ) (ats : DrawnAttributes) (v w : Key → Look) (ms : Stands)
    → site k ≡ Some n → home n ≡ Some (of_element ats) → HeldAll site home ms → DifferAt k v w
    → changed_in n (with_attributes (λ _. drawn_attributes w ats)) (shows v ms) ≡ shows w ms

-- a key that is drawn nowhere, as it is known for an anchor, shows something else: what stands shows the same nodes
abbrev pub NothingWritten : Type 0
NothingWritten =
    (site : Key → Option ℕ) (home : ℕ → Option Source) (k : Key) (n : ℕ) (v w : Key → Look) (ms : Stands)
    → site k ≡ Some n → home n ≡ Some of_comment → HeldAll site home ms → DifferAt k v w
    → shows v ms ≡ shows w ms

-- a node is live where it is known what it is drawn from
abbrev pub LiveNodesHaveHomes : Type 0
LiveNodesHaveHomes = (d : Dom) (n : ℕ) → is_some (homes d n) ≡ is_some (rooms d n)

-- the name of a live node was given
abbrev pub LiveNamesAreGiven : Type 0
LiveNamesAreGiven = (d : Dom) (n : ℕ) → IsLive d n → n < next_name d

-- nodes may be gone, and none comes: what is live was live
abbrev pub FewerAreLive : Type 0
FewerAreLive = (d e : Dom) (n : ℕ) → Fewer d e → IsLive e n → IsLive d n

-- nodes may be gone: what still stands is drawn from what it was
abbrev pub HomesStay : Type 0
HomesStay =
    (d e : Dom) (source : Home → Source) (p : Option ℕ) (v : Key → Look) (ms : Stands)
    → Fewer d e → ReadsIn (rooms e) p (shows v ms)
    → HomedAll (λ n. option_map source (homes d n)) ms → HomedAll (λ n. option_map source (homes e n)) ms

-- a block has other bodies, whose nodes are drawn from what stands too: so is all that stands then
abbrev pub BodiesAreHomed : Type 0
BodiesAreHomed =
    (home : ℕ → Option Source) (a : ℕ) (h : Bodies → Bodies) (ms : Stands)
    → ((bs : Bodies) → HomedBodies home bs → HomedBodies home (h bs))
    → HomedAll home ms → HomedAll home (at_block_all a h ms)

-- what stands has the same names whatever keys show
abbrev pub NamesStand : Type 0
NamesStand = (v : Key → Look) (ms : Stands) → all_names (shows v ms) ≡ names_standing ms

-- a count of the elements, texts and comments of a document
pub record CountsNodes (count : Forest → ℕ) : Type 0 where
  pub none : count no_nodes ≡ 0
  pub text : (t : List ℕ) (f : Forest) → count (node (text t) f) ≡ 1 + count f
  pub comment : (t : List ℕ) (f : Forest) → count (node (comment t) f) ≡ 1 + count f
  pub element : (e : List ℕ) (ats : Attributes) (g f : Forest) → count (node (element e ats g) f) ≡ 1 + count g + count f

-- a document has as many nodes without names as it has names
abbrev pub NamesAreCounted : Type 0
NamesAreCounted = (count : Forest → ℕ) (f : NamedForest) → CountsNodes count → count (plain f) ≡ length (all_names f)

-- what is read is live, with all that it holds
abbrev pub NamesAreLive : Type 0
NamesAreLive = (r : Rooms) (p : Option ℕ) (f : NamedForest) (n : ℕ) → ReadsIn r p f → among n (all_names f) ≡ true → IsSome (r n)

-- no name of what is gone is live
abbrev pub NamesAreGone : Type 0
NamesAreGone = (s : Rooms) (f : NamedForest) (n : ℕ) → AreGone s f → among n (all_names f) ≡ true → s n ≡ None

-- where all names differ, no group of an anchor has a name of another
abbrev pub GroupsStandApart : Type 0
GroupsStandApart =
    (r : Rooms) (p : Option ℕ) (f : NamedForest) (a i : ℕ)
    → ReadsIn r p f → IsDistinct nat_eq (all_names f) → among a (all_names f) ≡ true → IsApartFromOthers i (groups_in (r a))

-- The document is told anew, with the names that it had, and no node comes: nothing stands apart.
abbrev pub HoldsSame : Type 0
HoldsSame = (d e : Dom) (f g : NamedForest) → Holds d f → Fewer d e → all_names g ≡ all_names f → Shows e g → Holds e g

-- the nodes of an anchor's i-th group are gone: nothing stands apart
abbrev pub HoldsEmptied : Type 0
HoldsEmptied =
    (d e : Dom) (a i : ℕ) (f piece : NamedForest)
    → Holds d f → Fewer d e → names_of piece ≡ list_at i (groups_in (rooms d a)) → ReadsIn (rooms d) (Some a) piece → AreGone (rooms e) piece
    → Shows e (changed_in a (with_groups (group_emptied i)) f) → Holds e (changed_in a (with_groups (group_emptied i)) f)

-- an empty group is taken out: nothing stands apart
abbrev pub HoldsCut : Type 0
HoldsCut =
    (d e : Dom) (a i : ℕ) (f : NamedForest)
    → Holds d f → Fewer d e → list_at i (groups_in (rooms d a)) ≡ []
    → Shows e (changed_in a (with_groups (group_removed i)) f) → Holds e (changed_in a (with_groups (group_removed i)) f)

-- all that stands apart is a piece, whose names are others than those of the document, and it becomes a group of an anchor: nothing
-- stands apart any more
abbrev pub HoldsInserted : Type 0
HoldsInserted =
    (d e : Dom) (a i : ℕ) (x : Room) (gs : List (List ℕ)) (f piece : NamedForest)
    → Shows d f → rooms d a ≡ Some x → x.shape ≡ anchor_shape gs → among a (all_names f) ≡ true
    → ((n : ℕ) → IsLive d n → among n (all_names f ++ all_names piece) ≡ true) → IsDistinct nat_eq (all_names f ++ all_names piece)
    → Fewer d e → Shows e (changed_in a (with_groups (group_inserted i piece)) f) → Holds e (changed_in a (with_groups (group_inserted i piece)) f)

-- what was read before a name was given isn't changed by a change of the node of that name
abbrev pub NewNamesStandApart : Type 0
NewNamesStandApart = (r : Rooms) (p : Option ℕ) (f : NamedForest) (k : ℕ) (g : NamedNode → NamedNode) → ReadsIn r p f → r k ≡ None → changed_in k g f ≡ f

-- what was read before some names were given holds none of them
abbrev pub NewNamesAreSpared : Type 0
NewNamesAreSpared = (r : Rooms) (p : Option ℕ) (f : NamedForest) (names : List ℕ) → ReadsIn r p f → ((q : ℕ) → among q names ≡ true → r q ≡ None) → Spares names f

-- the node at a path is printed there
abbrev pub PlacesArePrinted : Type 0
PlacesArePrinted = (p : List ℕ) (f : NamedForest) → plain_at p (plain f) ≡ option_map plain_node_of (at_place p f)

-- a node that is printed at a path stands there
abbrev pub PlacesStand : Type 0
PlacesStand = (p : List ℕ) (f : NamedForest) (n : ℕ) → option_map name_of (at_place p f) ≡ Some n → StandsIn n f

-- an element that is found by its id stands there
abbrev pub FoundStand : Type 0
FoundStand = (id : List ℕ) (f : NamedForest) (n : ℕ) → first_with_id id f ≡ Some n → StandsIn n f

-- What is proved of what stands.
use Rattle.std.specs.Prelude.{ℕ, ◌≡◌, ◌≤◌, List, Option, Some, length, slice_get}
use Rattle.std.specs.List.Sorted.{IsStrictlySortedBy}
use Rattle.std.specs.Map.{keys_of as map_keys}
use Rattle.ng_core.specs.declared.core_state.Core.{Core}
use Rattle.ng_base.specs.Order.{path_cmp}
use Rattle.ng_base.specs.declared.path.Key.{Key}
use Rattle.ng_dom.specs.Document.{Shows}
use Rattle.ng_dom.specs.Drawing.{Stands, Bodies, shows, show_bodies, at_block_all}
use Rattle.ng_dom.specs.Nodes.{plain, plain_groups}
use Rattle.ng_drawing.specs.Drawing.{draw}
use Rattle.ng_drawing.specs.Looks.{Seen}
use Rattle.ng_drawing.specs.Template.{Parts}
use Rattle.ng_watch.specs.Table.{Table, AllStand}
use Rattle.ng_link.specs.Events.{named}
use Rattle.ng_instances.specs.Instances.{OutletState, Linked, Instances, linked_at, read_bodies, groups_from, stands_at, outlets_changed}
use Rattle.ng_build.specs.Shape.{shape, anchors}
use Rattle.ng_link.specs.State.{look_of, state_of, shown}
use Rattle.ng_link.specs.Standing.{AreIn, ArePlaced, AreApart, WatchersStand, Standing, Displays}
use Rattle.ng_link.specs.declared.works.Works.{Works}

-- what stands of parts is drawn as the parts are, whatever is seen of their sites and whatever fills their outlets
abbrev pub ShapeDrawsParts : Type 0
ShapeDrawsParts =
    (keys : ℕ → Key) (v : Key → Seen) (n : ℕ) (groups : ℕ → Bodies) (ps : Parts)
    → plain (shows (λ k. look_of (v k)) (shape keys n groups ps)) ≡ draw (λ k. v (keys k)) (λ o. plain_groups (show_bodies (λ k. look_of (v k)) (groups o))) ps

-- The bodies of an outlet change, and with them what stands at its anchor: one law for each kind of block.
abbrev pub BodiesChanged : Type 0
BodiesChanged =
    (places : Key → Option ℕ) (next : ℕ) (is : Instances) (p : List ℕ) (l : Linked) (o a : ℕ) (f : List OutletState → List OutletState) (h : Bodies → Bodies)
    → IsStrictlySortedBy path_cmp (map_keys is) → ArePlaced places next is → AreApart is
    → linked_at p is ≡ Some l → slice_get (anchors l.page.node l.fragment.parts) o ≡ Some a → AreIn p (f l.page.outlets)
    → (groups_from (read_bodies (stands_at is) (f l.page.outlets)) o ≡ h (groups_from (read_bodies (stands_at is) l.page.outlets) o))
    × ((x : ℕ) → (x ≡ o → ⊥) → groups_from (read_bodies (stands_at is) (f l.page.outlets)) x ≡ groups_from (read_bodies (stands_at is) l.page.outlets) x)
    → (q : List ℕ) → stands_at (outlets_changed p f is) q ≡ at_block_all a h (stands_at is q)

-- a page that stands displays the drawing of its template with what its instance has kept, and nothing where none is linked
abbrev pub PageDisplaysInstance : Type 0
PageDisplaysInstance = (w : Works) (ts : Stands) → Standing w ts → Displays w (shown (state_of w))

-- the document of a page that stands has the names that its instance says
abbrev pub PageHasItsNames : Type 0
PageHasItsNames = (w : Works) (ts : Stands) → Standing w ts → Shows w.dom (named (state_of w))

-- What stands asks of the core only that no number of registration is given anew, and that no object is lost.
abbrev pub StandingWithCore : Type 0
StandingWithCore = (w : Works) (core : Core) → (state_of w).core.serial ≤ core.serial.0 → length (state_of w).core.objects ≤ length core.store
    → (ts : Stands) → Standing w ts → Standing (record w { core = core }) ts

-- the objects that a watcher names are there, under whatever key it is found
abbrev pub WatchersAreFound : Type 0
WatchersAreFound = (count : ℕ) (t : Table) → WatchersStand count t → AllStand count t

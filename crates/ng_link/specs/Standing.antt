-- When works stand for what stands of a template.
use Rattle.std.specs.Prelude.{ℕ, ◌≡◌, ◌+◌, ◌<◌, ◌≤◌, ◌⊎◌, true, List, [], ◌∷◌, ◌++◌, map, length, Option, Some, IsSome, slice_get, slice_index_or, if◌then◌else◌}
use Rattle.std.specs.List.{AllByRecursion, list_any}
use Rattle.std.specs.List.Sorted.{IsStrictlySortedBy}
use Rattle.std.specs.Map.{lookup, keys_of as map_keys}
use Rattle.std.specs.Ordering.{nat_cmp}
use Rattle.ng_base.specs.Order.{path_cmp}
use Rattle.ng_base.specs.declared.path.Key.{Key}
use Rattle.ng_dom.specs.Document.{next_name, Shows, Holds}
use Rattle.ng_dom.specs.Drawing.{Look, Stands, shows}
use Rattle.ng_dom.specs.Nodes.{NamedForest, plain}
use Rattle.ng_dom.specs.declared.dom.Dom.{Dom}
use Rattle.ng_drawing.specs.Nodes.{nodes}
use Rattle.ng_markup.specs.Forest.{Forest}
use Rattle.ng_drawing.specs.Template.{Parts}
use Rattle.ng_drawing.specs.Numbering.{after_parts, is_apart, after_outlets}
use Rattle.ng_behaviour.specs.Keys.{begins}
use Rattle.ng_watch.specs.Seen.{WatchStands}
use Rattle.ng_watch.specs.Table.{Table}
use Rattle.ng_instances.specs.Bindings.{is_unbound}
use Rattle.ng_build.specs.Building.{HomedAll, AllAt}
use Rattle.ng_instances.specs.Instances.{Body, OutletState, Inner, Linked, Instances, Inners, keys_of, is_path, linked_at, instance_path, stands_at}
use Rattle.ng_instances.specs.Registering.{mark_at, mark_in}
use Rattle.ng_build.specs.Shape.{holes, anchors}
use Rattle.ng_link.specs.Showing.{parts_show}
use Rattle.ng_build.specs.Sources.{sources}
use Rattle.ng_link.specs.State.{State, state_of, places_of, looks_in}
use Rattle.ng_link.specs.declared.works.Works.{Works}

-- a path begins with another, and is longer
abbrev pub IsBelow : List ℕ → List ℕ → Type 0
IsBelow p q = (between : List ℕ) × ((n : ℕ) × (q ≡ p ++ (between ++ n ∷ [])))

-- so does that of a body with that of the instance it is in
abbrev pub IsIn : List ℕ → Body → Type 0
IsIn p b = IsBelow p b.path

abbrev pub AreIn : List ℕ → List OutletState → Type 0
AreIn p os = AllByRecursion (λ (o : OutletState). AllByRecursion (IsIn p) o.bodies) os

-- nothing of a fragment is drawn from the site that fills an outlet
abbrev pub IsUndrawn : List ℕ → Parts → OutletState → Type 0
IsUndrawn serials ps x = (n : ℕ) × ((n < length serials) × ((slice_index_or serials n 0 ≡ x.serial) × (parts_show (is_apart n 0 (length serials)) ps ≡ true)))

abbrev pub AreUndrawn : List ℕ → Parts → List OutletState → Type 0
AreUndrawn serials ps os = AllByRecursion (IsUndrawn serials ps) os

-- how many bodies are on a path
abbrev pub body_count : List ℕ → List Body → ℕ
body_count p [] = 0
body_count p (b ∷ bs) = (if is_path p b.path then 1 else 0) + body_count p bs

abbrev pub held_count : List ℕ → List OutletState → ℕ
held_count p [] = 0
held_count p (o ∷ os) = body_count p o.bodies + held_count p os

-- What holds of an instance that stands on a path, where its sites are known to be drawn in nodes: its sites and outlets are numbered in document
-- order, the numbers of registration of its sites rise, each site is drawn in its node and noted with its scopes, each outlet has its anchor, nothing is
-- drawn from its site or from one of a binding, and no path is that of two bodies.
pub record IsPlaced (places : Key → Option ℕ) (next : ℕ) (p : List ℕ) (l : Linked) : Type 0 where
  pub path : l.page.path ≡ p
  pub numbered : after_parts 0 l.fragment.parts ≡ Some (length l.fragment.sites)
  pub outlets : after_outlets 0 l.fragment.parts ≡ Some (length l.fragment.outlets)
  pub count : length l.page.serials ≡ length l.fragment.sites
  pub rising : IsStrictlySortedBy nat_cmp l.page.serials
  pub sites : AllAt places (keys_of l.page) 0 (holes l.page.node l.fragment.parts)
  pub anchors : map (λ (o : OutletState). o.anchor) l.page.outlets ≡ anchors l.page.node l.fragment.parts
  pub marked : (i n : ℕ) → slice_get l.page.serials i ≡ Some n → mark_in l.page.marks n ≡ mark_at l.fragment i
  pub undrawn : AreUndrawn l.page.serials l.fragment.parts l.page.outlets
  pub unbound : parts_show (is_unbound l.page.serials l.page.bounds) l.fragment.parts ≡ true
  pub bodies : AreIn p l.page.outlets
  pub once : (q : List ℕ) → held_count q l.page.outlets ≤ 1
  pub end : l.page.node + nodes l.fragment.parts ≤ next

abbrev pub ArePlaced : (Key → Option ℕ) → ℕ → Instances → Type 0
ArePlaced places next is = AllByRecursion (λ (e : List ℕ × Linked). IsPlaced places next e.0 e.1) is

-- two instances have no node in common
abbrev pub Apart : Linked → Linked → Type 0
Apart l m = (l.page.node + nodes l.fragment.parts ≤ m.page.node) ⊎ (m.page.node + nodes m.fragment.parts ≤ l.page.node)

abbrev pub AreApart : Instances → Type 0
AreApart [] = Unit {0}
AreApart (e ∷ es) = AllByRecursion (λ (x : List ℕ × Linked). Apart e.1 x.1) es × AreApart es

-- an instance holds a body on a path
abbrev pub IsHeldIn : List ℕ → List ℕ → Instances → Type 0
IsHeldIn holder p is = (l : Linked) × (linked_at holder is ≡ Some l) × (0 < held_count p l.page.outlets)

-- Each body that an instance holds is linked, and each instance but the page's is a body that another holds. No instance stands between the two: one
-- with whose path that of a body begins is the body, or stands round the holder.
pub record AreHeld (is : Instances) : Type 0 where
  pub linked : (holder p : List ℕ) → IsHeldIn holder p is → IsSome (linked_at p is)
  pub held : (p : List ℕ) → IsSome (linked_at p is) → (p ≡ []) ⊎ ((holder : List ℕ) × IsHeldIn holder p is)
  pub nearest : (holder p q : List ℕ) → IsHeldIn holder p is → IsSome (linked_at q is) → begins q p ≡ true → (q ≡ p) ⊎ (begins q holder ≡ true)

-- What stands of instances is built: the document shows it and has no other node, for each node it is known what it is drawn from, and for
-- each site in which node it is drawn.
pub record IsBuilt (places : Key → Option ℕ) (looks : Key → Look) (d : Dom) (is : Instances) (ts : Stands) : Type 0 where
  pub holds : Holds d (shows looks ts)
  pub stands : ts ≡ stands_at is []
  pub homed : HomedAll (sources d) ts
  pub ordered : IsStrictlySortedBy path_cmp (map_keys is)
  pub each : ArePlaced places (next_name d) is
  pub apart : AreApart is
  pub bodies : AreHeld is

-- an inner scope leads to the instance that has it; its path begins with that of the instance, and is longer
pub record LeadsTo (is : Instances) (inner path : List ℕ) : Type 0 where
  pub there : (l : Linked) × ((linked_at path is ≡ Some l) × (list_any (λ (i : Inner). is_path inner i.path) l.page.inner ≡ true))
  pub below : IsBelow path inner

-- Each inner scope leads to its instance, and each that an instance has does. None of them is the scope of an instance, and no instance stands between.
pub record AreInner (inner : Inners) (is : Instances) : Type 0 where
  pub ordered : IsStrictlySortedBy path_cmp (map_keys inner)
  pub leads : (q path : List ℕ) → lookup (is_path q) inner ≡ Some path → LeadsTo is q path
  pub noted : (path : List ℕ) (l : Linked) → linked_at path is ≡ Some l → AllByRecursion (λ (i : Inner). instance_path inner i.path ≡ path) l.page.inner
  pub apart : (path : List ℕ) → IsSome (linked_at path is) → instance_path inner path ≡ path
  pub nearest : (q path : List ℕ) → IsSome (linked_at path is) → begins path q ≡ true → begins path (instance_path inner q) ≡ true

-- the objects that watchers name are among so many
abbrev pub WatchersStand : ℕ → Table → Type 0
WatchersStand count t = AllByRecursion (λ e. WatchStands count e.1.watch) t

-- What is linked is built, and its inner scopes are known. The numbers of sites are below the next number of registration, and the objects that watchers name are there.
pub record Standing (w : Works) (ts : Stands) : Type 0 where
  pub built : IsBuilt (places_of w) (looks_in (state_of w)) w.dom (state_of w).instances ts
  pub inner : AreInner (state_of w).inner (state_of w).instances
  pub below : (k : Key) → IsSome (places_of w k) → k.serial.0 < (state_of w).core.serial
  pub watched : WatchersStand (length (state_of w).core.objects) (state_of w).watchers

-- works stand for what stands of some template
abbrev pub IsStanding : Works → Type 0
IsStanding w = (ts : Stands) × Standing w ts

-- the document without names is this one
pub record Displays (w : Works) (f : Forest) : Type 0 where
  pub forest : NamedForest
  pub shown : Shows w.dom forest
  pub plain : plain forest ≡ f

-- an instance holds a body on this path
abbrev pub IsHeld : List ℕ → List ℕ → State → Type 0
IsHeld holder p s = IsHeldIn holder p s.instances

-- When no watcher of a page is dirty; how the sites of what is linked are watched; and when blocks have the bodies that they call for.
use Rattle.std.specs.Prelude.{ℕ, ◌≡◌, ◌<◌, ◌≤◌, Bool, true, false, List, [], ◌∷◌, ◌++◌, length, Option, Some, None, Ok, slice_index_or, if◌then◌else◌}
use Rattle.std.specs.BTreeMap.{is_at}
use Rattle.std.specs.List.{AllByRecursion, list_any}
use Rattle.std.specs.List.Sorted.{IsStrictlySortedBy}
use Rattle.std.specs.Map.{keys_of as map_keys}
use Rattle.std.specs.Ordering.{nat_cmp}
use Rattle.ng_core.specs.State as act
use Rattle.ng_base.specs.Order.{path_cmp}
use Rattle.ng_base.specs.declared.path.Key.{Key}
use Rattle.ng_base.specs.Views.{ViewTree}
use Rattle.ng_behaviour.specs.Scopes.{Scope, path_at, object_at, children_at, IsScopeTree}
use Rattle.ng_drawing.specs.Cases.{Case, case_in}
use Rattle.ng_drawing.specs.Rows.{is_filled}
use Rattle.ng_drawing.specs.Template as template
use Rattle.ng_drawing.specs.Template.{Outlet}
use Rattle.ng_instances.specs.Bindings.{Bound, Bounds, BoundStands, bound_in_table}
use Rattle.ng_instances.specs.Instances.{Body, OutletState, Inner, Page, Linked, Instances, linked_at, key_in, scope_number, is_site_of, is_site}
use Rattle.ng_instances.specs.Registering.{mark_in, way_of}
use Rattle.ng_instances.specs.Rows.{watching_site}
use Rattle.ng_link.specs.Standing.{held_count}
use Rattle.ng_link.specs.State.{State, roles_in}
use Rattle.ng_drawing.specs.Named.{Named}
use Rattle.ng_drawing.specs.Numbering.{is_regular}
use Rattle.ng_behaviour.specs.Keys.{key_cmp, is_key}
use Rattle.ng_watch.specs.Seen.{Watching, Watcher}
use Rattle.ng_watch.specs.Table.{Table, found}
use Rattle.ng_watch.specs.Verdicts.{clean, verdict}

-- No watcher is dirty, and none meets a fault: each has kept what is there now.
abbrev pub IsSettled : State → Type 0
IsSettled s = (k : Key) (w : Watcher) → found k s.watchers ≡ Some w → verdict s.core.objects w ≡ Ok clean

-- what is found under this key watches this
abbrev pub WatchesAt : Key → Watching → Table → Type 0
WatchesAt k v t = (w : Watcher) → found k t ≡ Some w → w.watch ≡ v

-- the keys of the sites of an instance, by their numbers of registration
abbrev pub site_keys : Page → ℕ → Key
site_keys p = λ n. key_in p n

-- A site of an instance, by its number of registration: watched over the object of a scope, and against a name of an isolate scope where it is that
-- of a two-way binding
abbrev pub watching_at : List Scope → Page → ℕ → template.Site → Watching
watching_at scopes p = λ n x. watching_site (object_at scopes (scope_number p (mark_in p.marks n).over)) (way_of scopes (bound_in_table n p.bounds)) x

-- The sites of these numbers that have watchers are watched so, each under its key, as far as the keys lead to sites.
abbrev pub AreWatched : (Key → Bool) → Table → (ℕ → Key) → (ℕ → template.Site → Watching) → List ℕ → List template.Site → Type 0
AreWatched leads t keys watching ns [] = Unit {0}
AreWatched leads t keys watching [] (x ∷ xs) = ⊥
AreWatched leads t keys watching (n ∷ ns) (x ∷ xs) = (leads (keys n) ≡ true → WatchesAt (keys n) (watching n x) t) × AreWatched leads t keys watching ns xs

-- an outlet that stands is one of a fragment: it has the number of registration of its site, and is filled as the fragment says
abbrev pub IsOutlet : List ℕ → Outlet → OutletState → Type 0
IsOutlet serials o x = (x.serial ≡ slice_index_or serials o.site 0) × (x.filling ≡ o.filling)

abbrev pub AreOutlets : List ℕ → List Outlet → List OutletState → Type 0
AreOutlets serials [] [] = Unit {0}
AreOutlets serials [] (x ∷ xs) = ⊥
AreOutlets serials (o ∷ os) [] = ⊥
AreOutlets serials (o ∷ os) (x ∷ xs) = IsOutlet serials o x × AreOutlets serials os xs

-- a scope that an instance has beside its own, with its path
abbrev pub IsInner : List Scope → Inner → Type 0
IsInner scopes i = (i.scope < length scopes) × (path_at scopes i.scope ≡ i.path)

-- a body has the path of a child of a scope
abbrev pub IsChild : List Scope → ℕ → Body → Type 0
IsChild scopes scope b = (n : ℕ) × (n < length (children_at scopes scope)) × (b.path ≡ path_at scopes scope ++ n ∷ [])

-- The scope round an outlet is there, and those outside what the slots in it are given; its bodies are on paths of children of that, and its site is no
-- binding's.
pub record IsRound (scopes : List Scope) (bounds : Bounds) (x : OutletState) : Type 0 where
  pub scope : x.scope < length scopes
  pub outsides : AllByRecursion (λ (n : ℕ). n < length scopes) x.outsides
  pub bodies : AllByRecursion (IsChild scopes x.scope) x.bodies
  pub unbound : bound_in_table x.serial bounds ≡ None

-- An instance stands on a path, which is that of its scope, and its sites are watched over the objects of its scopes. No two bodies of it are on one
-- path.
pub record IsLinked (c : act.State) (leads : Key → Bool) (t : Table) (p : List ℕ) (l : Linked) : Type 0 where
  pub path : l.page.path ≡ p
  pub scope : path_at c.scopes l.page.scope ≡ p
  pub there : l.page.scope < length c.scopes
  pub inner : AllByRecursion (IsInner c.scopes) l.page.inner
  pub bounds : AllByRecursion (λ (e : ℕ × Bound). BoundStands (length c.scopes) e.1) l.page.bounds
  pub count : length l.page.serials ≡ length l.fragment.sites
  pub below : AllByRecursion (λ (n : ℕ). n < c.serial) l.page.serials
  pub rising : IsStrictlySortedBy nat_cmp l.page.serials
  pub sites : AllByRecursion (λ (o : Outlet). o.site < length l.page.serials) l.fragment.outlets
  pub watched : AreWatched leads t (site_keys l.page) (watching_at c.scopes l.page) l.page.serials l.fragment.sites
  pub outlets : AreOutlets l.page.serials l.fragment.outlets l.page.outlets
  pub rounds : AllByRecursion (IsRound c.scopes l.page.bounds) l.page.outlets
  pub once : (q : List ℕ) → held_count q l.page.outlets ≤ 1

-- whether a key leads to a site of what is linked
abbrev pub leads_in : State → Key → Bool
leads_in s k = is_site s.inner s.instances k

-- no two instances have a site of one number
abbrev pub NumbersDiffer : Instances → Type 0
NumbersDiffer is = (p q : List ℕ) (l m : Linked) (n : ℕ) → linked_at p is ≡ Some l → linked_at q is ≡ Some m → is_site_of l.page n ≡ true → is_site_of m.page n ≡ true → p ≡ q

-- All that is linked is watched, and no two instances have a site of one number. Watchers and instances stand in key order, the scopes are a tree, and
-- the templates are as the compiler makes them.
pub record IsWatched (s : State) : Type 0 where
  pub linked : (p : List ℕ) (l : Linked) → linked_at p s.instances ≡ Some l → IsLinked s.core (leads_in s) s.watchers p l
  pub apart : NumbersDiffer s.instances
  pub paths : IsStrictlySortedBy path_cmp (map_keys s.instances)
  pub keys : IsStrictlySortedBy key_cmp (map_keys s.watchers)
  pub tree : IsScopeTree s.core.scopes
  pub templates : AllByRecursion (λ (t : Named). is_regular t.1 ≡ true) s.templates

-- the cases of a switch of a fragment, by the number of registration of its site
abbrev pub cases_under : List ℕ → List Outlet → ℕ → List Case
cases_under serials [] n = []
cases_under serials (o ∷ os) n = if is_at (nat_cmp n) (slice_index_or serials o.site 0) then case_in o.filling ++ cases_under serials os n else cases_under serials os n

-- the bodies that stand are those that are called for, beside these cases
abbrev pub CallsFor : List Case → Option ViewTree → OutletState → Type 0
CallsFor cases None x = Unit {0}
CallsFor cases (Some v) x = is_filled cases x.filling (Some v) (roles_in x.bodies) ≡ true

-- Each block that is watched, whose site has kept a value, and whose fire did not fault, has the bodies that the value calls for. Its
-- fragment has these outlets, and its sites these keys by their numbers of registration.
abbrev pub OutletFits : (Key → Bool) → Table → List Key → (ℕ → Key) → List ℕ → List Outlet → OutletState → Type 0
OutletFits leads t faulted keys serials os x =
    list_any (is_at (nat_cmp x.serial)) serials ≡ true → leads (keys x.serial) ≡ true → (w : Watcher) → found (keys x.serial) t ≡ Some w → list_any (is_key (keys x.serial)) faulted ≡ false
    → CallsFor (cases_under serials os x.serial) w.kept x

abbrev pub Fits : List Key → State → Type 0
Fits faulted s =
    (p : List ℕ) (l : Linked) → linked_at p s.instances ≡ Some l → AllByRecursion (OutletFits (leads_in s) s.watchers faulted (site_keys l.page) l.page.serials l.fragment.outlets) l.page.outlets

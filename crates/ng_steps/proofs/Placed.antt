-- What an instance that comes, or one that goes, leaves of works.
use Rattle.std.proofs.Common.{◌≡◌, ◌<◌, ◌≤◌, ◌+◌, ℕ, zero, suc, Bool, true, false, true≢false, List, [], ◌∷◌, ◌++◌, append_assoc, drop, length, map, Option, Some, None, refl, ap, sym, subst, ◌∙◌, arith, inl, inr}
use Rattle.std.specs.BTreeMap.{is_at}
use Rattle.std.specs.List.{AllByRecursion, filter, list_all, list_any}
use Rattle.std.specs.List.Sorted.{IsStrictlySortedBy}
use Rattle.std.specs.Map.{lookup, keys_of as map_keys}
use Rattle.std.specs.Ordering.{is_eq, nat_cmp}
use Rattle.std.proofs.lemmas.Cmp.{nat_cmp_total, tied_itself}
use Rattle.std.proofs.lemmas.Bool.Decides.{nat_tests}
use Rattle.std.specs.Prelude.{◌&&◌, ◌||◌, nat_le, nat_lt, not, IsSome, option_and_then, slice_get, slice_index_or}
use Rattle.ng_base.specs.Order.{path_cmp}
use Rattle.ng_base.specs.Views.{ViewTree}
use Rattle.ng_base.specs.declared.path.Key.{Key}
use Rattle.ng_behaviour.specs.Scopes.{Scope, path_at}
use Rattle.ng_dom.specs.Lists.{put_at}
use Rattle.ng_drawing.specs.Origins.{inner_home}
use Rattle.ng_drawing.specs.Template.{Filling, body_if, on_case, for_each, by_name, Outlet, OutletScope, Outside, inside, handed, Fragment, Site, fragment_at}
use Rattle.ng_drawing.specs.declared.origin.Home.{Home}
use Rattle.ng_drawing.specs.declared.origin.Origin.{Origin}
use Rattle.ng_changes.proofs.Entries.{RowsBy, all_filtered, rows_filtered, rows_keeping, rows_watched, rows_wider}
use Rattle.ng_changes.proofs.InnerPaths.{leads_used, left_inner, new_inner, not_true, other_inner, own_inner, site_come, site_left, site_taken, unused_for, unused_inner}
use Rattle.ng_changes.proofs.Wholes.{SameLinked, Stays}
use Rattle.ng_steps.specs.LinkingOf.{AreBelow}
use Rattle.ng_changes.specs.Whole.{HasBody, HasInner, HasScope, HaveBodies, HaveScopes, OutletStands, RowStands}
use Rattle.ng_link.proofs.Grown.{each_found}
use Rattle.ng_link.proofs.Numbers.{whole_numbers}
use Rattle.ng_link.proofs.Lookups.{changed_all, inserted_all, inserted_here, kept_all, kept_pass}
use Rattle.ng_link.proofs.PathsBelow.{same_path}
use Rattle.ng_instances.specs.Changing.{Place, at_top, in_outlet, outlet_on, outlets_from, round_by}
use Rattle.ng_link.specs.Calls.{taken_in, linked_on, placed_on, unlinked_at}
use Rattle.ng_instances.specs.Instances.{Body, Inner, Inners, OutletState, Linked, Instances, instance_path, inner_without, is_path, linked_at, is_site_in, is_site, with_bodies, with_inner, with_outlets, outlets_changed, bodies_arranged, body_added, body_gone, unlinked, with_instance}
use Rattle.ng_instances.specs.PlaceOf.{outlet_of_linked}
use Rattle.ng_link.specs.FreePlace.{IsFree, IsNewBelow, IsUsed}
use Rattle.ng_link.specs.Placing.{IsRegistered}
use Rattle.ng_instances.specs.Registering.{Ground, Registered, mark_at, outside_in_ground, row_at, rows_from, scope_in_ground, site_key}
use Rattle.ng_instances.specs.Rows.{Row, watching_site, with_first, with_row, with_sites}
use Rattle.ng_build.specs.Shape.{anchors}
use Rattle.ng_link.specs.Standing.{AreInner, IsBelow}
use Rattle.ng_link.specs.State.{State, Listening, templates_of}
use Rattle.ng_link.specs.declared.works.Works.{Works}
use Rattle.ng_compose.proofs.KeptWhole.{HasBodies}
use Rattle.ng_drawing.specs.Named.{Named}
use Rattle.ng_compose.specs.Kept.{named_of}
use Rattle.ng_drawing.specs.Numbering.{is_body, is_outlet, is_regular}
use Rattle.ng_compose.specs.declared.templates.Kept.{Kept}
use Rattle.ng_behaviour.specs.Keys.{begins}
use Rattle.ng_watch.specs.Table.{Table, with_watch}

-- ---- what is free

-- what is free stays free
pub free_same : (place : Place) (p q : List ℕ) (s t : State) → q ≡ p → SameLinked s t → IsFree place p s → IsFree place q t
free_same at_top p q s t path same free = (same.0 ∙ free.0, path ∙ free.1)
free_same (in_outlet holder o i role) p q s t path same free = (
  subst (λ (x : Instances). IsSome (outlet_of_linked o (linked_at holder x))) (sym same.0) free.0,
  subst (λ (r : List ℕ). IsNewBelow holder r t) (sym path) (new_same holder p s t same free.1),
)
  where
    new_same : (h r : List ℕ) (u v : State) → SameLinked u v → IsNewBelow h r u → IsNewBelow h r v
    new_same h r u v e n = record {
      below = n.below;
      unused = λ x used. n.unused x (old x used);
      nearest = λ x linked begun. n.nearest x (subst (λ (y : Instances). IsSome (linked_at x y)) e.0 linked) begun;
    }
      where
        old : (x : List ℕ) → IsUsed x v → IsUsed x u
        old x (inl k) = inl (subst (λ (y : Instances). IsSome (linked_at x y)) e.0 k)
        old x (inr k) = inr (subst (λ (y : Inners). IsSome (lookup (is_path x) y)) e.1 k)

-- ---- what holds of all outlets, whatever fills them

module _ (P : OutletState → Type 0) (keep : (x : OutletState) (bs : List Body) → P x → P (with_bodies bs x)) where
  pub outlets_added : (n i : ℕ) (b : Body) (os : List OutletState) → AllByRecursion P os → AllByRecursion P (body_added n i b os)
  outlets_added n i b [] h = tt
  outlets_added zero i b (o ∷ os) h = (keep o (put_at i b o.bodies) h.0, h.1)
  outlets_added (suc n) i b (o ∷ os) h = (h.0, outlets_added n i b os h.1)

  pub outlets_left : (p : List ℕ) (os : List OutletState) → AllByRecursion P os → AllByRecursion P (body_gone p os)
  outlets_left p [] h = tt
  outlets_left p (o ∷ os) h = (keep o (filter (λ (b : Body). not (is_path p b.path)) o.bodies) h.0, outlets_left p os h.1)

  pub outlets_arranged : (n : ℕ) (bs : List Body) (os : List OutletState) → AllByRecursion P os → AllByRecursion P (bodies_arranged n bs os)
  outlets_arranged n bs [] h = tt
  outlets_arranged zero bs (o ∷ os) h = (keep o bs h.0, h.1)
  outlets_arranged (suc n) bs (o ∷ os) h = (h.0, outlets_arranged n bs os h.1)

pub stands_with : (scopes : List Scope) (inner : Inners) (p : List ℕ) (x : OutletState) (bs : List Body) → OutletStands scopes inner p x → OutletStands scopes inner p (with_bodies bs x)
stands_with scopes inner p x bs h = record { scope = h.scope; path = h.path; outsides = h.outsides }

pub has_with : (all : List Named) (x : OutletState) (bs : List Body) → HasBody all x.home.template.0 x.filling → HasBody all x.home.template.0 x.filling
has_with all x bs h = h

-- an instance whose outlets are changed
pub scope_changed : (scopes : List Scope) (inner : Inners) (p : List ℕ) (f : List OutletState → List OutletState) (l : Linked) → (AllByRecursion (OutletStands scopes inner p) l.page.outlets → AllByRecursion (OutletStands scopes inner p) (f l.page.outlets)) → HasScope scopes inner p l → HasScope scopes inner p (with_outlets f l)
scope_changed scopes inner p f l go h = record { scope = h.scope; path = h.path; inner = h.inner; bounds = h.bounds; outlets = go h.outlets }

abbrev pub OutletsHave : List Named → List OutletState → Type 0
OutletsHave all os = AllByRecursion (λ (x : OutletState). HasBody all x.home.template.0 x.filling) os

pub scopes_taken : (scopes : List Scope) (inner : Inners) (place : Place) (p : List ℕ) (is : Instances) → HaveScopes scopes inner is → HaveScopes scopes inner (taken_in place p is)
scopes_taken scopes inner at_top p is h = h
scopes_taken scopes inner (in_outlet holder o i role) p is h =
    changed_all holder (body_added o i (record { path = p; role = role })) (λ (e : List ℕ × Linked). HasScope scopes inner e.0 e.1) is
    (λ l at one. scope_changed scopes inner holder (body_added o i (record { path = p; role = role })) l
    (outlets_added (OutletStands scopes inner holder) (stands_with scopes inner holder) o i (record { path = p; role = role }) l.page.outlets) one) h

pub bodies_taken : (all : List Named) (place : Place) (p : List ℕ) (is : Instances) → HaveBodies all is → HaveBodies all (taken_in place p is)
bodies_taken all at_top p is h = h
bodies_taken all (in_outlet holder o i role) p is h =
    changed_all holder (body_added o i (record { path = p; role = role })) (λ (e : List ℕ × Linked). OutletsHave all e.1.page.outlets) is
    (λ l at one. outlets_added (λ (x : OutletState). HasBody all x.home.template.0 x.filling) (has_with all) o i (record { path = p; role = role }) l.page.outlets one) h

-- the outlets of a fragment of a regular template have bodies
abbrev pub AreRegular : List Named → Type 0
AreRegular all = (t : ℕ) (k : Named) → slice_get all t ≡ Some k → is_regular k.1 ≡ true

both : (b c : Bool) → (b && c) ≡ true → (b ≡ true) × (c ≡ true)
both true c e = (refl, e)
both false c e = absurd (cc)

kept_regular : (ks : List Kept) (t : ℕ) (k : Named) → slice_get (map named_of ks) t ≡ Some k → is_regular k.1 ≡ true
kept_regular [] t k at = absurd (cc)
kept_regular (x ∷ ks) zero k at = let same : named_of x ≡ k = cc in subst (λ (y : Named). is_regular y.1 ≡ true) same x.template.regular
kept_regular (x ∷ ks) (suc t) k at = kept_regular ks t k at

pub templates_regular : (w : Works) → AreRegular (templates_of w)
templates_regular w t k at = kept_regular w.templates.items.items t k at

-- a number up to that of the bodies is that of a fragment
body_there : (own : Fragment) (bodies : List Fragment) (b : ℕ) → (nat_lt 0 b && nat_le b (length bodies)) ≡ true → IsSome (slice_get (own ∷ bodies) b)
body_there own bodies b h =
    let two = both (nat_lt 0 b) (nat_le b (length bodies)) h in
    there (own ∷ bodies) b (le_lt b (length bodies) two.1)
  where
    le_lt : (m n : ℕ) → nat_le m n ≡ true → m < suc n
    le_lt m n e = grind (arith, nat_tests, e)

    there : (xs : List Fragment) (i : ℕ) → i < length xs → IsSome (slice_get xs i)
    there [] i lt = absurd (omega arith)
    there (x ∷ xs) zero lt = refl
    there (x ∷ xs) (suc i) lt = there xs i (omega arith)

filling_there : (all : List Named) (t : ℕ) (k : Named) (x : Filling) → slice_get all t ≡ Some k → is_body (length k.1.bodies) x ≡ true → HasBody all t x
filling_there all t k (body_if b) at h = subst (λ (o : Option Named). IsSome (option_and_then (λ (y : Named). fragment_at y.1 b) o)) (sym at) (body_there k.1.own k.1.bodies b h)
filling_there all t k (on_case c b) at h = subst (λ (o : Option Named). IsSome (option_and_then (λ (y : Named). fragment_at y.1 b) o)) (sym at) (body_there k.1.own k.1.bodies b h)
filling_there all t k (by_name b) at h = subst (λ (o : Option Named). IsSome (option_and_then (λ (y : Named). fragment_at y.1 b) o)) (sym at) (body_there k.1.own k.1.bodies b h)
filling_there all t k (for_each r b) at h = subst (λ (o : Option Named). IsSome (option_and_then (λ (y : Named). fragment_at y.1 b) o)) (sym at) (body_there k.1.own k.1.bodies b h)

pub fragment_bodies : (all : List Named) (regular : AreRegular all) (t : ℕ) (f : Fragment) → HasBodies all regular t f → AllByRecursion (λ (x : Outlet). HasBody all t x.filling) f.outlets
fragment_bodies all regular t f kept = each f.outlets (whole_numbers bodies f kept.2)
  where
    bodies : ℕ
    bodies = length kept.0.1.bodies

    each : (os : List Outlet) → list_all (is_outlet (length f.sites) bodies) os ≡ true → AllByRecursion (λ (x : Outlet). HasBody all t x.filling) os
    each [] h = tt
    each (x ∷ xs) h =
        let two = both (is_outlet (length f.sites) bodies x) (list_all (is_outlet (length f.sites) bodies) xs) h in
        (filling_there all t kept.0 x.filling kept.1 (both (nat_lt x.site (length f.sites)) (is_body bodies x.filling) two.0).1, each xs two.1)

-- where the bodies of the outlets of a fragment come from, from the i-th on
abbrev pub spot_home : Origin → Option OutletScope → Home
spot_home which None = inner_home which
spot_home which (Some x) = x.home

abbrev pub HaveHomes : List Named → Origin → List OutletScope → ℕ → List Outlet → Type 0
HaveHomes all which spots i [] = Unit {0}
HaveHomes all which spots i (o ∷ os) = HasBody all (spot_home which (slice_get spots i)).template.0 o.filling × HaveHomes all which spots (i + 1) os

-- so many are there where there are more
pub below_more : (m n : ℕ) (ns : List ℕ) → m ≤ n → AreBelow m ns → AreBelow n ns
below_more m n [] le h = tt
below_more m n (k ∷ ks) le h = (omega (arith, le, h.0), below_more m n ks le h.1)

-- ---- an instance comes

round_home : (which : Origin) (g : Ground) (x : Option OutletScope) → (round_by which g x).home ≡ spot_home which x
round_home which g None = refl
round_home which g (Some x) = refl

outlets_have : (all : List Named) (which : Origin) (g : Ground) (ns : List ℕ) (f : Fragment) (i : ℕ) (os : List Outlet) (names : List ℕ) → HaveHomes all which f.spots i os → OutletsHave all (outlets_from which g ns f i os names)
outlets_have all which g ns f i [] names h = tt
outlets_have all which g ns f i (o ∷ os) [] h = tt
outlets_have all which g ns f i (o ∷ os) (a ∷ names) h = (
  subst (λ (x : Home). HasBody all x.template.0 o.filling) (sym (round_home which g (slice_get f.spots i))) h.0,
  outlets_have all which g ns f (i + 1) os names h.1,
)

-- a scope by its number is one of those that are there
index_below : (count : ℕ) (ns : List ℕ) (n d : ℕ) → AreBelow count ns → d < count → slice_index_or ns n d < count
index_below count [] n d h lt = lt
index_below count (x ∷ ns) zero d h lt = h.0
index_below count (x ∷ ns) (suc n) d h lt = index_below count ns n d h.1 lt

pub ground_below : (count : ℕ) (g : Ground) (n : ℕ) → 0 < count → AreBelow count g.scopes → scope_in_ground g n < count
ground_below count g n root h = index_below count g.scopes n (slice_index_or g.scopes 0 0) h (index_below count g.scopes 0 0 h root)

pub outside_below : (count : ℕ) (g : Ground) (o : Outside) → 0 < count → AreBelow count g.scopes → AreBelow count g.outsides → outside_in_ground g o < count
outside_below count g (inside n) root h k = ground_below count g n root h
outside_below count g (handed i) root h k = index_below count g.outsides i 0 k root

all_outside : (count : ℕ) (g : Ground) (os : List Outside) → 0 < count → AreBelow count g.scopes → AreBelow count g.outsides → AreBelow count (map (outside_in_ground g) os)
all_outside count g [] root h k = tt
all_outside count g (o ∷ os) root h k = (outside_below count g o root h k, all_outside count g os root h k)

-- what holds of an instance's own scope and of its inner ones holds of each by its number
index_holds : (P : ℕ → Type 0) (ns : List ℕ) (n d : ℕ) → AllByRecursion P ns → P d → P (slice_index_or ns n d)
index_holds P [] n d h one = one
index_holds P (x ∷ ns) zero d h one = h.0
index_holds P (x ∷ ns) (suc n) d h one = index_holds P ns n d h.1 one

pub ground_holds : (P : ℕ → Type 0) (g : Ground) (scope n : ℕ) → g.scopes ≡ scope ∷ drop 1 g.scopes → P scope → AllByRecursion P (drop 1 g.scopes) → P (scope_in_ground g n)
ground_holds P g scope n own one rest =
    let first : P (slice_index_or g.scopes 0 0) = subst (λ (ns : List ℕ). P (slice_index_or ns 0 0)) (sym own) one in
    subst (λ (ns : List ℕ). P (slice_index_or ns n (slice_index_or g.scopes 0 0))) (sym own)
    (index_holds P (scope ∷ drop 1 g.scopes) n (slice_index_or g.scopes 0 0) (one, rest) first)

-- an instance on a free path, which is registered
module _ (objects : ℕ) (place : Place) (which : Origin) (scope : ℕ) (f : Fragment) (r : Registered) (s : State) (inner : AreInner s.inner s.instances) (free : IsFree place (path_at s.core.scopes scope) s) (made : IsRegistered f scope r s) (root : 0 < length s.core.scopes) where
  abbrev p : List ℕ
  p = path_at s.core.scopes scope

  abbrev l : Linked
  l = linked_on s.core.scopes which scope f r s.next_node

  abbrev more : Instances
  more = with_instance p l s.instances

  abbrev new : Instances
  new = taken_in place p more

  abbrev inners : Inners
  inners = with_inner p l.page.inner s.inner

  unused : (q : List ℕ) → IsUsed q s → begins p q ≡ false
  unused = unused_for place p s inner free

  on_below : (ns : List ℕ) → AllByRecursion (λ n. IsBelow p (path_at s.core.scopes n)) ns → AllByRecursion (λ (i : Inner). IsBelow p i.path) (map (λ n. record { scope = n; path = path_at s.core.scopes n }) ns)
  on_below [] h = tt
  on_below (n ∷ ns) h = (h.0, on_below ns h.1)

  below : AllByRecursion (λ (i : Inner). IsBelow p i.path) l.page.inner
  below = on_below (drop 1 r.at_hand.scopes) made.within

  -- each of its scopes leads to it
  abbrev Leads : ℕ → Type 0
  Leads n = instance_path inners (path_at s.core.scopes n) ≡ p

  own_leads : Leads scope
  own_leads = own_inner p l.page.inner s.inner below (unused_inner p s unused)

  has_it : (ns : List ℕ) (n : ℕ) → list_any (λ (i : Inner). is_path i.path (path_at s.core.scopes n)) (map (λ k. record { scope = k; path = path_at s.core.scopes k }) (n ∷ ns)) ≡ true
  has_it ns n = ap (λ (b : Bool). b || list_any (λ (i : Inner). is_path i.path (path_at s.core.scopes n)) (map (λ k. record { scope = k; path = path_at s.core.scopes k }) ns)) (same_path (path_at s.core.scopes n))

  -- a scope of this number is among some
  abbrev is_it : ℕ → List ℕ → Bool
  is_it n ks = list_any (λ (i : Inner). is_path i.path (path_at s.core.scopes n)) (map (λ k. record { scope = k; path = path_at s.core.scopes k }) ks)

  inner_lead : (before ns : List ℕ) → drop 1 r.at_hand.scopes ≡ before ++ ns → AllByRecursion Leads ns
  inner_lead before [] e = tt
  inner_lead before (n ∷ ns) e = (new_inner p l.page.inner s.inner (path_at s.core.scopes n) here, inner_lead (before ++ n ∷ []) ns (e ∙ sym (append_assoc before (n ∷ []) ns)))
    where
      behind : (ks : List ℕ) → is_it n (ks ++ n ∷ ns) ≡ true
      behind [] = has_it ns n
      behind (k ∷ ks) = either (is_path (path_at s.core.scopes k) (path_at s.core.scopes n)) (behind ks)
        where
          either : (b : Bool) → is_it n (ks ++ n ∷ ns) ≡ true → (b || is_it n (ks ++ n ∷ ns)) ≡ true
          either true h = refl
          either false h = h

      here : is_it n (drop 1 r.at_hand.scopes) ≡ true
      here = ap (is_it n) e ∙ behind before

  leads : (n : ℕ) → Leads (scope_in_ground r.at_hand n)
  leads n = ground_holds Leads r.at_hand scope n made.own own_leads (inner_lead [] (drop 1 r.at_hand.scopes) refl)

  -- its sites are sites
  same_number : (n : ℕ) → is_at (nat_cmp n) n ≡ true
  same_number n = ap is_eq (tied_itself nat_cmp_total n)

  serial_there : (before ns : List ℕ) (n : ℕ) → list_any (is_at (nat_cmp n)) (before ++ n ∷ ns) ≡ true
  serial_there [] ns n = ap (λ (b : Bool). b || list_any (is_at (nat_cmp n)) ns) (same_number n)
  serial_there (k ∷ ks) ns n = either (is_at (nat_cmp n) k) (serial_there ks ns n)
    where
      either : (b : Bool) → list_any (is_at (nat_cmp n)) (ks ++ n ∷ ns) ≡ true → (b || list_any (is_at (nat_cmp n)) (ks ++ n ∷ ns)) ≡ true
      either true h = refl
      either false h = h

  row_site : (before ns : List ℕ) (n i : ℕ) → r.serials ≡ before ++ n ∷ ns → is_site inners new (site_key s.core.scopes r.at_hand (mark_at f i) n) ≡ true
  row_site before ns n i e =
      let k : Key = site_key s.core.scopes r.at_hand (mark_at f i) n in
      site_taken inners place p more k
      ∙ (ap (λ (q : List ℕ). is_site_in (linked_at q more) k) (leads (mark_at f i).under)
      ∙ (ap (λ (o : Option Linked). is_site_in o k) (inserted_here p l s.instances)
      ∙ (ap (λ (xs : List ℕ). list_any (is_at (nat_cmp n)) xs) e ∙ serial_there before ns n)))

  row_kept : (k : Key) (v : Option ViewTree) (t : Table) → is_site inners new k ≡ true → RowsBy objects (is_site inners new) t → RowsBy objects (is_site inners new) (with_first k v t)
  row_kept k None t site h = h
  row_kept k (Some v) t site h = rows_keeping objects (is_site inners new) k (Some v) t (subst (λ (b : Bool). RowStands objects b (Some v)) (sym site) tt) h

  rows_placed : (i : ℕ) (before ns : List ℕ) (xs : List Site) (t : Table) → r.serials ≡ before ++ ns → RowsBy objects (is_site inners new) t → RowsBy objects (is_site inners new) (with_sites (rows_from s.core.scopes f r i ns) xs t)
  rows_placed i before [] xs t e h = h
  rows_placed i before (n ∷ ns) [] t e h = h
  rows_placed i before (n ∷ ns) (x ∷ xs) t e h =
      let row : Row = row_at s.core.scopes f r i n in
      rows_placed (i + 1) (before ++ n ∷ []) ns xs (with_row row x t) (e ∙ sym (append_assoc before (n ∷ []) ns))
      (row_kept row.key row.kept (with_watch row.key (watching_site row.object row.way x) t) (row_site before ns n i e)
      (rows_watched objects (is_site inners new) row.key (watching_site row.object row.way x) t h))

  -- its scopes are there
  inner_stand : (ns : List ℕ) → AreBelow (length s.core.scopes) ns → AllByRecursion (HasInner s.core.scopes) (map (λ n. record { scope = n; path = path_at s.core.scopes n }) ns)
  inner_stand [] h = tt
  inner_stand (n ∷ ns) h = ((h.0, refl), inner_stand ns h.1)

  rest_below : (ns : List ℕ) → AreBelow (length s.core.scopes) ns → AreBelow (length s.core.scopes) (drop 1 ns)
  rest_below [] h = tt
  rest_below (n ∷ ns) h = h.1

  round_stands : (x : Option OutletScope) (n : ℕ) (ns : List ℕ) (o : Outlet) (a : ℕ) → OutletStands s.core.scopes inners p (outlet_on (round_by which r.at_hand x) ns o a)
  round_stands None n ns o a = record { scope = ground_below (length s.core.scopes) r.at_hand 0 root made.scopes; path = leads 0; outsides = made.outsides }
  round_stands (Some x) n ns o a = record {
    scope = ground_below (length s.core.scopes) r.at_hand x.scope root made.scopes;
    path = leads x.scope;
    outsides = all_outside (length s.core.scopes) r.at_hand x.outsides root made.scopes made.outsides;
  }

  outlets_stand : (i : ℕ) (os : List Outlet) (names : List ℕ) → AllByRecursion (OutletStands s.core.scopes inners p) (outlets_from which r.at_hand r.serials f i os names)
  outlets_stand i [] names = tt
  outlets_stand i (o ∷ os) [] = tt
  outlets_stand i (o ∷ os) (a ∷ names) = (round_stands (slice_get f.spots i) i r.serials o a, outlets_stand (i + 1) os names)

  own_scope : scope < length s.core.scopes → HasScope s.core.scopes inners p l
  own_scope lt = record {
    scope = lt;
    path = refl;
    inner = inner_stand (drop 1 r.at_hand.scopes) (rest_below r.at_hand.scopes made.scopes);
    bounds = made.bounds;
    outlets = outlets_stand 0 f.outlets (anchors s.next_node f.parts);
  }

  -- those of others stay as they are
  old_outlets : (q : List ℕ) (xs : List OutletState) → IsSome (linked_at q s.instances) → AllByRecursion (OutletStands s.core.scopes s.inner q) xs → AllByRecursion (OutletStands s.core.scopes inners q) xs
  old_outlets q [] there h = tt
  old_outlets q (x ∷ xs) there h =
      let pc : List ℕ = path_at s.core.scopes x.scope in
      let used : IsUsed pc s = leads_used s pc (subst (λ (y : List ℕ). IsSome (linked_at y s.instances)) (sym h.0.path) there) in
      (record { scope = h.0.scope; path = other_inner p l.page.inner s.inner pc below (unused pc used) ∙ h.0.path; outsides = h.0.outsides }, old_outlets q xs there h.1)

  old_scopes : (es : Instances) → AllByRecursion (λ (e : List ℕ × Linked). linked_at e.0 s.instances ≡ Some e.1) es → HaveScopes s.core.scopes s.inner es → HaveScopes s.core.scopes inners es
  old_scopes [] found h = tt
  old_scopes (e ∷ es) found h = (
    record { scope = h.0.scope; path = h.0.path; inner = h.0.inner; bounds = h.0.bounds; outlets = old_outlets e.0 e.1.page.outlets (subst (λ (o : Option Linked). IsSome o) (sym found.0) refl) h.0.outlets },
    old_scopes es found.1 h.1,
  )

  pub placed_stays : scope < length s.core.scopes → IsStrictlySortedBy path_cmp (map_keys s.instances) → HaveHomes s.templates which f.spots 0 f.outlets → Stays s.core.scopes objects s → Stays s.core.scopes objects (placed_on place which scope f r s)
  placed_stays lt sorted have h = record {
    listeners = h.listeners;
    rows = rows_placed 0 [] r.serials f.sites s.watchers refl
        (rows_wider objects (is_site s.inner s.instances) (is_site inners new) s.watchers (λ k site. site_taken inners place p more k ∙ site_come p l.page.inner l s below unused k site) h.rows);
    scopes = scopes_taken s.core.scopes inners place p more
        (inserted_all p l (λ (e : List ℕ × Linked). HasScope s.core.scopes inners e.0 e.1) s.instances (own_scope lt)
        (old_scopes s.instances (each_found s.instances sorted) h.scopes));
    bodies = bodies_taken s.templates place p more
        (inserted_all p l (λ (e : List ℕ × Linked). OutletsHave s.templates e.1.page.outlets) s.instances
        (outlets_have s.templates which r.at_hand r.serials f 0 f.outlets (anchors s.next_node f.parts) have) h.bodies);
  }

-- ---- and one goes

-- the outlets of an instance that doesn't go stand as they stood
module _ (scopes : List Scope) (b : List ℕ) (inner : Inners) (is : Instances) (known : AreInner inner is) (linked : IsSome (linked_at b is)) where
  left_outlets : (q : List ℕ) (xs : List OutletState) → not (begins b q) ≡ true → AllByRecursion (OutletStands scopes inner q) xs → AllByRecursion (OutletStands scopes (inner_without b inner) q) xs
  left_outlets q [] stays h = tt
  left_outlets q (x ∷ xs) stays h =
      let pc : List ℕ = path_at scopes x.scope in
      let off : begins b pc ≡ false = not_true (begins b pc) (λ on. true≢false (sym stays ∙ ap not (ap (begins b) (sym h.0.path) ∙ known.nearest pc b linked on))) in
      (record { scope = h.0.scope; path = left_inner b inner pc off ∙ h.0.path; outsides = h.0.outsides }, left_outlets q xs stays h.1)

  left_scopes : (es : Instances) → AllByRecursion (λ (e : List ℕ × Linked). not (begins b e.0) ≡ true) es → HaveScopes scopes inner es → HaveScopes scopes (inner_without b inner) es
  left_scopes [] stay h = tt
  left_scopes (e ∷ es) stay h = (
    record { scope = h.0.scope; path = h.0.path; inner = h.0.inner; bounds = h.0.bounds; outlets = left_outlets e.0 e.1.page.outlets stay.0 h.0.outlets },
    left_scopes es stay.1 h.1,
  )

pub unlinked_stays : (scopes : List Scope) (objects : ℕ) (holder p : List ℕ) (s : State) → AreInner s.inner s.instances → IsSome (linked_at p s.instances) → Stays scopes objects s → Stays scopes objects (unlinked_at holder p s)
unlinked_stays scopes objects holder p s known linked h = record {
  listeners = all_filtered (λ (e : Key × Listening). e.1.scope < length scopes) (λ e. not (begins p e.0.path)) s.declared h.listeners;
  rows = rows_filtered objects (is_site s.inner s.instances) (is_site (inner_without p s.inner) (unlinked holder p s.instances)) (λ (k : Key). not (begins p k.path)) s.watchers (λ k stays. site_left holder p s.inner s.instances k known stays) h.rows;
  scopes = left_scopes scopes p s.inner s.instances known linked (unlinked holder p s.instances) (kept_pass (λ (q : List ℕ). not (begins p q)) (outlets_changed holder (body_gone p) s.instances))
      (kept_all (λ (q : List ℕ). not (begins p q)) (λ (e : List ℕ × Linked). HasScope scopes s.inner e.0 e.1) (outlets_changed holder (body_gone p) s.instances)
      (changed_all holder (body_gone p) (λ (e : List ℕ × Linked). HasScope scopes s.inner e.0 e.1) s.instances
      (λ l at one. scope_changed scopes s.inner holder (body_gone p) l (outlets_left (OutletStands scopes s.inner holder) (stands_with scopes s.inner holder) p l.page.outlets) one) h.scopes));
  bodies = kept_all (λ (q : List ℕ). not (begins p q)) (λ (e : List ℕ × Linked). OutletsHave s.templates e.1.page.outlets) (outlets_changed holder (body_gone p) s.instances)
      (changed_all holder (body_gone p) (λ (e : List ℕ × Linked). OutletsHave s.templates e.1.page.outlets) s.instances
      (λ l at one. outlets_left (λ (x : OutletState). HasBody s.templates x.home.template.0 x.filling) (has_with s.templates) p l.page.outlets one) h.bodies);
}

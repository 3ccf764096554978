-- A body goes: what is linked stays watched, and all other blocks have the bodies that they call for.
use Rattle.std.proofs.Common.{◌≡◌, ◌⊎◌, inl, inr, ℕ, Bool, true, false, List, [], ◌∷◌, cond, Option, Some, None, refl, ap, sym, subst, ◌∙◌, arith}
use Rattle.std.specs.Prelude.{not, option_map, unwrap_or}
use Rattle.std.specs.List.{AllByRecursion, filter}
use Rattle.std.specs.List.Sorted.{IsStrictlySortedBy}
use Rattle.std.specs.Map.{keys_of, lookup}
use Rattle.std.proofs.lemmas.Map.Entries.{lookup-filter-keys}
use Rattle.ng_core.specs.State as act
use Rattle.ng_base.specs.Order.{path_cmp, path_cmp_total}
use Rattle.ng_base.specs.declared.path.Key.{Key}
use Rattle.ng_drawing.specs.Template.{Outlet}
use Rattle.ng_link.specs.Calls.{left_at, unlinked_at}
use Rattle.ng_instances.specs.Instances.{OutletState, Linked, Instances, Inners, is_path, linked_at, key_in, is_site_of, is_site_in, is_site, instance_path, inner_without, with_outlets, outlets_changed, without_body, body_gone, unlinked}
use Rattle.ng_link.specs.Standing.{body_count}
use Rattle.ng_link.specs.State.{State}
use Rattle.ng_link.proofs.Lookups.{changed_keys, changed_here, changed_other, kept_found}
use Rattle.ng_instances.proofs.PathIs.{path_is}
use Rattle.ng_link.proofs.PathsBelow.{other_path}
use Rattle.ng_link.proofs.Sorted.{filter_sorted}
use Rattle.ng_behaviour.specs.Keys.{begins}
use Rattle.ng_watch.specs.Table.{Table}
use Rattle.ng_commands.specs.Settled.{site_keys, IsChild, IsRound, IsLinked, cases_under, OutletFits, leads_in, NumbersDiffer, IsWatched, Fits}
use Rattle.ng_page.proofs.Bodies.{calls_same, all_mapped, filter_all, filter_none, gone_outlets, gone_count}
use Rattle.ng_commands.proofs.FitsStay.{fits_stays}
use Rattle.ng_page.proofs.Fitting.{IsOut}
use Rattle.ng_commands.proofs.ScopesStay.{scopes_refl}
use Rattle.ng_commands.proofs.Sites.{left_sites}
use Rattle.ng_commands.proofs.Watched.{all_map, all_both, linked_stays, watched_stays}

-- what is found among the instances that pass a test was found
kept_none : (test : List ℕ → Bool) (is : Instances) (q : List ℕ) → test q ≡ false → linked_at q (filter (λ (e : List ℕ × Linked). test e.0) is) ≡ None
kept_none test [] q goes = refl
kept_none test (e ∷ es) q goes = by_test (test e.0) refl (kept_none test es q goes)
  where
    apart : test e.0 ≡ true → is_path q e.0 ≡ false
    apart stays = other_path q e.0 (λ same. let two : true ≡ false = sym stays ∙ (ap test (sym same) ∙ goes) in absurd (cc))

    by_test : (b : Bool) → test e.0 ≡ b → linked_at q (filter (λ (e : List ℕ × Linked). test e.0) es) ≡ None
        → linked_at q (cond b (e ∷ filter (λ (e : List ℕ × Linked). test e.0) es) (filter (λ (e : List ℕ × Linked). test e.0) es)) ≡ None
    by_test true is more = ap (λ (b : Bool). cond b (Some e.1) (linked_at q (filter (λ (e : List ℕ × Linked). test e.0) es))) (apart is) ∙ more
    by_test false is more = more

kept_some : (test : List ℕ → Bool) (is : Instances) (q : List ℕ) (l : Linked) → linked_at q (filter (λ (e : List ℕ × Linked). test e.0) is) ≡ Some l → linked_at q is ≡ Some l
kept_some test is q l at = by_test (test q) refl
  where
    by_test : (b : Bool) → test q ≡ b → linked_at q is ≡ Some l
    by_test true stays = sym (kept_found test is q stays) ∙ at
    by_test false goes = let none : ◌≡◌ {A = Option Linked} None (Some l) = sym (kept_none test is q goes) ∙ at in absurd (cc)

pub some_changed : (f : List OutletState → List OutletState) (o : Option Linked) (l : Linked) → option_map (with_outlets f) o ≡ Some l → (m : Linked) × (o ≡ Some m) × (l ≡ with_outlets f m)
some_changed f None l e = absurd (cc)
some_changed f (Some m) l e = (m, refl, let same : with_outlets f m ≡ l = cc in sym same)

-- what is found where the outlets of one have changed
pub changed_some : (p q : List ℕ) (f : List OutletState → List OutletState) (is : Instances) (l : Linked) → linked_at q (outlets_changed p f is) ≡ Some l
    → (m : Linked) × (linked_at q is ≡ Some m) × ((l ≡ m) ⊎ ((q ≡ p) × (l ≡ with_outlets f m)))
changed_some p q f is l at = by_path (is_path q p) refl
  where
    by_path : (b : Bool) → is_path q p ≡ b → (m : Linked) × (linked_at q is ≡ Some m) × ((l ≡ m) ⊎ ((q ≡ p) × (l ≡ with_outlets f m)))
    by_path true here =
        let same : q ≡ p = path_is q p here in
        let was = some_changed f (linked_at p is) l (sym (changed_here p f is) ∙ (ap (λ (x : List ℕ). linked_at x (outlets_changed p f is)) (sym same) ∙ at)) in
        (was.0, ap (λ (x : List ℕ). linked_at x is) same ∙ was.1, inr (same, was.2))
    by_path false off = (l, sym (changed_other p f is q off) ∙ at, inl refl)

pub unlinked_some : (holder p q : List ℕ) (is : Instances) (l : Linked) → linked_at q (unlinked holder p is) ≡ Some l
    → (m : Linked) × (linked_at q is ≡ Some m) × ((l ≡ m) ⊎ ((q ≡ holder) × (l ≡ with_outlets (body_gone p) m)))
unlinked_some holder p q is l at = changed_some holder q (body_gone p) is l (kept_some (λ (x : List ℕ). not (begins p x)) (outlets_changed holder (body_gone p) is) q l at)

pub unlinked_here : (holder p : List ℕ) (is : Instances) (l : Linked) → linked_at holder (unlinked holder p is) ≡ Some l → (m : Linked) × (linked_at holder is ≡ Some m) × (l ≡ with_outlets (body_gone p) m)
unlinked_here holder p is l at =
    some_changed (body_gone p) (linked_at holder is) l
    (sym (changed_here holder (body_gone p) is) ∙ kept_some (λ (x : List ℕ). not (begins p x)) (outlets_changed holder (body_gone p) is) holder l at)

-- ---- a key that leads to a site after that did so before

without_found : (p q : List ℕ) (inner : Inners) → lookup (is_path q) (inner_without p inner) ≡ cond (not (begins p q)) (lookup (is_path q) inner) None
without_found p q inner = lookup-filter-keys (is_path q) (λ (r : List ℕ). not (begins p r)) (not (begins p q)) (λ r same. ap (λ (x : List ℕ). not (begins p x)) (sym (path_is q r same))) inner

without_path : (p q : List ℕ) (inner : Inners) (b : Bool) → begins p q ≡ b → instance_path (inner_without p inner) q ≡ unwrap_or (cond (not b) (lookup (is_path q) inner) None) q
without_path p q inner b e = ap (λ (o : Option (List ℕ)). unwrap_or o q) (without_found p q inner ∙ ap (λ (c : Bool). cond (not c) (lookup (is_path q) inner) None) e)

same_sites : (f : List OutletState → List OutletState) (holder q : List ℕ) (k : Key) (l m : Linked) → (l ≡ m) ⊎ ((q ≡ holder) × (l ≡ with_outlets f m)) → is_site_in (Some l) k ≡ true → is_site_in (Some m) k ≡ true
same_sites f holder q k l m (inl same) i = ap (λ (x : Linked). is_site_in (Some x) k) (sym same) ∙ i
same_sites f holder q k l m (inr two) i = ap (λ (x : Linked). is_site_in (Some x) k) (sym two.1) ∙ i

pub cut_leads : (holder p : List ℕ) (inner : Inners) (is : Instances) (k : Key) → is_site (inner_without p inner) (unlinked holder p is) k ≡ true → is_site inner is k ≡ true
cut_leads holder p inner is k on = by_begins (begins p k.path) refl
  where
    cut : Instances
    cut = unlinked holder p is

    by_found : (o : Option Linked) → linked_at (instance_path inner k.path) cut ≡ o → is_site_in o k ≡ true → is_site inner is k ≡ true
    by_found None e i = absurd (cc)
    by_found (Some l) e i =
        let was = unlinked_some holder p (instance_path inner k.path) is l e in
        ap (λ (o : Option Linked). is_site_in o k) was.1 ∙ same_sites (body_gone p) holder (instance_path inner k.path) k l was.0 was.2 i

    by_begins : (b : Bool) → begins p k.path ≡ b → is_site inner is k ≡ true
    by_begins true b =
        let none : linked_at k.path cut ≡ None = kept_none (λ (x : List ℕ). not (begins p x)) (outlets_changed holder (body_gone p) is) k.path (ap not b) in
        let two : false ≡ true = sym (ap (λ (q : List ℕ). is_site_in (linked_at q cut) k) (without_path p k.path inner true b) ∙ ap (λ (o : Option Linked). is_site_in o k) none) ∙ on in
        absurd (cc)
    by_begins false b =
        by_found (linked_at (instance_path inner k.path) cut) refl (ap (λ (q : List ℕ). is_site_in (linked_at q cut) k) (sym (without_path p k.path inner false b)) ∙ on)

-- and to the instance that it led to
pub cut_path : (holder p : List ℕ) (inner : Inners) (is : Instances) (k : Key) → is_site (inner_without p inner) (unlinked holder p is) k ≡ true → instance_path (inner_without p inner) k.path ≡ instance_path inner k.path
cut_path holder p inner is k on = by_begins (begins p k.path) refl
  where
    cut : Instances
    cut = unlinked holder p is

    by_begins : (b : Bool) → begins p k.path ≡ b → instance_path (inner_without p inner) k.path ≡ instance_path inner k.path
    by_begins true b =
        let none : linked_at k.path cut ≡ None = kept_none (λ (x : List ℕ). not (begins p x)) (outlets_changed holder (body_gone p) is) k.path (ap not b) in
        let two : false ≡ true = sym (ap (λ (q : List ℕ). is_site_in (linked_at q cut) k) (without_path p k.path inner true b) ∙ ap (λ (o : Option Linked). is_site_in o k) none) ∙ on in
        absurd (cc)
    by_begins false b = without_path p k.path inner false b

-- ---- it stays watched

linked_gone : (c : act.State) (leads : Key → Bool) (t : Table) (p q : List ℕ) (m : Linked) → IsLinked c leads t q m → IsLinked c leads t q (with_outlets (body_gone p) m)
linked_gone c leads t p q m h = record {
  path = h.path;
  scope = h.scope;
  there = h.there;
  inner = h.inner;
  bounds = h.bounds;
  count = h.count;
  below = h.below;
  rising = h.rising;
  sites = h.sites;
  watched = h.watched;
  outlets = gone_outlets p m.page.serials m.fragment.outlets m.page.outlets h.outlets;
  rounds = all_mapped (IsRound c.scopes m.page.bounds) (IsRound c.scopes m.page.bounds) (without_body p) m.page.outlets
      (λ x r. record { scope = r.scope; outsides = r.outsides; bodies = filter_all p (IsChild c.scopes x.scope) x.bodies r.bodies; unbound = r.unbound }) h.rounds;
  once = λ r. let fewer = gone_count p r m.page.outlets in let one = h.once r in omega (arith, fewer, one);
}

paths_gone : (holder p : List ℕ) (is : Instances) → IsStrictlySortedBy path_cmp (keys_of is) → IsStrictlySortedBy path_cmp (keys_of (unlinked holder p is))
paths_gone holder p is o =
    filter_sorted path_cmp path_cmp_total (λ (e : List ℕ × Linked). not (begins p e.0)) (outlets_changed holder (body_gone p) is)
    (subst (IsStrictlySortedBy path_cmp) (sym (changed_keys holder (body_gone p) is)) o)

pub unlinked_apart : (holder p : List ℕ) (is : Instances) → NumbersDiffer is → NumbersDiffer (unlinked holder p is)
unlinked_apart holder p is apart q r l m n at bt one two = by_both (unlinked_some holder p q is l at) (unlinked_some holder p r is m bt)
  where
    number_was : (x : List ℕ) (y z : Linked) → (y ≡ z) ⊎ ((x ≡ holder) × (y ≡ with_outlets (body_gone p) z)) → is_site_of y.page n ≡ true → is_site_of z.page n ≡ true
    number_was x y z (inl same) i = ap (λ (w : Linked). is_site_of w.page n) (sym same) ∙ i
    number_was x y z (inr here) i = ap (λ (w : Linked). is_site_of w.page n) (sym here.1) ∙ i

    by_both : (y : Linked) × (linked_at q is ≡ Some y) × ((l ≡ y) ⊎ ((q ≡ holder) × (l ≡ with_outlets (body_gone p) y)))
        → (z : Linked) × (linked_at r is ≡ Some z) × ((m ≡ z) ⊎ ((r ≡ holder) × (m ≡ with_outlets (body_gone p) z))) → q ≡ r
    by_both (y, there, a) (z, here, b) = apart q r y z n there here (number_was q l y a one) (number_was r m z b two)

pub unlinked_watched : (holder p : List ℕ) (s : State) → IsWatched s → IsWatched (unlinked_at holder p s)
unlinked_watched holder p s h =
    let t : State = left_at p s in
    let k : IsWatched t = watched_stays s t (left_sites p s) h in
    record {
      linked = λ q l at. by_place q l k.linked (unlinked_some holder p q s.instances l at);
      apart = unlinked_apart holder p s.instances h.apart;
      paths = paths_gone holder p s.instances h.paths;
      keys = k.keys;
      tree = k.tree;
      templates = k.templates;
    }
  where
    still : Key → Bool
    still = leads_in (unlinked_at holder p s)

    fewer : (q : List ℕ) (m : Linked) → IsLinked s.core (leads_in s) (left_at p s).watchers q m → IsLinked s.core still (left_at p s).watchers q m
    fewer q m h =
        linked_stays s.core s.core (leads_in s) still (left_at p s).watchers (left_at p s).watchers q m (scopes_refl s.core.scopes) (omega arith)
        (λ j n v there on. (cut_leads holder p s.inner s.instances (key_in m.page n) on, λ w. w)) h

    by_place : (q : List ℕ) (l : Linked) → ((x : List ℕ) (m : Linked) → linked_at x s.instances ≡ Some m → IsLinked s.core (leads_in s) (left_at p s).watchers x m)
        → (m : Linked) × (linked_at q s.instances ≡ Some m) × ((l ≡ m) ⊎ ((q ≡ holder) × (l ≡ with_outlets (body_gone p) m))) → IsLinked s.core still (left_at p s).watchers q l
    by_place q l k (m, at, inl same) = subst (IsLinked s.core still (left_at p s).watchers q) (sym same) (fewer q m (k q m at))
    by_place q l k (m, at, inr here) = subst (IsLinked s.core still (left_at p s).watchers q) (sym here.1) (linked_gone s.core still (left_at p s).watchers p q m (fewer q m (k q m at)))

-- ---- and fits

fits_gone : (leads : Key → Bool) (t : Table) (ks : List Key) (p : List ℕ) (keys : ℕ → Key) (serials : List ℕ) (os : List Outlet) (x : OutletState) → OutletFits leads t ks keys serials os x
    → (IsOut ks (keys x.serial) → body_count p x.bodies ≡ 0) → OutletFits leads t ks keys serials os (without_body p x)
fits_gone leads t ks p keys serials os x fit none site on w e out = calls_same (cases_under serials os x.serial) w.kept x (without_body p x) refl (filter_none p x.bodies (none out)) (fit site on w e out)

pub unlinked_fits : (holder p : List ℕ) (s : State) (ks : List Key) → IsWatched s
    → ((m : Linked) → linked_at holder s.instances ≡ Some m → AllByRecursion (λ (x : OutletState). IsOut ks (key_in m.page x.serial) → body_count p x.bodies ≡ 0) m.page.outlets)
    → Fits ks s → Fits ks (unlinked_at holder p s)
unlinked_fits holder p s ks h none fits q l at = by_place (unlinked_some holder p q s.instances l at)
  where
    still : Key → Bool
    still = leads_in (unlinked_at holder p s)

    left : Table
    left = (left_at p s).watchers

    -- what fits of an instance that stands
    fit_still : (x : List ℕ) (m : Linked) → linked_at x s.instances ≡ Some m → AllByRecursion (OutletFits still left ks (site_keys m.page) m.page.serials m.fragment.outlets) m.page.outlets
    fit_still x m at =
        all_map (OutletFits (leads_in s) left ks (site_keys m.page) m.page.serials m.fragment.outlets) (OutletFits still left ks (site_keys m.page) m.page.serials m.fragment.outlets) m.page.outlets
        (λ y fit site on w e out. fit site (cut_leads holder p s.inner s.instances (key_in m.page y.serial) on) w e out) (fits_stays s (left_at p s) ks (left_sites p s) h.keys fits x m at)

    changed : (m : Linked) → linked_at holder s.instances ≡ Some m → AllByRecursion (OutletFits still left ks (site_keys m.page) m.page.serials m.fragment.outlets) (body_gone p m.page.outlets)
    changed m at =
        all_mapped (λ (x : OutletState). OutletFits still left ks (site_keys m.page) m.page.serials m.fragment.outlets x × (IsOut ks (key_in m.page x.serial) → body_count p x.bodies ≡ 0))
        (OutletFits still left ks (site_keys m.page) m.page.serials m.fragment.outlets) (without_body p) m.page.outlets
        (λ x two. fits_gone still left ks p (site_keys m.page) m.page.serials m.fragment.outlets x two.0 two.1)
        (all_both (OutletFits still left ks (site_keys m.page) m.page.serials m.fragment.outlets) (λ (x : OutletState). IsOut ks (key_in m.page x.serial) → body_count p x.bodies ≡ 0)
        (λ (x : OutletState). OutletFits still left ks (site_keys m.page) m.page.serials m.fragment.outlets x × (IsOut ks (key_in m.page x.serial) → body_count p x.bodies ≡ 0)) m.page.outlets
        (λ x f g. (f, g)) (fit_still holder m at) (none m at))

    by_place : (m : Linked) × (linked_at q s.instances ≡ Some m) × ((l ≡ m) ⊎ ((q ≡ holder) × (l ≡ with_outlets (body_gone p) m)))
        → AllByRecursion (OutletFits still left ks (site_keys l.page) l.page.serials l.fragment.outlets) l.page.outlets
    by_place (m, at, inl same) = subst (λ (n : Linked). AllByRecursion (OutletFits still left ks (site_keys n.page) n.page.serials n.fragment.outlets) n.page.outlets) (sym same) (fit_still q m at)
    by_place (m, at, inr here) =
        subst (λ (n : Linked). AllByRecursion (OutletFits still left ks (site_keys n.page) n.page.serials n.fragment.outlets) n.page.outlets) (sym here.1)
        (changed m (subst (λ (x : List ℕ). linked_at x s.instances ≡ Some m) here.0 at))

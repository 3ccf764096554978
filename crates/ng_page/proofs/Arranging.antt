-- The bodies of an outlet are arranged: what is linked stays watched, and all other blocks have the bodies that they call for.
use Rattle.std.proofs.Common.{◌≡◌, ◌⊎◌, inl, inr, ◌≤◌, ℕ, true, false, List, Option, Some, None, refl, ap, sym, subst, ◌∙◌, slice_get, arith}
use Rattle.std.specs.List.{AllByRecursion, list_any}
use Rattle.std.specs.List.Sorted.{IsStrictlySortedBy}
use Rattle.ng_base.specs.Order.{path_cmp}
use Rattle.ng_base.specs.Views.{ViewTree}
use Rattle.ng_base.specs.declared.path.Key.{Key}
use Rattle.ng_link.specs.Calls.{arranged_at}
use Rattle.ng_instances.specs.Instances.{Body, OutletState, Linked, linked_at, key_in, is_site_of, is_site_in, instance_path, with_outlets, bodies_arranged}
use Rattle.ng_link.specs.Standing.{held_count}
use Rattle.ng_link.specs.State.{State}
use Rattle.ng_link.proofs.Lookups.{changed_keys, changed_here}
use Rattle.ng_behaviour.specs.Keys.{is_key}
use Rattle.ng_watch.specs.Seen.{Watcher}
use Rattle.ng_watch.specs.Table.{found}
use Rattle.ng_commands.specs.Settled.{site_keys, IsChild, IsRound, IsLinked, leads_in, NumbersDiffer, OutletFits, IsWatched, Fits}
use Rattle.ng_page.proofs.Altered.{arranged_all, arranged_outlets}
use Rattle.ng_commands.proofs.ScopesStay.{scopes_refl}
use Rattle.ng_page.proofs.Under.{IsUnder, IsOfSite, not_asked}
use Rattle.ng_page.proofs.Unlinking.{some_changed, changed_some}
use Rattle.ng_commands.proofs.Watched.{all_map, linked_stays}

-- bodies that may stand in an outlet of an instance
pub record MayStand (s : State) (o : ℕ) (bs : List Body) (m : Linked) : Type 0 where
  pub children : (x : OutletState) → slice_get m.page.outlets o ≡ Some x → AllByRecursion (IsChild s.core.scopes x.scope) bs
  pub once : (q : List ℕ) → held_count q (bodies_arranged o bs m.page.outlets) ≤ 1

module _ (holder : List ℕ) (o : ℕ) (bs : List Body) (s : State) where
  abbrev now : State
  now = arranged_at holder o bs s

  abbrev ArrangedFrom : List ℕ → Linked → Linked → Type 0
  ArrangedFrom q l m = (l ≡ m) ⊎ ((q ≡ holder) × (l ≡ with_outlets (bodies_arranged o bs) m))

  abbrev Was : List ℕ → Linked → Type 0
  Was q l = (m : Linked) × (linked_at q s.instances ≡ Some m) × ArrangedFrom q l m

  -- what is found then
  arranged_some : (q : List ℕ) (l : Linked) → linked_at q now.instances ≡ Some l → Was q l
  arranged_some q l at = changed_some holder q (bodies_arranged o bs) s.instances l at

  pub arranged_here : (l : Linked) → linked_at holder (arranged_at holder o bs s).instances ≡ Some l → (m : Linked) × (linked_at holder s.instances ≡ Some m) × (l ≡ with_outlets (bodies_arranged o bs) m)
  arranged_here l at = some_changed (bodies_arranged o bs) (linked_at holder s.instances) l (sym (changed_here holder (bodies_arranged o bs) s.instances) ∙ at)

  -- it has the sites that it had
  was_site : (q : List ℕ) (l m : Linked) (n : ℕ) → ArrangedFrom q l m → is_site_of l.page n ≡ true → is_site_of m.page n ≡ true
  was_site q l m n (inl same) site = ap (λ (x : Linked). is_site_of x.page n) (sym same) ∙ site
  was_site q l m n (inr here) site = ap (λ (x : Linked). is_site_of x.page n) (sym here.1) ∙ site

  pub arranged_leads : (k : Key) → leads_in (arranged_at holder o bs s) k ≡ true → leads_in s k ≡ true
  arranged_leads k on = by_found (linked_at (instance_path s.inner k.path) now.instances) refl on
    where
      by_was : (l : Linked) → Was (instance_path s.inner k.path) l → is_site_of l.page k.serial.0 ≡ true → leads_in s k ≡ true
      by_was l (m, at, from) site = ap (λ (x : Option Linked). is_site_in x k) at ∙ was_site (instance_path s.inner k.path) l m k.serial.0 from site

      by_found : (x : Option Linked) → linked_at (instance_path s.inner k.path) now.instances ≡ x → is_site_in x k ≡ true → leads_in s k ≡ true
      by_found None e site = absurd (cc)
      by_found (Some l) e site = by_was l (arranged_some (instance_path s.inner k.path) l e) site

  still_linked : (q : List ℕ) (m : Linked) → IsLinked s.core (leads_in s) s.watchers q m → IsLinked s.core (leads_in now) s.watchers q m
  still_linked q m h =
      linked_stays s.core s.core (leads_in s) (leads_in now) s.watchers s.watchers q m (scopes_refl s.core.scopes) (omega arith) (λ j n v there on. (arranged_leads (key_in m.page n) on, λ watches. watches)) h

  linked_arranged : (q : List ℕ) (m : Linked) → MayStand s o bs m → IsLinked s.core (leads_in now) s.watchers q m → IsLinked s.core (leads_in now) s.watchers q (with_outlets (bodies_arranged o bs) m)
  linked_arranged q m may h = record {
    path = h.path;
    scope = h.scope;
    there = h.there;
    inner = h.inner;
    bounds = h.bounds;
    count = h.count;
    below = h.below;
    rising = h.rising;
    sites = h.sites;
    watched = h.watched;
    outlets = arranged_outlets o bs m.page.serials m.fragment.outlets m.page.outlets h.outlets;
    rounds = arranged_all (IsRound s.core.scopes m.page.bounds) o bs m.page.outlets (λ x at r. record { scope = r.scope; outsides = r.outsides; bodies = may.children x at; unbound = r.unbound }) h.rounds;
    once = may.once;
  }

  arranged_apart : NumbersDiffer s.instances → NumbersDiffer now.instances
  arranged_apart apart p q l m n at bt one two = by_both (arranged_some p l at) (arranged_some q m bt)
    where
      by_both : Was p l → Was q m → p ≡ q
      by_both (x, there, from) (y, here, come) = apart p q x y n there here (was_site p l x n from one) (was_site q m y n come two)

  arranged_watched : ((m : Linked) → linked_at holder s.instances ≡ Some m → MayStand s o bs m) → IsWatched s → IsWatched (arranged_at holder o bs s)
  arranged_watched may h = record {
    linked = λ q l at. by_place q l (arranged_some q l at);
    apart = arranged_apart h.apart;
    paths = subst (IsStrictlySortedBy path_cmp) (sym (changed_keys holder (bodies_arranged o bs) s.instances)) h.paths;
    keys = h.keys;
    tree = h.tree;
    templates = h.templates;
  }
    where
      by_place : (q : List ℕ) (l : Linked) → Was q l → IsLinked s.core (leads_in now) s.watchers q l
      by_place q l (m, at, inl same) = subst (IsLinked s.core (leads_in now) s.watchers q) (sym same) (still_linked q m (h.linked q m at))
      by_place q l (m, at, inr here) =
          subst (IsLinked s.core (leads_in now) s.watchers q) (sym here.1)
          (linked_arranged q m (may m (subst (λ (p : List ℕ). linked_at p s.instances ≡ Some m) here.0 at)) (still_linked q m (h.linked q m at)))

  -- the outlet isn't asked
  arranged_fits : (ks : List Key) → ((m : Linked) (x : OutletState) → linked_at holder s.instances ≡ Some m → slice_get m.page.outlets o ≡ Some x → list_any (is_key (key_in m.page x.serial)) ks ≡ true)
      → Fits ks s → Fits ks (arranged_at holder o bs s)
  arranged_fits ks asked h q l at = by_place (arranged_some q l at)
    where
      Fit : Linked → List OutletState → Type 0
      Fit m xs = AllByRecursion (OutletFits (leads_in now) s.watchers ks (site_keys m.page) m.page.serials m.fragment.outlets) xs

      still : (m : Linked) → linked_at q s.instances ≡ Some m → Fit m m.page.outlets
      still m old =
          all_map (OutletFits (leads_in s) s.watchers ks (site_keys m.page) m.page.serials m.fragment.outlets) (OutletFits (leads_in now) s.watchers ks (site_keys m.page) m.page.serials m.fragment.outlets) m.page.outlets
          (λ x fit site on w e out. fit site (arranged_leads (key_in m.page x.serial) on) w e out) (h q m old)

      by_place : Was q l → Fit l l.page.outlets
      by_place (m, old, inl same) = subst (λ (n : Linked). Fit n n.page.outlets) (sym same) (still m old)
      by_place (m, old, inr here) =
          let there : linked_at holder s.instances ≡ Some m = subst (λ (p : List ℕ). linked_at p s.instances ≡ Some m) here.0 old in
          subst (λ (n : Linked). Fit n n.page.outlets) (sym here.1)
          (arranged_all (OutletFits (leads_in now) s.watchers ks (site_keys m.page) m.page.serials m.fragment.outlets) o bs m.page.outlets
          (λ x get fit site on w e out. let two : true ≡ false = sym (asked m x there get) ∙ out in absurd (cc)) (still m old))

-- ---- in a fire under way

pub under_arranged : (k : Key) (v : ViewTree) (holder : List ℕ) (ks : List Key) (left : list_any (is_key k) ks ≡ true) (o scope : ℕ) (bs : List Body) (s : State) → ((m : Linked) → linked_at holder s.instances ≡ Some m → MayStand s o bs m)
    → IsOfSite k v holder ks left o scope s → IsUnder k v holder ks left s → IsUnder k v holder ks left (arranged_at holder o bs s)
under_arranged k v holder ks left o scope bs s may of u = record {
  watched = arranged_watched holder o bs s may u.watched;
  fits = arranged_fits holder o bs s ks (λ m x at get. not_asked k v holder ks left m x (u.own m at) (of m x at get).0) u.fits;
  low = u.low;
  led = λ on. u.led (arranged_leads holder o bs s k on);
  own = λ m at. by_own m (arranged_here holder o bs s m at);
  keeps = λ m at site on w e. by_kept m site (arranged_leads holder o bs s k on) w e (arranged_here holder o bs s m at);
}
  where
    by_own : (m : Linked) → (l : Linked) × (linked_at holder s.instances ≡ Some l) × (m ≡ with_outlets (bodies_arranged o bs) l) → key_in m.page k.serial.0 ≡ k
    by_own m (l, at, same) = ap (λ (x : Linked). key_in x.page k.serial.0) same ∙ u.own l at

    by_kept : (m : Linked) → is_site_of m.page k.serial.0 ≡ true → leads_in s k ≡ true → (w : Watcher) → found k s.watchers ≡ Some w → (l : Linked) × (linked_at holder s.instances ≡ Some l) × (m ≡ with_outlets (bodies_arranged o bs) l)
        → w.kept ≡ Some v
    by_kept m site on w e (l, at, same) = u.keeps l at (ap (λ (x : Linked). is_site_of x.page k.serial.0) (sym same) ∙ site) on w e

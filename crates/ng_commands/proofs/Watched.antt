-- The sites of what is linked stay watched.
use Rattle.std.proofs.Common.{◌≡◌, ◌<◌, ◌≤◌, ℕ, suc, Bool, true, false, List, [], ◌∷◌, ◌++◌, length, cond, Option, Some, None, refl, ap, sym, subst, ◌∙◌, slice_get, arith}
use Rattle.std.specs.BTreeMap.{is_at}
use Rattle.std.specs.List.{AllByRecursion, list_any}
use Rattle.std.specs.List.Sorted.{IsStrictlySortedBy}
use Rattle.std.specs.Map.{keys_of}
use Rattle.std.specs.Ordering.{nat_cmp}
use Rattle.std.proofs.lemmas.Bool.Decides.{nat_tests}
use Rattle.std.proofs.lemmas.Map.Keys.{any_passes_from_place}
use Rattle.ng_core.specs.State as act
use Rattle.ng_base.specs.Order.{path_cmp}
use Rattle.ng_base.specs.Views.{ViewTree}
use Rattle.ng_base.specs.declared.path.Key.{Key}
use Rattle.ng_behaviour.specs.Scopes.{Scope, object_at, IsScopeTree}
use Rattle.ng_drawing.specs.Template.{Site}
use Rattle.ng_instances.specs.Bindings.{Bound, bound_text, bound_in, bound_both, Bounds, bound_in_table, BoundStands}
use Rattle.ng_link.specs.Calls.{with_core, keeping_at}
use Rattle.ng_instances.specs.Instances.{Body, OutletState, Inner, Page, Linked, Instances, linked_at, key_in, scope_number}
use Rattle.ng_instances.specs.Registering.{mark_in, way_of}
use Rattle.ng_instances.specs.Rows.{watching_site}
use Rattle.ng_link.specs.State.{State}
use Rattle.ng_link.proofs.Inner.{inner_all}
use Rattle.ng_drawing.specs.Named.{Named}
use Rattle.ng_drawing.specs.Numbering.{is_regular}
use Rattle.ng_behaviour.specs.Keys.{key_cmp, is_key}
use Rattle.ng_watch.specs.Seen.{Watching, Watcher}
use Rattle.ng_watch.specs.Table.{Table, found, keeping, with_kept}
use Rattle.ng_commands.specs.Settled.{WatchesAt, site_keys, watching_at, AreWatched, IsInner, IsChild, IsRound, IsLinked, leads_in, IsWatched}
use Rattle.ng_commands.proofs.ScopesStay.{ScopesStay, scopes_refl}
use Rattle.ng_commands.proofs.Sites.{SitesStay, same_site}

-- what holds of all, by one for each
pub all_map : {A : Type 0} (P Q : A → Type 0) (xs : List A) → ((x : A) → P x → Q x) → AllByRecursion P xs → AllByRecursion Q xs
all_map P Q [] f all = tt
all_map P Q (x ∷ xs) f all = (f x all.0, all_map P Q xs f all.1)

pub all_both : {A : Type 0} (P Q R : A → Type 0) (xs : List A) → ((x : A) → P x → Q x → R x) → AllByRecursion P xs → AllByRecursion Q xs → AllByRecursion R xs
all_both P Q R [] f all each = tt
all_both P Q R (x ∷ xs) f all each = (f x all.0 each.0, all_both P Q R xs f all.1 each.1)

-- a number of an instance's sites is that of a site
pub number_there : (ns : List ℕ) (j n : ℕ) → slice_get ns j ≡ Some n → list_any (is_at (nat_cmp n)) ns ≡ true
number_there ns j n at =
    let same : is_at (nat_cmp n) n ≡ true = grind (arith, nat_tests) in
    any_passes_from_place (is_at (nat_cmp n)) ns j n at same

-- the scopes of an instance are there
pub scope_within : (scopes : List Scope) (p : Page) (n : ℕ) → p.scope < length scopes → AllByRecursion (IsInner scopes) p.inner → scope_number p n < length scopes
scope_within scopes p n there all =
    inner_all (λ (i : Inner). i.scope < length scopes) (record { scope = p.scope; path = p.path }) n p.inner there (all_map (IsInner scopes) (λ (i : Inner). i.scope < length scopes) p.inner (λ i h. h.0) all)

-- and those that its bindings write to
bound_stands : (count n : ℕ) (t : Bounds) (b : Bound) → AllByRecursion (λ (e : ℕ × Bound). BoundStands count e.1) t → bound_in_table n t ≡ Some b → BoundStands count b
bound_stands count n [] b all e = absurd (cc)
bound_stands count n (x ∷ t) b all e = by_test (is_at (nat_cmp n) x.0) e (bound_stands count n t b all.1)
  where
    by_test : (c : Bool) → cond c (Some x.1) (bound_in_table n t) ≡ Some b → (bound_in_table n t ≡ Some b → BoundStands count b) → BoundStands count b
    by_test true e more = let same : x.1 ≡ b = cc in subst (BoundStands count) same all.0
    by_test false e more = more e

pub bound_more : (m n : ℕ) → m ≤ n → (b : Bound) → BoundStands m b → BoundStands n b
bound_more m n le (bound_text s w ps) h = omega (arith, le, h)
bound_more m n le (bound_in s w) h = omega (arith, le, h)
bound_more m n le (bound_both s w o p) h = (let one = h.0 in omega (arith, le, one), let two = h.1 in omega (arith, le, two))

abbrev way_from : List ℕ → ℕ → Option (ℕ × List ℕ)
way_from n o = Some (o, n)

same_way : (t u : List Scope) (o : Option Bound) → ScopesStay t u → ((b : Bound) → o ≡ Some b → BoundStands (length t) b) → way_of u o ≡ way_of t o
same_way t u None stay h = refl
same_way t u (Some (bound_text s n ps)) stay h = refl
same_way t u (Some (bound_in s n)) stay h = refl
same_way t u (Some (bound_both s n o w)) stay h = ap (way_from n) (stay.objects s (h (bound_both s n o w) refl).0)

-- so each site is watched over the same objects
pub same_watching : (t u : List Scope) (p : Page) → ScopesStay t u → p.scope < length t → AllByRecursion (IsInner t) p.inner → AllByRecursion (λ (e : ℕ × Bound). BoundStands (length t) e.1) p.bounds
    → (n : ℕ) (x : Site) → watching_at u p n x ≡ watching_at t p n x
same_watching t u p stay there inner bounds n x =
    let scope : ℕ = scope_number p (mark_in p.marks n).over in
    ap (λ (o : ℕ). watching_site o (way_of u (bound_in_table n p.bounds)) x) (stay.objects scope (scope_within t p (mark_in p.marks n).over there inner))
    ∙ ap (λ (w : Option (ℕ × List ℕ)). watching_site (object_at t scope) w x) (same_way t u (bound_in_table n p.bounds) stay (λ b e. bound_stands (length t) n p.bounds b bounds e))

all_stay : (leads still : Key → Bool) (c d : ℕ → Site → Watching) (t u : Table) (keys : ℕ → Key) (ns : List ℕ) (xs : List Site) → ((n : ℕ) (x : Site) → d n x ≡ c n x)
    → ((j n : ℕ) (v : Watching) → slice_get ns j ≡ Some n → still (keys n) ≡ true → (leads (keys n) ≡ true) × (WatchesAt (keys n) v t → WatchesAt (keys n) v u))
    → AreWatched leads t keys c ns xs → AreWatched still u keys d ns xs
all_stay leads still c d t u keys ns [] same each h = tt
all_stay leads still c d t u keys [] (x ∷ xs) same each h = h
all_stay leads still c d t u keys (n ∷ ns) (x ∷ xs) same each h = (
  (λ on. let two = each 0 n (c n x) refl on in subst (λ (v : Watching). WatchesAt (keys n) v u) (sym (same n x)) (two.1 (h.0 two.0))),
  all_stay leads still c d t u keys ns xs same (λ j m v at on. each (suc j) m v at on) h.1,
)

pub child_stays : (t u : List Scope) (s : ℕ) → ScopesStay t u → s < length t → (b : Body) → IsChild t s b → IsChild u s b
child_stays t u s stay there b h = (h.0, (let more = stay.children s there in let under = h.1 in omega (arith, more, under)), h.2 ∙ ap (λ (q : List ℕ). q ++ h.0 ∷ []) (sym (stay.paths s there)))

pub all_more : (m n : ℕ) (ns : List ℕ) → m ≤ n → AllByRecursion (λ (k : ℕ). k < m) ns → AllByRecursion (λ (k : ℕ). k < n) ns
all_more m n ns le all = all_map (λ (k : ℕ). k < m) (λ (k : ℕ). k < n) ns (λ k h. omega (arith, le, h)) all

pub round_stays : (t u : List Scope) (bs : Bounds) → ScopesStay t u → (x : OutletState) → IsRound t bs x → IsRound u bs x
round_stays t u bs stay x r = record {
  scope = let more = stay.more in let there = r.scope in omega (arith, there, more);
  outsides = all_more (length t) (length u) x.outsides stay.more r.outsides;
  bodies = all_map (IsChild t x.scope) (IsChild u x.scope) x.bodies (child_stays t u x.scope stay r.scope) r.bodies;
  unbound = r.unbound;
}

-- an instance stays watched where its sites do
pub linked_stays : (c d : act.State) (leads still : Key → Bool) (t u : Table) (p : List ℕ) (l : Linked) → ScopesStay c.scopes d.scopes → c.serial ≤ d.serial
    → ((j n : ℕ) (v : Watching) → slice_get l.page.serials j ≡ Some n → still (key_in l.page n) ≡ true → (leads (key_in l.page n) ≡ true) × (WatchesAt (key_in l.page n) v t → WatchesAt (key_in l.page n) v u))
    → IsLinked c leads t p l → IsLinked d still u p l
linked_stays c d leads still t u p l stay le each h = record {
  path = h.path;
  scope = stay.paths l.page.scope h.there ∙ h.scope;
  there = let more = stay.more in let there = h.there in omega (arith, there, more);
  inner = all_map (IsInner c.scopes) (IsInner d.scopes) l.page.inner (λ i two. ((let more = stay.more in let there = two.0 in omega (arith, there, more)), stay.paths i.scope two.0 ∙ two.1)) h.inner;
  bounds = all_map (λ (e : ℕ × Bound). BoundStands (length c.scopes) e.1) (λ (e : ℕ × Bound). BoundStands (length d.scopes) e.1) l.page.bounds (λ e one. bound_more (length c.scopes) (length d.scopes) stay.more e.1 one) h.bounds;
  count = h.count;
  below = all_more c.serial d.serial l.page.serials le h.below;
  rising = h.rising;
  sites = h.sites;
  watched = all_stay leads still (watching_at c.scopes l.page) (watching_at d.scopes l.page) t u (site_keys l.page) l.page.serials l.fragment.sites (same_watching c.scopes d.scopes l.page stay h.there h.inner h.bounds) each h.watched;
  outlets = h.outlets;
  rounds = all_map (IsRound c.scopes l.page.bounds) (IsRound d.scopes l.page.bounds) l.page.outlets (round_stays c.scopes d.scopes l.page.bounds stay) h.rounds;
  once = h.once;
}

pub watched_stays : (s t : State) → SitesStay s t → IsWatched s → IsWatched t
watched_stays s t stay h = record {
  linked = λ p l at.
      let here : linked_at p s.instances ≡ Some l = ap (linked_at p) (sym stay.instances) ∙ at in
      linked_stays s.core t.core (leads_in s) (leads_in t) s.watchers t.watchers p l stay.core.scopes stay.core.serial
      (λ j n v there on.
      let was : leads_in s (key_in l.page n) ≡ true = sym (same_site s t stay.instances stay.inner (key_in l.page n)) ∙ on in
      (was, λ watches w e. watches w (stay.found h.keys (key_in l.page n) w was e))) (h.linked p l here);
  apart = λ p q l m n at bt. h.apart p q l m n (ap (linked_at p) (sym stay.instances) ∙ at) (ap (linked_at q) (sym stay.instances) ∙ bt);
  paths = subst (λ (is : Instances). IsStrictlySortedBy path_cmp (keys_of is)) (sym stay.instances) h.paths;
  keys = stay.keys h.keys;
  tree = stay.core.tree h.tree;
  templates = subst (λ (ts : List Named). AllByRecursion (λ (t : Named). is_regular t.1 ≡ true) ts) (sym stay.templates) h.templates;
}

-- a watcher that keeps something watches what it watched
pub kept_found : (j : Key) (o : Option ViewTree) (k : Key) (t : Table) (w : Watcher) → found k (with_kept j o t) ≡ Some w → (v : Watcher) × (found k t ≡ Some v) × (v.watch ≡ w.watch)
kept_found j o k [] w e = absurd (cc)
kept_found j o k (x ∷ t) w e = by_test (is_key j x.0) e (kept_found j o k t w)
  where
    by_key : (b : Bool) → cond b (Some (keeping o x.1)) (found k t) ≡ Some w → (v : Watcher) × (cond b (Some x.1) (found k t) ≡ Some v) × (v.watch ≡ w.watch)
    by_key true e = (x.1, refl, let same : keeping o x.1 ≡ w = cc in ap (λ (y : Watcher). y.watch) same)
    by_key false e = (w, e, refl)

    by_later : (b : Bool) → cond b (Some x.1) (found k (with_kept j o t)) ≡ Some w → (found k (with_kept j o t) ≡ Some w → (v : Watcher) × (found k t ≡ Some v) × (v.watch ≡ w.watch))
        → (v : Watcher) × (cond b (Some x.1) (found k t) ≡ Some v) × (v.watch ≡ w.watch)
    by_later true e more = (x.1, refl, let same : x.1 ≡ w = cc in ap (λ (y : Watcher). y.watch) same)
    by_later false e more = more e

    by_test : (b : Bool) → found k (cond b ((x.0, keeping o x.1) ∷ t) (x ∷ with_kept j o t)) ≡ Some w → (found k (with_kept j o t) ≡ Some w → (v : Watcher) × (found k t ≡ Some v) × (v.watch ≡ w.watch))
        → (v : Watcher) × (found k (x ∷ t) ≡ Some v) × (v.watch ≡ w.watch)
    by_test true e more = by_key (is_key k x.0) e
    by_test false e more = by_later (is_key k x.0) e more

pub kept_keys : (j : Key) (o : Option ViewTree) (t : Table) → keys_of (with_kept j o t) ≡ keys_of t
kept_keys j o [] = refl
kept_keys j o (x ∷ t) = by_test (is_key j x.0) (kept_keys j o t)
  where
    by_test : (b : Bool) → keys_of (with_kept j o t) ≡ keys_of t → keys_of (cond b ((x.0, keeping o x.1) ∷ t) (x ∷ with_kept j o t)) ≡ keys_of (x ∷ t)
    by_test true more = refl
    by_test false more = ap (λ (ks : List Key). x.0 ∷ ks) more

pub kept_watched : (j : Key) (o : Option ViewTree) (s : State) → IsWatched s → IsWatched (record s { watchers = with_kept j o s.watchers })
kept_watched j o s h = record {
  linked = λ p l at.
      linked_stays s.core s.core (leads_in s) (leads_in s) s.watchers (with_kept j o s.watchers) p l (scopes_refl s.core.scopes) (omega arith)
      (λ i n v there on. (on, λ watches w e. let was = kept_found j o (key_in l.page n) s.watchers w e in sym was.2 ∙ watches was.0 was.1)) (h.linked p l at);
  apart = h.apart;
  paths = h.paths;
  keys = subst (IsStrictlySortedBy key_cmp) (sym (kept_keys j o s.watchers)) h.keys;
  tree = h.tree;
  templates = h.templates;
}

-- a control drops what was typed meanwhile
pub keeping_watched : (k : Key) (v : ViewTree) (s : State) → IsWatched s → IsWatched (keeping_at k v s)
keeping_watched k v s h = let g = kept_watched k (Some v) s h in record { linked = g.linked; apart = g.apart; paths = g.paths; keys = g.keys; tree = g.tree; templates = g.templates }

-- a core with the same scopes or more, where no number of registration is given anew
pub watched_core : (s : State) (c : act.State) → ScopesStay s.core.scopes c.scopes → s.core.serial ≤ c.serial → (IsScopeTree s.core.scopes → IsScopeTree c.scopes) → IsWatched s → IsWatched (with_core c s)
watched_core s c scopes le tree h = record {
  linked = λ p l at. linked_stays s.core c (leads_in s) (leads_in s) s.watchers s.watchers p l scopes le (λ j n v there on. (on, λ w. w)) (h.linked p l at);
  apart = h.apart;
  paths = h.paths;
  keys = h.keys;
  tree = tree h.tree;
  templates = h.templates;
}

-- What leaves the watchers of sites as they are, or takes them out.
use Rattle.std.proofs.Common.{◌≡◌, ℕ, Bool, true, false, List, cond, Option, Some, None, refl, ap, sym, subst, ◌∙◌, not}
use Rattle.std.specs.BTreeMap.{insert_entry}
use Rattle.std.specs.List.{filter}
use Rattle.std.specs.List.Sorted.{IsStrictlySortedBy}
use Rattle.std.specs.Map.{keys_of, remove_entry}
use Rattle.ng_core.specs.State as act
use Rattle.ng_base.specs.declared.path.Key.{Key}
use Rattle.ng_link.specs.Calls.{with_core, declared_at, undeclared_at, left_at, ended_at}
use Rattle.ng_instances.specs.Instances.{Instances, Inners, is_site}
use Rattle.ng_link.specs.State.{State, Listening}
use Rattle.ng_link.proofs.Sorted.{insert_sorted, filter_sorted, remove_sorted}
use Rattle.ng_build.proofs.Tables.{put-other, removed-other, passed, found_filtered}
use Rattle.ng_watch.specs.Ended.{is_over}
use Rattle.ng_behaviour.specs.Keys.{key_cmp, key_cmp_total, is_key, begins}
use Rattle.ng_watch.specs.Seen.{Watching, Watcher}
use Rattle.ng_watch.specs.Table.{Table, found, with_watch, without_watch}
use Rattle.ng_commands.proofs.EventsStay.{part, Stays, stays_refl, stays_trans}

-- watchers in key order
abbrev pub InKeys : Table → Type 0
InKeys t = IsStrictlySortedBy key_cmp (keys_of t)

-- what is found among the watchers that pass a test was found
passed_some : (p : Key × Watcher → Bool) (k : Key) (o : Option Watcher) (w : Watcher) → passed p k o ≡ Some w → o ≡ Some w
passed_some p k None w e = absurd (cc)
passed_some p k (Some v) w e = by_test (p (k, v)) e
  where
    by_test : (b : Bool) → cond b (Some v) None ≡ Some w → Some v ≡ Some w
    by_test true e = e
    by_test false e = absurd (cc)

filter_found : (p : Key × Watcher → Bool) (t : Table) → InKeys t → (k : Key) (w : Watcher) → found k (filter p t) ≡ Some w → found k t ≡ Some w
filter_found p t o k w e = passed_some p k (found k t) w (sym (found_filtered p k t o) ∙ e)

-- What a step leaves: what is linked, with the scopes that belong to it, and the templates; no site gets a watcher or keeps another value; a fault that
-- was handed over; each scope's path and object.
pub record SitesStay (s t : State) : Type 0 where
  pub instances : t.instances ≡ s.instances
  pub inner : t.inner ≡ s.inner
  pub templates : t.templates ≡ s.templates
  pub keys : InKeys s.watchers → InKeys t.watchers
  pub found : InKeys s.watchers → (k : Key) (w : Watcher) → is_site s.inner s.instances k ≡ true → found k t.watchers ≡ Some w → found k s.watchers ≡ Some w
  pub core : Stays (part s.core) (part t.core)

pub sites_refl : (s : State) → SitesStay s s
sites_refl s = record { instances = refl; inner = refl; templates = refl; keys = λ o. o; found = λ o k w i e. e; core = stays_refl (part s.core) }

-- the same keys lead to sites then
pub same_site : (s t : State) → t.instances ≡ s.instances → t.inner ≡ s.inner → (k : Key) → is_site t.inner t.instances k ≡ is_site s.inner s.instances k
same_site s t is inner k = ap (λ (x : Instances). is_site t.inner x k) is ∙ ap (λ (x : Inners). is_site x s.instances k) inner

pub sites_trans : (s t u : State) → SitesStay s t → SitesStay t u → SitesStay s u
sites_trans s t u a b = record {
  instances = b.instances ∙ a.instances;
  inner = b.inner ∙ a.inner;
  templates = b.templates ∙ a.templates;
  keys = λ o. b.keys (a.keys o);
  found = λ o k w i e. a.found o k w i (b.found (a.keys o) k w (same_site s t a.instances a.inner k ∙ i) e);
  core = stays_trans (part s.core) (part t.core) (part u.core) a.core b.core;
}

pub sites_cond : (b : Bool) (s t : State) → SitesStay s t → SitesStay s (cond b s t)
sites_cond true s t h = sites_refl s
sites_cond false s t h = h

pub core_sites : (s : State) (c : act.State) → Stays (part s.core) (part c) → SitesStay s (with_core c s)
core_sites s c h = record { instances = refl; inner = refl; templates = refl; keys = λ o. o; found = λ o k w i e. e; core = h }

two_keys : (inner : Inners) (is : Instances) (j k : Key) → is_site inner is j ≡ false → is_site inner is k ≡ true → k ≡ j → ⊥
two_keys inner is j k n y e = let h : false ≡ true = sym n ∙ (ap (is_site inner is) (sym e) ∙ y) in absurd (cc)

-- what is done only where a key is no site's
by_site : (b : Bool) (s t : State) → (b ≡ false → SitesStay s t) → SitesStay s (cond b s t)
by_site true s t h = sites_refl s
by_site false s t h = h refl

pub declared_sites : (j : Key) (w : Watching) (l : Listening) (s : State) → SitesStay s (declared_at j w l s)
declared_sites j w l s = by_site (is_site s.inner s.instances j) s (record s { watchers = with_watch j w s.watchers; declared = insert_entry key_cmp s.declared j l })
    (λ n. record {
      instances = refl;
      inner = refl;
      templates = refl;
      keys = λ o. insert_sorted key_cmp key_cmp_total j (record { watch = w; kept = None }) s.watchers o;
      found = λ o k v i e. sym (put-other j k (record { watch = w; kept = None }) s.watchers (two_keys s.inner s.instances j k n i)) ∙ e;
      core = stays_refl (part s.core);
    })

pub undeclared_sites : (j : Key) (s : State) → SitesStay s (undeclared_at j s)
undeclared_sites j s = by_site (is_site s.inner s.instances j) s (record s { watchers = without_watch j s.watchers; declared = remove_entry (is_key j) s.declared })
    (λ n. record {
      instances = refl;
      inner = refl;
      templates = refl;
      keys = λ o. remove_sorted key_cmp key_cmp_total (is_key j) s.watchers o;
      found = λ o k v i e. sym (removed-other j k s.watchers (two_keys s.inner s.instances j k n i)) ∙ e;
      core = stays_refl (part s.core);
    })

-- watchers that pass a test stay, and what rests or is declared doesn't matter
filtered_sites : (p : Key × Watcher → Bool) (s t : State) → t.instances ≡ s.instances → t.inner ≡ s.inner → t.templates ≡ s.templates → t.core ≡ s.core → t.watchers ≡ filter p s.watchers → SitesStay s t
filtered_sites p s t is inner ts c ws = record {
  instances = is;
  inner = inner;
  templates = ts;
  keys = λ o. subst InKeys (sym ws) (filter_sorted key_cmp key_cmp_total p s.watchers o);
  found = λ o k w i e. filter_found p s.watchers o k w (ap (found k) (sym ws) ∙ e);
  core = subst (λ (d : act.State). Stays (part s.core) (part d)) (sym c) (stays_refl (part s.core));
}

pub left_sites : (p : List ℕ) (s : State) → SitesStay s (left_at p s)
left_sites p s = filtered_sites (λ (e : Key × Watcher). not (begins p e.0.path)) s (left_at p s) refl refl refl refl refl

pub ended_sites : (s : State) → SitesStay s (ended_at s)
ended_sites s = filtered_sites (λ (e : Key × Watcher). not (is_over s.core.objects e.1)) s (ended_at s) refl refl refl refl refl

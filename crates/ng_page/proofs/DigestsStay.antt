-- What digests leave of what is linked, and of what was handed over.
use Rattle.std.proofs.Common.{◌≡◌, ℕ, Bool, true, false, List, [], ◌∷◌, cond, Option, Some, None, Result, refl, ap, sym, subst, ◌∙◌, arith}
use Rattle.std.specs.Prelude.{is_some}
use Rattle.ng_core.specs.State as act
use Rattle.ng_base.specs.Views.{ViewTree}
use Rattle.ng_base.specs.declared.path.Key.{Key}
use Rattle.ng_digest.specs.declared.rounds.DigestFault.{DigestFault}
use Rattle.ng_digest.specs.Plain.{Plain, PlainDigests}
use Rattle.ng_fire.specs.SiteFires.{site_fired}
use Rattle.ng_fire.specs.Fires.{fired as fires, fire_of_site, fire_run, fired_by as fired_run, value_at}
use Rattle.ng_changes.specs.Runs.{ran}
use Rattle.ng_settling.specs.Settling as settling
use Rattle.ng_settling.specs.Settling.{unset_all}
use Rattle.ng_link.specs.Calls.{with_core, keeping_at, is_drawn, unset_at}
use Rattle.ng_instances.specs.Instances.{Instances, is_site}
use Rattle.ng_link.specs.State as link
use Rattle.ng_link.specs.Untroubled.{untroubled}
use Rattle.ng_watch.specs.Table.{with_kept, kept_at}
use Rattle.ng_page.specs.PageLaws.{by_test, unset_core}
use Rattle.ng_page.specs.PageMachine.{State, is_told, told_at, handed_on_at, with_faulted, fired_to, fired_by, fired, settled, failed, page_machine, readied}
use Rattle.ng_commands.specs.Settled.{IsWatched, Fits}
use Rattle.ng_act.proofs.Programs.{some_first}
use Rattle.ng_commands.proofs.EventsStay.{part, Less, less_refl, less_trans, less_of, fault_stays}
use Rattle.ng_page.proofs.FiresFit.{fires_fit}
use Rattle.ng_page.proofs.FiresTold.{FireTold, fires_told}
use Rattle.ng_commands.proofs.FitsStay.{fits_stays}
use Rattle.ng_page.proofs.Fitting.{fits_fewer, fits_unset_all}
use Rattle.ng_page.proofs.Keeps.{KeepsEach, digest_keeps, digest_ends}
use Rattle.ng_commands.proofs.ScopesStay.{scopes_refl}
use Rattle.ng_commands.proofs.Sites.{SitesStay, core_sites}
use Rattle.ng_commands.proofs.StepsStay.{ran_sites, finished_sites}
use Rattle.ng_page.proofs.FiresStay.{run_sites}
use Rattle.ng_commands.proofs.Watched.{watched_stays, watched_core, kept_watched}

-- a fire, or none
fire_cases : (P : State → Type 0) (s : State) (k : Key) (o : Option ViewTree) → P s → ((t : ViewTree) → P (fired_to k (fires k t s.works) s)) → P (fired_by k o s)
fire_cases P s k None p q = p
fire_cases P s k (Some t) p q = q t

pub by_fire : (P : State → Type 0) (s : State) (k : Key) → P s → ((t : ViewTree) → P (fired_to k (fires k t s.works) s)) → P (fired s k)
by_fire P s k p q = fire_cases P s k (handed_on_at s k) p q

-- ---- what is linked is watched, and blocks whose fire did not fault have the bodies that they call for

pub record AreFitting (ks : List Key) (s : link.State) : Type 0 where
  pub watched : IsWatched s
  pub fits : Fits ks s

pub fitting_stays : (ks : List Key) (s t : link.State) → SitesStay s t → AreFitting ks s → AreFitting ks t
fitting_stays ks s t stay h = record { watched = watched_stays s t stay h.watched; fits = fits_stays s t ks stay h.watched.keys h.fits }

either_watched : (b : Bool) (s t : link.State) → IsWatched s → IsWatched t → IsWatched (cond b s t)
either_watched true s t h k = h
either_watched false s t h k = k

unset_watched : (ks : List Key) (s : link.State) → IsWatched s → IsWatched (unset_all ks s)
unset_watched [] s h = h
unset_watched (k ∷ ks) s h = unset_watched ks (unset_at k s) (either_watched (is_drawn s k) s (record s { watchers = with_kept k None s.watchers }) h (kept_watched k None s h))

-- at its end all have them, or keep nothing
given_up_fitting : (ks : List Key) (s : link.State) → AreFitting ks s → AreFitting [] (settling.given_up ks s)
given_up_fitting ks s h = record { watched = unset_watched ks s h.watched; fits = fits_unset_all ks s h.watched.apart h.fits }

settled_fitting : (ks : List Key) (s : link.State) → AreFitting ks s → AreFitting [] (settling.settled ks s).0
settled_fitting ks s h = fitting_stays [] (unset_all ks s) (settling.settled ks s).0 (finished_sites (unset_all ks s)) (given_up_fitting ks s h)

fewer_fitting : (ks : List Key) (s : link.State) → AreFitting [] s → AreFitting ks s
fewer_fitting ks s h = record { watched = h.watched; fits = fits_fewer s [] ks (λ k out. refl) h.fits }

abbrev InDigest : State → Type 0
InDigest u = AreFitting u.faulted u.works

fitting_each : KeepsEach page_machine InDigest
fitting_each = record {
  tests = λ t k h. by_test InDigest t k h (λ f. fitting_stays t.faulted t.works (told_at k f t).works (core_sites t.works (act.with_fault f t.works.core) (fault_stays f (part t.works.core))) h);
  fires = λ t k h. by_fire InDigest t k h (λ v. (let g = fires_fit k v t.works t.faulted h.watched h.fits in record { watched = g.watched; fits = g.fits }));
  runs = λ t h. fitting_stays t.faulted t.works (ran t.works) (ran_sites t.works) h;
  settles = λ t h. fewer_fitting t.faulted (settling.settled t.faulted t.works).0 (settled_fitting t.faulted t.works h);
  fails = λ t h. fewer_fitting t.faulted (settling.given_up t.faulted t.works) (given_up_fitting t.faulted t.works h);
}

-- a digest begins without a fault
pub untroubled_fitting : (s : link.State) → AreFitting [] s → AreFitting [] (with_core (untroubled s.core) s)
untroubled_fitting s h = record { watched = watched_core s (untroubled s.core) (scopes_refl s.core.scopes) (omega arith) (λ g. g) h.watched; fits = h.fits }

pub digest_fitting : (s : link.State) (r : Result (ℕ × ℕ) DigestFault) (p : Plain State) → PlainDigests page_machine (readied s) r p → AreFitting [] (with_core (untroubled s.core) s) → AreFitting [] p.state.works
digest_fitting s r p d h =
    digest_ends page_machine InDigest (λ u. AreFitting [] u.works) fitting_each (λ t g. settled_fitting t.faulted t.works g) (λ t g. given_up_fitting t.faulted t.works g) d h

-- ---- what was handed over

-- whether a list has an entry
abbrev pub has_any : {A : Type 0} → List A → Bool
has_any [] = false
has_any (x ∷ xs) = true

-- where the fault of a test was told, or a fire has faulted, one was handed over
abbrev pub HasHandedOver : State → Type 0
HasHandedOver s = is_some s.works.core.handed.first ≡ true

pub record AreTold (s : State) : Type 0 where
  pub tests : (k : Key) → is_told s.told k ≡ true → HasHandedOver s
  pub fires : has_any s.faulted ≡ true → HasHandedOver s

told_stays_with : (s t : State) → t.told ≡ s.told → t.faulted ≡ s.faulted → Less (part s.works.core) (part t.works.core) → AreTold s → AreTold t
told_stays_with s t e f h a = record {
  tests = λ k i. h.some (a.tests k (ap (λ ts. is_told ts k) (sym e) ∙ i));
  fires = λ i. h.some (a.fires (sym (ap has_any f) ∙ i));
}

told_fired : (s : State) (k : Key) (r : link.State × Bool) → FireTold s.works.core r → AreTold s → AreTold (fired_to k r s)
told_fired s k r h a = record {
  tests = λ j i. h.stays.some (a.tests j i);
  fires = λ i. by_fault r.1 refl i;
}
  where
    by_fault : (b : Bool) → r.1 ≡ b → has_any (with_faulted k b s.faulted) ≡ true → is_some r.0.core.handed.first ≡ true
    by_fault true e i = h.told e
    by_fault false e i = h.stays.some (a.fires i)

-- what keeps nothing any more leaves the core
unset_stays : (ks : List Key) (s : link.State) → Less (part s.core) (part (unset_all ks s).core)
unset_stays ks s = subst (λ (c : act.State). Less (part s.core) (part c)) (sym (unset_core ks s)) (less_refl (part s.core))

-- a digest keeps what no program takes back
stays_each : (c : act.State) → KeepsEach page_machine (λ u. Less (part c) (part u.works.core))
stays_each c = record {
  tests = λ t k h. by_test (λ u. Less (part c) (part u.works.core)) t k h
      (λ f. less_trans (part c) (part t.works.core) (part (act.with_fault f t.works.core)) h (less_of (part t.works.core) (part (act.with_fault f t.works.core)) (fault_stays f (part t.works.core))));
  fires = λ t k h. by_fire (λ u. Less (part c) (part u.works.core)) t k h (λ v. less_trans (part c) (part t.works.core) (part (fires k v t.works).0.core) h (fires_told k v t.works).stays);
  runs = λ t h. less_trans (part c) (part t.works.core) (part (ran t.works).core) h (less_of (part t.works.core) (part (ran t.works).core) (ran_sites t.works).core);
  settles = λ t h. less_trans (part c) (part t.works.core) (part (settled t).works.core) h (unset_stays t.faulted t.works);
  fails = λ t h. less_trans (part c) (part t.works.core) (part (failed t).works.core) h (unset_stays t.faulted t.works);
}

pub digest_stays : (s : link.State) (r : Result (ℕ × ℕ) DigestFault) (p : Plain State) → PlainDigests page_machine (readied s) r p → Less (part (untroubled s.core)) (part p.state.works.core)
digest_stays s r p d = digest_keeps page_machine (λ u. Less (part (untroubled s.core)) (part u.works.core)) (stays_each (untroubled s.core)) d (less_refl (part (untroubled s.core)))

-- where nothing is linked, a digest links nothing
bare_fires : (k : Key) (v : ViewTree) (s : link.State) → s.instances ≡ [] → (fires k v s).0.instances ≡ []
bare_fires k v s none =
    ap (λ (b : Bool). (cond b (fire_of_site (site_fired k v (value_at s k) (kept_at k s.watchers) (keeping_at k v s))) (fired_run (fire_run k s) (keeping_at k v s))).0.instances) (ap (λ (is : Instances). is_site s.inner is k) none)
    ∙ ((run_sites k s (keeping_at k v s) refl).instances ∙ none)

unset_one : (b : Bool) (s t : link.State) → t.instances ≡ s.instances → (cond b s t).instances ≡ s.instances
unset_one true s t e = refl
unset_one false s t e = e

unset_instances : (ks : List Key) (s : link.State) → (unset_all ks s).instances ≡ s.instances
unset_instances [] s = refl
unset_instances (k ∷ ks) s = unset_instances ks (unset_at k s) ∙ unset_one (is_drawn s k) s (record s { watchers = with_kept k None s.watchers }) refl

bare_each : KeepsEach page_machine (λ u. u.works.instances ≡ [])
bare_each = record {
  tests = λ t k h. by_test (λ u. u.works.instances ≡ []) t k h (λ f. h);
  fires = λ t k h. by_fire (λ u. u.works.instances ≡ []) t k h (λ v. bare_fires k v t.works h);
  runs = λ t h. (ran_sites t.works).instances ∙ h;
  settles = λ t h. unset_instances t.faulted t.works ∙ h;
  fails = λ t h. unset_instances t.faulted t.works ∙ h;
}

pub digest_bare : (s : link.State) (r : Result (ℕ × ℕ) DigestFault) (p : Plain State) → PlainDigests page_machine (readied s) r p → s.instances ≡ [] → p.state.works.instances ≡ []
digest_bare s r p d none = digest_keeps page_machine (λ u. u.works.instances ≡ []) bare_each d none

told_each : KeepsEach page_machine AreTold
told_each = record {
  tests = λ t k h. by_test AreTold t k h (λ f. record { tests = λ j i. some_first t.works.core.handed.first f; fires = λ i. some_first t.works.core.handed.first f });
  fires = λ t k h. by_fire AreTold t k h (λ v. told_fired t k (fires k v t.works) (fires_told k v t.works) h);
  runs = λ t h. told_stays_with t (record t { works = ran t.works }) refl refl (less_of (part t.works.core) (part (ran t.works).core) (ran_sites t.works).core) h;
  settles = λ t h. told_stays_with t (settled t) refl refl (unset_stays t.faulted t.works) h;
  fails = λ t h. told_stays_with t (failed t) refl refl (unset_stays t.faulted t.works) h;
}

none_told : (k : Key) (P : Type 0) → is_told [] k ≡ true → P
none_told k P e = absurd (cc)

pub told_stays : (s : link.State) (r : Result (ℕ × ℕ) DigestFault) (p : Plain State) → PlainDigests page_machine (readied s) r p → AreTold p.state
told_stays s r p d = digest_keeps page_machine AreTold told_each d (record { tests = λ k e. none_told k (HasHandedOver (readied s)) e; fires = λ e. absurd (cc) })

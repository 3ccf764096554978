-- The watchers of a page meet what the early stop rests on.
use Rattle.std.proofs.Common.{◌≡◌, Bool, true, false, refl, sym, ap, ◌∙◌, List, [], ◌∷◌, ◌||◌, cond, Option, None, Some, Result, Ok, Err}
use Rattle.std.specs.BTreeSet.{insert_key}
use Rattle.std.specs.Cmp.{Equal-is}
use Rattle.std.specs.Ordering.{is_eq, match_ordering, ordering_then, nat_cmp}
use Rattle.std.specs.declared.cmp.Ordering.{Ordering}
use Rattle.std.specs.declared.cmp.Ordering.TheVariants.{Less, Equal, Greater}
use Rattle.std.proofs.lemmas.Cmp.{tied_itself}
use Rattle.std.proofs.lemmas.Map.Lookups.{exact_bytes, exact_unsigned}
use Rattle.ng_core.specs.State as act
use Rattle.ng_base.specs.Order.{path_cmp}
use Rattle.ng_base.specs.declared.fault.Fault.{Fault}
use Rattle.ng_base.specs.declared.path.Key.{Key}
use Rattle.ng_digest.specs.Laws.{HasLaws}
use Rattle.ng_behaviour.specs.Keys.{key_cmp, key_cmp_total, is_key}
use Rattle.ng_watch.specs.Seen.{Watcher}
use Rattle.ng_watch.specs.Table.{found, with_kept}
use Rattle.ng_watch.specs.Verdicts.{Judged, verdict}
use Rattle.ng_changes.specs.Runs.{any_waits}
use Rattle.ng_settling.specs.Settling.{unset_all}
use Rattle.ng_link.specs.Calls.{is_drawn, unset_at}
use Rattle.ng_link.specs.State as link
use Rattle.ng_page.specs.PageMachine.{State, is_told, told_at, tell, tested_of, tested, verdict_of, verdict_at, page_machine}

-- no two keys tie
both_equal : (o p : Ordering) → ordering_then o p ≡ Equal → (o ≡ Equal) × (p ≡ Equal)
both_equal Less p e = cc
both_equal Equal p e = (refl, e)
both_equal Greater p e = cc

pub key_exact : (a b : Key) → key_cmp a b ≡ Equal → a ≡ b
key_exact a b e =
    let same = both_equal (path_cmp a.path b.path) (nat_cmp a.serial.0 b.serial.0) e in
    let p : a.path ≡ b.path = exact_bytes a.path b.path same.0 in
    let n : a.serial.0 ≡ b.serial.0 = exact_unsigned a.serial.0 b.serial.0 same.1 in
    λ i. record { path = p i; serial = record { 0 = n i } }

pub is_itself : (k : Key) → is_key k k ≡ true
is_itself k = ap is_eq (tied_itself key_cmp_total k)

pub key_is : (k q : Key) → is_key k q ≡ true → k ≡ q
key_is k q e = key_exact k q ((Equal-is (key_cmp k q)).0 e)

-- a key that was told is told
or_left : (b c : Bool) → b ≡ true → (b || c) ≡ true
or_left b c e = ap (λ x. x || c) e

or_right : (b c : Bool) → c ≡ true → (b || c) ≡ true
or_right true c e = refl
or_right false c e = e

or_cases : (b c d : Bool) → (c ≡ true → d ≡ true) → (b || c) ≡ true → (b || d) ≡ true
or_cases true c d f e = refl
or_cases false c d f e = f e

pub told_itself : (ts : List Key) (k : Key) → is_told (insert_key key_cmp ts k) k ≡ true
told_itself [] k = or_left (is_key k k) false (is_itself k)
told_itself (x ∷ ts) k = by_order (key_cmp k x) refl (told_itself ts k)
  where
    by_order : (o : Ordering) → key_cmp k x ≡ o → is_told (insert_key key_cmp ts k) k ≡ true → is_told (match_ordering o (k ∷ x ∷ ts) (x ∷ ts) (x ∷ insert_key key_cmp ts k)) k ≡ true
    by_order Less e h = or_left (is_key k k) (is_told (x ∷ ts) k) (is_itself k)
    by_order Equal e h = or_left (is_key k x) (is_told ts k) (ap is_eq e)
    by_order Greater e h = or_right (is_key k x) (is_told (insert_key key_cmp ts k) k) h

pub told_still : (ts : List Key) (k j : Key) → is_told ts j ≡ true → is_told (insert_key key_cmp ts k) j ≡ true
told_still [] k j h = cc
told_still (x ∷ ts) k j h = by_order (key_cmp k x) (told_still ts k j)
  where
    by_order : (o : Ordering) → (is_told ts j ≡ true → is_told (insert_key key_cmp ts k) j ≡ true) → is_told (match_ordering o (k ∷ x ∷ ts) (x ∷ ts) (x ∷ insert_key key_cmp ts k)) j ≡ true
    by_order Less more = or_right (is_key j k) (is_told (x ∷ ts) j) h
    by_order Equal more = h
    by_order Greater more = or_cases (is_key j x) (is_told ts j) (is_told (insert_key key_cmp ts k) j) more h

-- a test that told nothing new, or one whose fault was handed over
abbrev pub quiet : Bool → Result Judged Fault → Bool
quiet told (Ok j) = true
quiet told (Err f) = told

abbrev pub quiet_of : State → Key → Option Watcher → Bool
quiet_of s k None = true
quiet_of s k (Some w) = quiet (is_told s.told k) (verdict s.works.core.objects w)

abbrev pub quiet_at : State → Key → Bool
quiet_at s k = quiet_of s k (found k s.works.watchers)

-- after a test: the state as it was, or with one fault more
pick : (P : State → Type 0) (b : Bool) (s t : State) → P s → P t → P (cond b s t)
pick P true s t p q = p
pick P false s t p q = q

picked : (P : State → Type 0) (k : Key) (s : State) (r : Result Judged Fault) → P s → ((f : Fault) → P (told_at k f s)) → P (tell k r s)
picked P k s (Ok j) p q = p
picked P k s (Err f) p q = pick P (is_told s.told k) s (told_at k f s) p (q f)

told_cases : (P : State → Type 0) (s : State) (k : Key) (o : Option Watcher) → P s → ((f : Fault) → P (told_at k f s)) → P (tested_of k o s)
told_cases P s k None p q = p
told_cases P s k (Some w) p q = picked P k s (verdict s.works.core.objects w) p q

pub by_test : (P : State → Type 0) (s : State) (k : Key) → P s → ((f : Fault) → P (told_at k f s)) → P (tested s k)
by_test P s k p q = told_cases P s k (found k s.works.watchers) p q

quiet_if : (b : Bool) (r : Result Judged Fault) → b ≡ true → quiet b r ≡ true
quiet_if b (Ok j) e = refl
quiet_if b (Err f) e = e

quiet_of_if : (s : State) (k : Key) (o : Option Watcher) → is_told s.told k ≡ true → quiet_of s k o ≡ true
quiet_of_if s k None e = refl
quiet_of_if s k (Some w) e = quiet_if (is_told s.told k) (verdict s.works.core.objects w) e

-- the watcher's own test is quiet then
quiet_told : (s : State) (k : Key) (f : Fault) → quiet_at (told_at k f s) k ≡ true
quiet_told s k f = quiet_of_if (told_at k f s) k (found k s.works.watchers) (told_itself s.told k)

quiet_still : (b c : Bool) (r : Result Judged Fault) → (b ≡ true → c ≡ true) → quiet b r ≡ true → quiet c r ≡ true
quiet_still b c (Ok j) f e = refl
quiet_still b c (Err x) f e = f e

quiet_other : (s : State) (k j : Key) (f : Fault) (o : Option Watcher) → quiet_of s j o ≡ true → quiet_of (told_at k f s) j o ≡ true
quiet_other s k j f None h = refl
quiet_other s k j f (Some w) h = quiet_still (is_told s.told j) (is_told (insert_key key_cmp s.told k) j) (verdict s.works.core.objects w) (told_still s.told k j) h

kept_quiet : (s : State) (k j : Key) → quiet_at s j ≡ true → quiet_at (tested s k) j ≡ true
kept_quiet s k j h = by_test (λ t. quiet_at t j ≡ true) s k h (λ f. quiet_other s k j f (found j s.works.watchers) h)

-- what a test leaves where it is made
quiet_result : (s : State) (k : Key) (w : Watcher) (r : Result Judged Fault) → found k s.works.watchers ≡ Some w → verdict s.works.core.objects w ≡ r → quiet_at (tell k r s) k ≡ true
quiet_result s k w (Ok j) e n = ap (quiet_of s k) e ∙ ap (quiet (is_told s.told k)) n
quiet_result s k w (Err f) e n = split (is_told s.told k) refl
  where
    split : (b : Bool) → is_told s.told k ≡ b → quiet_at (cond b s (told_at k f s)) k ≡ true
    split true t = ap (quiet_of s k) e ∙ ap (quiet (is_told s.told k)) n ∙ t
    split false t = quiet_told s k f

quiet_found : (s : State) (k : Key) (o : Option Watcher) → found k s.works.watchers ≡ o → quiet_at (tested_of k o s) k ≡ true
quiet_found s k None e = ap (quiet_of s k) e
quiet_found s k (Some w) e = quiet_result s k w (verdict s.works.core.objects w) e refl

quiet_now : (s : State) (k : Key) → quiet_at (tested s k) k ≡ true
quiet_now s k = quiet_found s k (found k s.works.watchers) refl

-- a quiet test changes nothing
tell_same : (k : Key) (s : State) (r : Result Judged Fault) → quiet (is_told s.told k) r ≡ true → tell k r s ≡ s
tell_same k s (Ok j) h = refl
tell_same k s (Err f) h = ap (λ b. cond b s (told_at k f s)) h

quiet_same_of : (s : State) (k : Key) (o : Option Watcher) → quiet_of s k o ≡ true → tested_of k o s ≡ s
quiet_same_of s k None h = refl
quiet_same_of s k (Some w) h = tell_same k s (verdict s.works.core.objects w) h

quiet_same : (s : State) (k : Key) → quiet_at s k ≡ true → tested s k ≡ s
quiet_same s k h = quiet_same_of s k (found k s.works.watchers) h

-- and a test that changes nothing is quiet
same_quiet_result : (s : State) (k : Key) (r : Result Judged Fault) → tell k r s ≡ s → quiet (is_told s.told k) r ≡ true
same_quiet_result s k (Ok j) h = refl
same_quiet_result s k (Err f) h = split (is_told s.told k) refl h
  where
    split : (b : Bool) → is_told s.told k ≡ b → cond b s (told_at k f s) ≡ s → is_told s.told k ≡ true
    split true t h = t
    split false t h = ap (λ x. is_told x.told k) (sym h) ∙ told_itself s.told k

same_quiet_of : (s : State) (k : Key) (o : Option Watcher) → tested_of k o s ≡ s → quiet_of s k o ≡ true
same_quiet_of s k None h = refl
same_quiet_of s k (Some w) h = same_quiet_result s k (verdict s.works.core.objects w) h

pub same_quiet : (s : State) (k : Key) → tested s k ≡ s → quiet_at s k ≡ true
same_quiet s k h = same_quiet_of s k (found k s.works.watchers) h

-- a test changes no other test
verdict_told : (s : State) (k : Key) (f : Fault) (o : Option Watcher) → verdict_of (told_at k f s) o ≡ verdict_of s o
verdict_told s k f None = refl
verdict_told s k f (Some w) = refl

-- a watcher that keeps nothing any more leaves the core
core_of_two : (b : Bool) (s t : link.State) → t.core ≡ s.core → (cond b s t).core ≡ s.core
core_of_two true s t e = refl
core_of_two false s t e = e

pub unset_core : (ks : List Key) (s : link.State) → (unset_all ks s).core ≡ s.core
unset_core [] s = refl
unset_core (k ∷ ks) s = unset_core ks (unset_at k s) ∙ core_of_two (is_drawn s k) s (record s { watchers = with_kept k None s.watchers }) refl

pub page_laws : HasLaws page_machine
page_laws = record {
  total = key_cmp_total;
  exact = key_exact;
  same_keys = λ s k n. by_test (λ t. page_machine.keys t ≡ page_machine.keys s) s k refl (λ f. refl);
  same_verdict = λ s k j n. by_test (λ t. verdict_at t j ≡ verdict_at s j) s k refl (λ f. verdict_told s k f (found j s.works.watchers));
  told_once = λ s k n. quiet_same (tested s k) k (quiet_now s k);
  told_before = λ s k j n e. quiet_same (tested s k) j (kept_quiet s k j (same_quiet s j e));
  tasks_stay = λ s. ap (λ (c : act.State). any_waits c.tasks) (unset_core s.faulted s.works);
}

-- Each call keeps what carries the early stop.
use Rattle.std.proofs.Common.{◌≡◌, ◌≢◌, ◌≤◌, ℕ, zero, suc, Bool, true, false, refl, sym, ap, ◌∙◌, subst, arith, Option, Some, None, List, [], ◌∷◌, cond, find, inl, inr, ◌⊎◌, true≢false}
use Rattle.std.specs.Ordering.{is_lt, is_eq}
use Rattle.std.specs.declared.cmp.Ordering.{Ordering}
use Rattle.std.specs.declared.cmp.Ordering.TheVariants.{Less, Equal, Greater}
use Rattle.std.specs.List.{AllByRecursion}
use Rattle.std.specs.List.Sorted.{IsStrictlySortedBy}
use Rattle.ng_digest.specs.Machine.{Machine, Verdict, found_clean, found_dirty, found_faulted, above, next_key, ahead, is_same}
use Rattle.ng_digest.specs.Laws.{HasLaws, InOrder}
use Rattle.ng_digest.specs.Place.{state_tested}
use Rattle.ng_digest.specs.Plain.{Plain, with_state, PlainWalks, plain_end, plain_clean}
use Rattle.ng_digest.specs.Early.{IsIn, IsLive, IsKnownClean, IsCarried}
use Rattle.ng_digest.proofs.Keys.{is_less, first_passes, first_fails, above_both, not_below, fewer_ahead}

passes_at : {K : Type 0} (test : K → Bool) (x k : K) (ks : List K) (b : Bool) → test x ≡ b → find test (x ∷ ks) ≡ Some k → (find test ks ≡ Some k → test k ≡ true) → test k ≡ true
passes_at test x k ks true t e rest = subst (λ y. test y ≡ true) (first_passes test x k ks t e) t
passes_at test x k ks false t e rest = rest (first_fails test x k ks t e)

-- what is found passes
pub found_passes : {K : Type 0} (test : K → Bool) (k : K) (ks : List K) → find test ks ≡ Some k → test k ≡ true
found_passes test k [] e = cc
found_passes test k (x ∷ xs) e = passes_at test x k xs (test x) refl e (found_passes test k xs)

live_at : {K : Type 0} (test : K → Bool) (x k : K) (ks : List K) (b : Bool) → test x ≡ b → find test (x ∷ ks) ≡ Some k → (find test ks ≡ Some k → IsIn k ks) → IsIn k (x ∷ ks)
live_at test x k ks true t e rest = inl (first_passes test x k ks t e)
live_at test x k ks false t e rest = inr (rest (first_fails test x k ks t e))

-- what is found is in the list
pub found_live : {K : Type 0} (test : K → Bool) (k : K) (ks : List K) → find test ks ≡ Some k → IsIn k ks
found_live test k [] e = cc
found_live test k (x ∷ xs) e = live_at test x k xs (test x) refl e (found_live test k xs)

none_at : {K : Type 0} (test : K → Bool) (x j : K) (ks : List K) (b : Bool) → test x ≡ b → find test (x ∷ ks) ≡ None → IsIn j (x ∷ ks) → (find test ks ≡ None → IsIn j ks → test j ≡ false) → test j ≡ false
none_at test x j ks true t e i rest = let h : Some x ≡ None = sym (ap (λ b. cond b (Some x) (find test ks)) t) ∙ e in cc
none_at test x j ks false t e (inl s) rest = subst (λ y. test y ≡ false) s t
none_at test x j ks false t e (inr i) rest = rest (sym (ap (λ b. cond b (Some x) (find test ks)) t) ∙ e) i

-- where nothing is found, nothing passes
pub none_passes : {K : Type 0} (test : K → Bool) (j : K) (ks : List K) → find test ks ≡ None → IsIn j ks → test j ≡ false
none_passes test j [] e i = absurd i
none_passes test j (x ∷ xs) e i = none_at test x j xs (test x) refl e i (none_passes test j xs)

each_in : {K : Type 0} (P : K → Type 0) (j : K) (ks : List K) → AllByRecursion P ks → IsIn j ks → P j
each_in P j [] h i = absurd i
each_in P j (x ∷ xs) h (inl s) = subst P s h.0
each_in P j (x ∷ xs) h (inr i) = each_in P j xs h.1 i

module _ {K : Type 0} (order : K → K → Ordering) (test : K → Bool) (k j : K) where
  least_at : (x : K) (xs : List K) (b : Bool) → test x ≡ b → AllByRecursion (λ y. order x y ≡ Less) xs → find test (x ∷ xs) ≡ Some k → IsIn j (x ∷ xs) → test j ≡ true → (find test xs ≡ Some k → IsIn j xs → (k ≡ j) ⊎ (order k j ≡ Less)) → (k ≡ j) ⊎ (order k j ≡ Less)
  least_at x xs true t s e (inl i) p rest = inl (sym (first_passes test x k xs t e) ∙ i)
  least_at x xs true t s e (inr i) p rest = inr (subst (λ y. order y j ≡ Less) (first_passes test x k xs t e) (each_in (λ y. order x y ≡ Less) j xs s i))
  least_at x xs false t s e (inl i) p rest = let h = subst (λ y. test y ≡ false) i t in absurd (true≢false (sym p ∙ h))
  least_at x xs false t s e (inr i) p rest = rest (first_fails test x k xs t e) i

  -- the one that is found is the least that passes
  pub least : (xs : List K) → IsStrictlySortedBy order xs → find test xs ≡ Some k → IsIn j xs → test j ≡ true → (k ≡ j) ⊎ (order k j ≡ Less)
  unfolding IsStrictlySortedBy
  least [] s e i p = absurd i
  least (x ∷ xs) s e i p = least_at x xs (test x) refl s.0 e i p (λ f m. least xs s.1 f m p)

pub equal : (o : Ordering) → is_eq o ≡ true → o ≡ Equal
equal Less e = cc
equal Equal e = refl
equal Greater e = cc

-- a test that was not dirty is one
pub tested_is : {S K : Type 0} (m : Machine S K) (s : S) (k : K) (v : Verdict) → v ≢ found_dirty → state_tested m s (Some k) v ≡ m.tested s k
tested_is m s k found_clean n = refl
tested_is m s k found_faulted n = refl
tested_is m s k found_dirty n = absurd (n refl)

module _ {S K : Type 0} (m : Machine S K) (laws : HasLaws m) where
  pub was_live : (s : S) (k j : K) → m.verdict s k ≢ found_dirty → IsLive m (m.tested s k) j → IsLive m s j
  was_live s k j n l = subst (IsIn j) (laws.same_keys s k n) l

  -- a test elsewhere leaves a key known clean
  pub still_known : (s : S) (k j : K) → m.verdict s k ≢ found_dirty → IsKnownClean m s j → IsKnownClean m (m.tested s k) j
  still_known s k j n c = record {
    clean = λ d. c.clean (sym (laws.same_verdict s k j n) ∙ d);
    told = laws.told_before s k j n c.told;
  }

  -- a key that was tested and not dirty is known clean
  pub now_known : (s : S) (k : K) → m.verdict s k ≢ found_dirty → IsKnownClean m (m.tested s k) k
  now_known s k n = record {
    clean = λ d. n (sym (laws.same_verdict s k k n) ∙ d);
    told = laws.told_once s k n;
  }

  passed_by_then : (s : S) (c : Option K) (k j : K) (b : Bool) → above m c j ≡ b → InOrder m s → next_key m s c ≡ Some k → m.verdict s k ≢ found_dirty → IsLive m s j → above m (Some k) j ≡ false → (above m c j ≡ false → IsKnownClean m s j) → IsKnownClean m (m.tested s k) j
  passed_by_then s c k j false a o e n l p before = still_known s k j n (before a)
  passed_by_then s c k j true a o e n l p before =
      elim (least m.order (above m c) k j (m.keys s) o e l a) [
        | inl same ↦ subst (IsKnownClean m (m.tested s k)) same (now_known s k n)
        | inr less ↦ absurd (true≢false (sym (ap is_lt less) ∙ p))
      ]

  -- what the cursor has passed once it came to a key and found it clean
  pub known_passed : (s : S) (c : Option K) (k j : K) → InOrder m s → next_key m s c ≡ Some k → m.verdict s k ≢ found_dirty → IsLive m s j → above m (Some k) j ≡ false → (above m c j ≡ false → IsKnownClean m s j) → IsKnownClean m (m.tested s k) j
  known_passed s c k j = passed_by_then s c k j (above m c j) refl

  -- a clean test keeps what is carried
  pub carried_clean : (s : S) (r c : Option K) (k : K) → InOrder m s → next_key m s c ≡ Some k → m.verdict s k ≢ found_dirty → IsCarried m s r c → IsCarried m (m.tested s k) r (Some k)
  carried_clean s None c k o e n h = tt
  carried_clean s (Some r) c k o e n h = λ j l a.
      let live = was_live s k j n l in
      let p = h j live a in (
        λ passed. known_passed s c k j o e n live passed p.0,
        λ ahead. still_known s k j n (p.1 (above_both m laws.total c k r (found_passes (above m c) k (m.keys s) e) (is_less (m.order k r) ahead))),
      )

  -- at the end of a walk each live key was passed
  pub carried_end : (s : S) (r c : Option K) → next_key m s c ≡ None → IsCarried m s r c → IsCarried m s r None
  carried_end s None c e h = tt
  carried_end s (Some r) c e h = λ j l a. let p = (h j l a).0 (none_passes (above m c) j (m.keys s) e l) in (λ q. p, λ q. p)

  -- after a fire nothing above the remembered key was passed
  pub carried_fire : (s : S) (added : Bool) (k : K) → IsCarried m s (cond added None (Some k)) (Some k)
  carried_fire s true k = tt
  carried_fire s false k = λ j l a. (λ p. absurd (true≢false (sym a ∙ p)), λ p. absurd (true≢false (sym p ∙ not_below m laws.total k)))

  -- a stop leaves each live key above the remembered one known clean
  pub carried_stop : (s : S) (r c : Option K) (k : K) → next_key m s c ≡ Some k → m.verdict s k ≢ found_dirty → is_same m (Some k) r ≡ true → IsCarried m s r c → (j : K) → IsLive m (m.tested s k) j → above m (Some k) j ≡ true → IsKnownClean m (m.tested s k) j
  carried_stop s None c k e n same h j l a = cc
  carried_stop s (Some r) c k e n same h j l a =
      let tie : k ≡ r = laws.exact k r (equal (m.order k r) same) in
      let here = subst (λ x. above m c x ≡ true) tie (found_passes (above m c) k (m.keys s) e) in
      still_known s k j n ((h j (was_live s k j n l) (subst (λ x. above m (Some x) j ≡ true) tie a)).1 here)

  pub carried_on : (s : S) (r c : Option K) (k : K) → next_key m s c ≡ Some k → m.verdict s k ≢ found_dirty → is_same m (Some k) r ≡ true → IsCarried m s r c → IsCarried m (m.tested s k) r None
  carried_on s None c k e n same h = tt
  carried_on s (Some r) c k e n same h = λ j l a.
      let tie : k ≡ r = laws.exact k r (equal (m.order k r) same) in
      let p = carried_stop s (Some r) c k e n same h j l (subst (λ x. above m (Some x) j ≡ true) (sym tie) a) in
      (λ q. p, λ q. p)

  quiet_step : (p : Plain S) (c o : Option K) → next_key m p.state c ≡ o → ((j : K) → IsLive m p.state j → above m c j ≡ true → IsKnownClean m p.state j) → ((k : K) → next_key m p.state c ≡ Some k → PlainWalks m p (Some k) false p) → PlainWalks m p c false p
  quiet_step p c None e known rest = plain_end e
  quiet_step p c (Some k) e known rest =
      let h = known k (found_live (above m c) k (m.keys p.state) e) (found_passes (above m c) k (m.keys p.state) e) in
      plain_clean e h.clean (subst (λ s. PlainWalks m (with_state p s) (Some k) false p) (sym h.told) (rest k e))

  -- over keys that are known clean the plain walk changes nothing
  quiet_for : (n : ℕ) (p : Plain S) (c : Option K) → ahead m p.state c ≤ n → InOrder m p.state → ((j : K) → IsLive m p.state j → above m c j ≡ true → IsKnownClean m p.state j) → PlainWalks m p c false p
  quiet_for zero p c few o known =
      quiet_step p c (next_key m p.state c) refl known (λ k e. let l = fewer_ahead m laws.total p.state c k o e in absurd (omega arith))
  quiet_for (suc n) p c few o known =
      quiet_step p c (next_key m p.state c) refl known (λ k e.
      let l = fewer_ahead m laws.total p.state c k o e in
      quiet_for n p (Some k) (omega arith) o (λ j i a. known j i (above_both m laws.total c k j (found_passes (above m c) k (m.keys p.state) e) (is_less (m.order k j) a))))

  pub quiet_walk : (p : Plain S) (c : Option K) → InOrder m p.state → ((j : K) → IsLive m p.state j → above m c j ≡ true → IsKnownClean m p.state j) → PlainWalks m p c false p
  quiet_walk p c = quiet_for (ahead m p.state c) p c (omega arith)

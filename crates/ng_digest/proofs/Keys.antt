-- The live keys in their order: each advance leaves one key less above the cursor.
use Rattle.std.proofs.Common.{◌≡◌, ◌≢◌, ◌<◌, ◌+◌, ◌↔◌, suc, Bool, true, false, refl, sym, ap, ◌∙◌, subst, arith, Option, Some, None, List, [], ◌∷◌, cond, filter, find, length, is_some}
use Rattle.std.specs.Cmp.{IsTotalOrder, tied_itself}
use Rattle.std.specs.Ordering.{is_lt, ordering_reverse}
use Rattle.std.specs.declared.cmp.Ordering.{Ordering}
use Rattle.std.specs.declared.cmp.Ordering.TheVariants.{Less, Equal, Greater}
use Rattle.std.specs.List.{AllByRecursion}
use Rattle.std.specs.List.Sorted.{IsStrictlySortedBy}
use Rattle.ng_digest.specs.Machine.{Machine, Verdict, found_clean, found_dirty, found_faulted, above, next_key, ahead}
use Rattle.ng_digest.specs.Laws.{HasLaws}
use Rattle.ng_digest.specs.Place.{Place, advanced, at_next, after_test, found, state_tested}

pub is_less : (r : Ordering) → is_lt r ≡ true → r ≡ Less
is_less Less e = refl
is_less Equal e = cc
is_less Greater e = cc

-- the first key that passes a test is the first of the list, or one of the rest
pub first_passes : {K : Type 0} (test : K → Bool) (x k : K) (ks : List K) → test x ≡ true → find test (x ∷ ks) ≡ Some k → x ≡ k
first_passes test x k ks t e =
    let here : Some x ≡ Some k = sym (ap (λ b. cond b (Some x) (find test ks)) t) ∙ e in
    cc

pub first_fails : {K : Type 0} (test : K → Bool) (x k : K) (ks : List K) → test x ≡ false → find test (x ∷ ks) ≡ Some k → find test ks ≡ Some k
first_fails test x k ks t e = sym (ap (λ b. cond b (Some x) (find test ks)) t) ∙ e

filter_passes : {K : Type 0} (test : K → Bool) (x : K) (ks : List K) → test x ≡ true → filter test (x ∷ ks) ≡ x ∷ filter test ks
filter_passes test x ks t = ap (λ b. cond b (x ∷ filter test ks) (filter test ks)) t

filter_fails : {K : Type 0} (test : K → Bool) (x : K) (ks : List K) → test x ≡ false → filter test (x ∷ ks) ≡ filter test ks
filter_fails test x ks t = ap (λ b. cond b (x ∷ filter test ks) (filter test ks)) t

found_at : {K : Type 0} (P : K → Type 0) (test : K → Bool) (x k : K) (ks : List K) (b : Bool) → test x ≡ b → find test (x ∷ ks) ≡ Some k → P x → (find test ks ≡ Some k → P k) → P k
found_at P test x k ks true t e h rest = subst P (first_passes test x k ks t e) h
found_at P test x k ks false t e h rest = rest (first_fails test x k ks t e)

-- what holds of each key holds of the one that is found
pub found_in : {K : Type 0} (P : K → Type 0) (test : K → Bool) (k : K) (ks : List K) → find test ks ≡ Some k → AllByRecursion P ks → P k
found_in P test k [] e h = cc
found_in P test k (x ∷ xs) e h = found_at P test x k xs (test x) refl e h.0 (λ later. found_in P test k xs later h.1)

module _ {S K : Type 0} (m : Machine S K) (t : IsTotalOrder m.order) where
  kept_all : (c : Option K) (ks : List K) → AllByRecursion (λ y. above m c y ≡ true) ks → filter (above m c) ks ≡ ks
  kept_all c [] h = refl
  kept_all c (x ∷ xs) h = ap (λ b. cond b (x ∷ filter (above m c) xs) (filter (above m c) xs)) h.0 ∙ ap (λ l. x ∷ l) (kept_all c xs h.1)

  -- what is above a key that is above the cursor is above the cursor
  pub above_both : (c : Option K) (k j : K) → above m c k ≡ true → m.order k j ≡ Less → above m c j ≡ true
  above_both None k j e l = refl
  above_both (Some a) k j e l = ap is_lt (t.trans a k j (is_less (m.order a k) e) l)

  all_above : (c : Option K) (k : K) (ks : List K) → above m c k ≡ true → AllByRecursion (λ y. m.order k y ≡ Less) ks → AllByRecursion (λ y. above m c y ≡ true) ks
  all_above c k [] e h = tt
  all_above c k (x ∷ xs) e h = (above_both c k x e h.0, all_above c k xs e h.1)

  all_less : (k : K) (ks : List K) → AllByRecursion (λ y. m.order k y ≡ Less) ks → AllByRecursion (λ y. above m (Some k) y ≡ true) ks
  all_less k [] h = tt
  all_less k (x ∷ xs) h = (ap is_lt h.0, all_less k xs h.1)

  pub not_below : (k : K) → above m (Some k) k ≡ false
  not_below k = ap is_lt (tied_itself t k)

  pub not_back : (x k : K) → m.order x k ≡ Less → above m (Some k) x ≡ false
  not_back x k l = ap is_lt (t.antisymm k x ∙ ap ordering_reverse l)

  one_less_at : (c : Option K) (x k : K) (xs : List K) (b : Bool) → above m c x ≡ b → AllByRecursion (λ y. m.order x y ≡ Less) xs → find (above m c) (x ∷ xs) ≡ Some k → (find (above m c) xs ≡ Some k → length (filter (above m c) xs) ≡ suc (length (filter (above m (Some k)) xs))) → length (filter (above m c) (x ∷ xs)) ≡ suc (length (filter (above m (Some k)) (x ∷ xs)))
  one_less_at c x k xs true b s e rest =
      let same = first_passes (above m c) x k xs b e in
      ap length (filter_passes (above m c) x xs b)
      ∙ ap (λ l. suc (length l)) (kept_all c xs (all_above c x xs b s))
      ∙ sym (ap (λ l. suc (length l)) (filter_fails (above m (Some k)) x xs (subst (λ y. above m (Some y) x ≡ false) same (not_below x)) ∙ kept_all (Some k) xs (subst (λ y. AllByRecursion (λ z. above m (Some y) z ≡ true) xs) same (all_less x xs s))))
  one_less_at c x k xs false b s e rest =
      let later = first_fails (above m c) x k xs b e in
      let less = found_in (λ y. m.order x y ≡ Less) (above m c) k xs later s in
      ap length (filter_fails (above m c) x xs b)
      ∙ rest later
      ∙ sym (ap (λ l. suc (length l)) (filter_fails (above m (Some k)) x xs (not_back x k less)))

  -- the key that the cursor comes to is the one that is no longer above it
  pub one_less : (c : Option K) (k : K) (ks : List K) → IsStrictlySortedBy m.order ks → find (above m c) ks ≡ Some k → length (filter (above m c) ks) ≡ suc (length (filter (above m (Some k)) ks))
  unfolding IsStrictlySortedBy
  one_less c k [] s e = cc
  one_less c k (x ∷ xs) s e = one_less_at c x k xs (above m c x) refl s.0 e (one_less c k xs s.1)

  pub falls : (s : S) (c : Option K) (k : K) → IsStrictlySortedBy m.order (m.keys s) → next_key m s c ≡ Some k → ahead m s c ≡ ahead m s (Some k) + 1
  falls s c k sorted e = let h = one_less c k (m.keys s) sorted e in omega (arith, h)

  none_ahead : (c : Option K) (ks : List K) → find (above m c) ks ≡ None → length (filter (above m c) ks) ≡ 0
  none_ahead c [] e = refl
  none_ahead c (x ∷ xs) e = none_ahead_at (above m c x) refl (none_ahead c xs)
    where
      none_ahead_at : (b : Bool) → above m c x ≡ b → (find (above m c) xs ≡ None → length (filter (above m c) xs) ≡ 0) → length (filter (above m c) (x ∷ xs)) ≡ 0
      none_ahead_at true t rest = let h : Some x ≡ None = sym (ap (λ b. cond b (Some x) (find (above m c) xs)) t) ∙ e in cc
      none_ahead_at false t rest = ap length (filter_fails (above m c) x xs t) ∙ rest (sym (ap (λ b. cond b (Some x) (find (above m c) xs)) t) ∙ e)

  ahead_none : (c : Option K) (ks : List K) → length (filter (above m c) ks) ≡ 0 → find (above m c) ks ≡ None
  ahead_none c [] e = refl
  ahead_none c (x ∷ xs) e = ahead_none_at (above m c x) refl (ahead_none c xs)
    where
      ahead_none_at : (b : Bool) → above m c x ≡ b → (length (filter (above m c) xs) ≡ 0 → find (above m c) xs ≡ None) → find (above m c) (x ∷ xs) ≡ None
      ahead_none_at true t rest = let h : length (x ∷ filter (above m c) xs) ≡ 0 = sym (ap length (filter_passes (above m c) x xs t)) ∙ e in absurd (omega arith)
      ahead_none_at false t rest = ap (λ b. cond b (Some x) (find (above m c) xs)) t ∙ rest (sym (ap length (filter_fails (above m c) x xs t)) ∙ e)

  pub none_where : (s : S) (c : Option K) → next_key m s c ≡ None ↔ ahead m s c ≡ 0
  none_where s c = (none_ahead c (m.keys s), ahead_none c (m.keys s))

  pub fewer_ahead : (s : S) (c : Option K) (k : K) → IsStrictlySortedBy m.order (m.keys s) → next_key m s c ≡ Some k → ahead m s (Some k) < ahead m s c
  fewer_ahead s c k sorted e = let h = one_less c k (m.keys s) sorted e in omega (arith, h)

-- a test that was not dirty leaves the keys
pub keys_tested : {S K : Type 0} (m : Machine S K) → HasLaws m → (s : S) (k : K) (v : Verdict) → m.verdict s k ≡ v → v ≢ found_dirty → m.keys (state_tested m s (Some k) v) ≡ m.keys s
keys_tested m laws s k found_clean e n = laws.same_keys s k (λ d. n (sym e ∙ d))
keys_tested m laws s k found_faulted e n = laws.same_keys s k (λ d. n (sym e ∙ d))
keys_tested m laws s k found_dirty e n = absurd (n refl)

fewer_at : {S K : Type 0} (m : Machine S K) → HasLaws m → (p q r : Place S K) (o : Option K) → next_key m p.state p.cursor ≡ o → IsStrictlySortedBy m.order (m.keys p.state) → true ≡ is_some o → q ≡ at_next p o → r ≡ after_test m q → found m q ≢ found_dirty → ahead m r.state r.cursor < ahead m p.state p.cursor
fewer_at m laws p q r None e sorted more a t n = cc
fewer_at m laws p q r (Some k) e sorted more a t n =
    let n' = subst (λ x. found m x ≢ found_dirty) a n in
    let r' = t ∙ ap (after_test m) a in
    let same = keys_tested m laws p.state k (m.verdict p.state k) refl n' in
    let less = fewer_ahead m laws.total p.state p.cursor k sorted e in
    subst (λ x. ahead m x.state x.cursor < ahead m p.state p.cursor) (sym r') (subst (λ l. length (filter (above m (Some k)) l) < ahead m p.state p.cursor) (sym same) less)

-- each test in a walk that goes on leaves fewer keys ahead
pub fewer : {S K : Type 0} (m : Machine S K) → HasLaws m → (p q r : Place S K) → IsStrictlySortedBy m.order (m.keys p.state) → true ≡ is_some (next_key m p.state p.cursor) → q ≡ advanced m p → r ≡ after_test m q → found m q ≢ found_dirty → ahead m r.state r.cursor < ahead m p.state p.cursor
fewer m laws p q r = fewer_at m laws p q r (next_key m p.state p.cursor) refl

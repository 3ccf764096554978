-- The names of the nodes of a table: they differ, and are as many as the nodes.
use Rattle.std.proofs.Common.{◌≡◌, ◌<◌, ℕ, Bool, true, false, List, [], ◌∷◌, ◌++◌, Some, refl, ap, sym, subst, ◌∙◌, length, cond, arith, is_some, length-append}
use Rattle.std.specs.Prelude.{◌==◌, ◌||◌, nat_eq}
use Rattle.std.specs.List.{AllByRecursion, IsDistinct}
use Rattle.std.specs.Map.{keys_of}
use Rattle.std.specs.Set.{is_member}
use Rattle.std.proofs.lemmas.Bool.{eqb-true, eqb-false, eq-eqb, ne_eqb}
use Rattle.std.proofs.lemmas.Map.Entries.{length-keys_of}
use Rattle.ng_dom.specs.Lists.{among}
use Rattle.ng_dom.specs.Records.{Rows, Runs, number_of, under, or_none, node_at, live_in, AllAbove, Rises, AreRuns, names_in}
use Rattle.ng_dom.proofs.Removing.{either, among-append, among-left, among-right}
use Rattle.ng_dom.proofs.Runs.{number_below}

pub names_length : (rs : Runs) → length (names_in rs) ≡ live_in rs
names_length [] = refl
names_length (r ∷ rs) = let both = length-append (keys_of r.1) (names_in rs) in let one = length-keys_of r.1 in let more = names_length rs in omega (arith, both, one, more)

-- ---- they rise

abbrev Rising : List ℕ → Type 0
Rising [] = Unit {0}
Rising (n ∷ ns) = AllByRecursion (λ m. n < m) ns × Rising ns

abbrev AllBefore : List ℕ → List ℕ → Type 0
AllBefore ns ms = AllByRecursion (λ n. AllByRecursion (λ m. n < m) ms) ns

all_append : (P : ℕ → Type 0) (ns ms : List ℕ) → AllByRecursion P ns → AllByRecursion P ms → AllByRecursion P (ns ++ ms)
all_append P [] ms a b = b
all_append P (n ∷ ns) ms a b = (a.0, all_append P ns ms a.1 b)

rising_append : (ns ms : List ℕ) → Rising ns → Rising ms → AllBefore ns ms → Rising (ns ++ ms)
rising_append [] ms a b c = b
rising_append (n ∷ ns) ms a b c = (all_append (λ m. n < m) ns ms a.0 c.0, rising_append ns ms a.1 b c.1)

keys_above : (n : ℕ) (es : Rows) → AllAbove n es → AllByRecursion (λ m. n < m) (keys_of es)
keys_above n [] a = tt
keys_above n (e ∷ es) a = (a.0, keys_above n es a.1)

keys_rise : (es : Rows) → Rises es → Rising (keys_of es)
keys_rise [] r = tt
keys_rise (e ∷ es) r = (keys_above e.0 es r.0, keys_rise es r.1)

run_above : (n k : ℕ) (es : Rows) → number_of n < k → AllByRecursion (λ e. number_of e.0 ≡ k) es → AllByRecursion (λ m. n < m) (keys_of es)
run_above n k [] l a = tt
run_above n k (e ∷ es) l a = (number_below n e.0 (subst (λ (m : ℕ). number_of n < m) (sym a.0) l), run_above n k es l a.1)

names_above : (n : ℕ) (rs : Runs) → AllAbove (number_of n) rs → AreRuns rs → AllByRecursion (λ m. n < m) (names_in rs)
names_above n [] a g = tt
names_above n (r ∷ rs) a g = all_append (λ m. n < m) (keys_of r.1) (names_in rs) (run_above n r.0 r.1 a.0 g.0.named) (names_above n rs a.1 g.1)

names_after : (k : ℕ) (es : Rows) (rs : Runs) → AllByRecursion (λ e. number_of e.0 ≡ k) es → AllAbove k rs → AreRuns rs → AllBefore (keys_of es) (names_in rs)
names_after k [] rs a b g = tt
names_after k (e ∷ es) rs a b g = (names_above e.0 rs (subst (λ (m : ℕ). AllAbove m rs) (sym a.0) b) g, names_after k es rs a.1 b g)

names_rise : (rs : Runs) → Rises rs → AreRuns rs → Rising (names_in rs)
names_rise [] r g = tt
names_rise (s ∷ rs) r g = rising_append (keys_of s.1) (names_in rs) (keys_rise s.1 g.0.rises) (names_rise rs r.1 g.1) (names_after s.0 s.1 rs g.0.named r.0 g.1)

differ_above : (n : ℕ) (ms : List ℕ) → AllByRecursion (λ m. n < m) ms → AllByRecursion (λ m. nat_eq n m ≡ false) ms
differ_above n [] a = tt
differ_above n (m ∷ ms) a = (ne_eqb n m (λ s. omega (arith, a.0)), differ_above n ms a.1)

rising_differ : (ns : List ℕ) → Rising ns → IsDistinct nat_eq ns
unfolding IsDistinct
rising_differ [] r = tt
rising_differ (n ∷ ns) r = (differ_above n ns r.0, rising_differ ns r.1)

pub names_differ : (rs : Runs) → Rises rs → AreRuns rs → IsDistinct nat_eq (names_in rs)
names_differ rs r g = rising_differ (names_in rs) (names_rise rs r g)

-- ---- a name is one of them where it has a node

some_key : (es : Rows) (n : ℕ) → is_some (under n es) ≡ true → among n (keys_of es) ≡ true
some_key [] n h = absurd (cc)
some_key (e ∷ es) n h = by_test (n == e.0) refl h (some_key es n)
  where
    by_test : (b : Bool) → (n == e.0) ≡ b → is_some (cond b (Some e.1) (under n es)) ≡ true → (is_some (under n es) ≡ true → among n (keys_of es) ≡ true) → cond (e.0 == n) true (among n (keys_of es)) ≡ true
    by_test true t h rest = rw (eq-eqb e.0 n (sym (eqb-true n e.0 t))) refl
    by_test false t h rest = rw (ne_eqb e.0 n (λ s. eqb-false n e.0 t (sym s))) (rest h)

key_some : (es : Rows) (n : ℕ) → among n (keys_of es) ≡ true → is_some (under n es) ≡ true
key_some [] n h = absurd (cc)
key_some (e ∷ es) n h = by_test (e.0 == n) refl h (key_some es n)
  where
    by_test : (b : Bool) → (e.0 == n) ≡ b → cond b true (among n (keys_of es)) ≡ true → (among n (keys_of es) ≡ true → is_some (under n es) ≡ true) → is_some (cond (n == e.0) (Some e.1) (under n es)) ≡ true
    by_test true t h rest = rw (eq-eqb n e.0 (sym (eqb-true e.0 n t))) refl
    by_test false t h rest = rw (ne_eqb n e.0 (λ s. eqb-false e.0 n t (sym s))) (rest h)

key_number : (es : Rows) (n k : ℕ) → AllByRecursion (λ e. number_of e.0 ≡ k) es → among n (keys_of es) ≡ true → number_of n ≡ k
key_number [] n k a h = absurd (cc)
key_number (e ∷ es) n k a h = by_test (e.0 == n) refl h (key_number es n k a.1)
  where
    by_test : (b : Bool) → (e.0 == n) ≡ b → cond b true (among n (keys_of es)) ≡ true → (among n (keys_of es) ≡ true → number_of n ≡ k) → number_of n ≡ k
    by_test true t h rest = ap number_of (sym (eqb-true e.0 n t)) ∙ a.0
    by_test false t h rest = rest h

number_above : (m : ℕ) (rs : Runs) (n : ℕ) → AllAbove m rs → AreRuns rs → among n (names_in rs) ≡ true → m < number_of n
number_above m [] n a g h = absurd (cc)
number_above m (r ∷ rs) n a g h =
    either (λ k. subst (λ (x : ℕ). m < x) (sym (key_number r.1 n r.0 g.0.named k)) a.0) (λ k. number_above m rs n a.1 g.1 k) (among-append n (keys_of r.1) (names_in rs) h)

pub live_named : (rs : Runs) (n : ℕ) → is_some (node_at rs n) ≡ true → among n (names_in rs) ≡ true
live_named [] n h = absurd (cc)
live_named (r ∷ rs) n h = by_test (number_of n == r.0) h (live_named rs n)
  where
    by_test : (b : Bool) → is_some (under n (or_none (cond b (Some r.1) (under (number_of n) rs)))) ≡ true → (is_some (node_at rs n) ≡ true → among n (names_in rs) ≡ true) → among n (keys_of r.1 ++ names_in rs) ≡ true
    by_test true h rest = among-left n (keys_of r.1) (names_in rs) (some_key r.1 n h)
    by_test false h rest = among-right n (keys_of r.1) (names_in rs) (rest h)

pub named_lives : (rs : Runs) (n : ℕ) → Rises rs → AreRuns rs → among n (names_in rs) ≡ true → is_some (node_at rs n) ≡ true
named_lives [] n u g h = absurd (cc)
named_lives (r ∷ rs) n u g h = either here (past (named_lives rs n u.1 g.1)) (among-append n (keys_of r.1) (names_in rs) h)
  where
    here : among n (keys_of r.1) ≡ true → is_some (node_at (r ∷ rs) n) ≡ true
    here k = rw (eq-eqb (number_of n) r.0 (key_number r.1 n r.0 g.0.named k)) (key_some r.1 n k)

    past : (among n (names_in rs) ≡ true → is_some (node_at rs n) ≡ true) → among n (names_in rs) ≡ true → is_some (node_at (r ∷ rs) n) ≡ true
    past rest k =
        let more = number_above r.0 rs n u.0 g.1 k in
        rw (ne_eqb (number_of n) r.0 (λ s. omega (arith, more, s))) (rest k)

-- a name is among some, by either order of the test
same_test : (n k : ℕ) → (k == n) ≡ nat_eq n k
same_test n k = by_test (k == n) refl
  where
    by_test : (b : Bool) → (k == n) ≡ b → b ≡ nat_eq n k
    by_test true e = sym (eq-eqb n k (sym (eqb-true k n e)))
    by_test false e = sym (ne_eqb n k (λ h. eqb-false k n e (sym h)))

first_or : (b : Bool) (n : ℕ) (ks : List ℕ) → among n ks ≡ is_member nat_eq ks n → cond b true (among n ks) ≡ (b || is_member nat_eq ks n)
first_or true n ks e = refl
first_or false n ks e = e

pub among-member : (n : ℕ) (ks : List ℕ) → among n ks ≡ is_member nat_eq ks n
among-member n [] = refl
among-member n (k ∷ ks) = ap (λ (b : Bool). cond b true (among n ks)) (same_test n k) ∙ first_or (nat_eq n k) n ks (among-member n ks)

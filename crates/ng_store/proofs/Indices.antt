-- A name that is an index is the decimal of its number; the names of an object are its properties' names in another order.
use Rattle.std.proofs.Common.{◌≡◌, ◌∙◌, ◌<◌, ◌≤◌, ◌+◌, ◌-◌, ◌*◌, ◌/◌, ◌%◌, ◌&&◌, ◌==◌, ℕ, Bool, true, false, List, [], ◌∷◌, ◌++◌, map, refl, sym, ap, subst, arith, bytes_eq, nat_le, nat_lt, if◌then◌else◌, is_some, Option, Some, None, true≢false, append-nil, append_assoc, Ordering, Less, Equal, Greater, nat_cmp, decimal}
use Rattle.std.proofs.lemmas.Fmt.{decimal_step, decimal_digit}
use Rattle.std.proofs.lemmas.Bool.{eqb-true}
use Rattle.std.proofs.lemmas.Bool.Decides.{nat_tests}
use Rattle.std.proofs.lemmas.Slice.Eq.{bytes_eq-Decides}
use Rattle.std.proofs.lemmas.List.Sorted.{IsPermutation-refl, IsPermutation-sym, IsPermutation-cons, IsPermutation-map, IsPermutation-append_left, IsPermutation-trans, IsPermutation-middle}
use Rattle.std.specs.Cmp.{ranked}
use Rattle.std.specs.List.{AllByRecursion, IsDistinct}
use Rattle.std.specs.List.Sorted.{IsPermutation}
use Rattle.std.specs.Map.{keys_of}
use Rattle.std.specs.BTreeSet.{insert_key}
use Rattle.std.specs.Ordering.{match_ordering}
use Rattle.std.specs.Char.{is_ascii_digit}
use Rattle.ng_base.specs.Objects.{Object, is_array, spelled, only_zero, index_of, with_index, indices_from, other_names, names_of}
use Rattle.ng_store.proofs.Sound.{Property}

guarded : (b : Bool) (x : Option ℕ) (i : ℕ) → (if b then x else None) ≡ Some i → (b ≡ true) × (x ≡ Some i)
guarded true x i h = (refl, h)
guarded false x i h = absurd (cc)

two : (a b : Bool) → (a && b) ≡ true → (a ≡ true) × (b ≡ true)
two true b h = (refl, h)
two false b h = absurd (true≢false (sym h))

pub record IsDigit (c : ℕ) : Type 0 where
  pub low : 48 ≤ c
  pub high : c ≤ 57

digit : (c : ℕ) → is_ascii_digit c ≡ true → IsDigit c
digit c h = let t = two (nat_le 48 c) (nat_le c 57) h in record { low = grind (arith, nat_tests, t.0); high = grind (arith, nat_tests, t.1) }

decimal_more : (n c : ℕ) → IsDigit c → 0 < n → 10 * n + (c - 48) < 4294967295 → decimal (10 * n + (c - 48)) ≡ decimal n ++ c ∷ []
decimal_more n c d p l =
    let m = 10 * n + (c - 48) in
    let q : m / 10 ≡ n = omega (arith, d.low, d.high) in
    let r : 48 + m % 10 ≡ c = omega (arith, d.low, d.high) in
    decimal_step m (omega arith) (omega arith) ∙ rw (q, r) refl

pub record IsNumber (name : List ℕ) (i : ℕ) : Type 0 where
  pub is : name ≡ decimal i
  pub below : i < 4294967295

spelled_is : (cs : List ℕ) (n i : ℕ) → 0 < n → n < 4294967295 → spelled n cs ≡ Some i → IsNumber (decimal n ++ cs) i
spelled_is [] n i p l h = let e : n ≡ i = cc in record { is = append-nil (decimal n) ∙ ap decimal e; below = subst (λ k. k < 4294967295) e l }
spelled_is (c ∷ cs) n i p l h =
    let m = 10 * n + (c - 48) in
    let g = guarded (is_ascii_digit c && nat_lt m 4294967295) (spelled m cs) i h in
    let t = two (is_ascii_digit c) (nat_lt m 4294967295) g.0 in
    let d = digit c t.0 in
    let below : m < 4294967295 = grind (arith, nat_tests, t.1) in
    let r = spelled_is cs m i (omega arith) below g.1 in
    record { is = sym (append_assoc (decimal n) (c ∷ []) cs) ∙ (ap (λ ds. ds ++ cs) (sym (decimal_more n c d p below)) ∙ r.is); below = r.below }

zero_is : (cs : List ℕ) (i : ℕ) → only_zero cs ≡ Some i → IsNumber (48 ∷ cs) i
zero_is [] i h = let e : 0 ≡ i = cc in record { is = sym (decimal_digit 0 (omega arith)) ∙ ap decimal e; below = omega arith }
zero_is (c ∷ cs) i h = absurd (cc)

first_is : (c : ℕ) (cs : List ℕ) (i : ℕ) → ((c == 48) ≡ false) → spelled 0 (c ∷ cs) ≡ Some i → IsNumber (c ∷ cs) i
first_is c cs i apart h =
    let m = 10 * 0 + (c - 48) in
    let g = guarded (is_ascii_digit c && nat_lt m 4294967295) (spelled m cs) i h in
    let t = two (is_ascii_digit c) (nat_lt m 4294967295) g.0 in
    let d = digit c t.0 in
    let below : m < 4294967295 = grind (arith, nat_tests, t.1) in
    let some : 0 < m = grind (arith, nat_tests, apart, d.low) in
    let r = spelled_is cs m i some below g.1 in
    let e : 48 + m ≡ c = omega (arith, d.low) in
    record { is = ap (λ k. k ∷ cs) (sym e) ∙ (ap (λ ds. ds ++ cs) (sym (decimal_digit m (omega (arith, d.high)))) ∙ r.is); below = r.below }

-- a name that is an index is the decimal of its number
pub index_is : (name : List ℕ) (i : ℕ) → index_of name ≡ Some i → IsNumber name i
index_is [] i h = absurd (cc)
index_is (c ∷ cs) i h = by (c == 48) refl h
  where
    by : (b : Bool) → (c == 48) ≡ b → (if b then only_zero cs else spelled 0 (c ∷ cs)) ≡ Some i → IsNumber (c ∷ cs) i
    by true e k = let f : c ≡ 48 = eqb-true c 48 e in subst (λ x. IsNumber (x ∷ cs) i) (sym f) (zero_is cs i k)
    by false e k = first_is c cs i e k

abbrev pub IsAbsent : ℕ → List ℕ → Type 0
IsAbsent i = AllByRecursion (λ j. nat_cmp i j ≡ Equal → ⊥)

insert_moves : (acc : List ℕ) (i : ℕ) → IsAbsent i acc → IsPermutation (i ∷ acc) (insert_key nat_cmp acc i)
insert_moves [] i a = IsPermutation-refl (i ∷ [])
insert_moves (x ∷ xs) i a = by (nat_cmp i x) refl (insert_moves xs i a.1)
  where
    by : (o : Ordering) → nat_cmp i x ≡ o → IsPermutation (i ∷ xs) (insert_key nat_cmp xs i) → IsPermutation (i ∷ x ∷ xs) (match_ordering o (i ∷ x ∷ xs) (x ∷ xs) (x ∷ insert_key nat_cmp xs i))
    by Less e rest = IsPermutation-refl (i ∷ x ∷ xs)
    by Equal e rest = absurd (a.0 e)
    by Greater e rest =
        IsPermutation-trans (i ∷ x ∷ xs) (x ∷ i ∷ xs) (x ∷ insert_key nat_cmp xs i)
        (IsPermutation-sym (x ∷ i ∷ xs) (i ∷ x ∷ xs) (IsPermutation-middle (x ∷ []) i xs))
        (IsPermutation-cons x (i ∷ xs) (insert_key nat_cmp xs i) rest)

absent_inserted : (acc : List ℕ) (i j : ℕ) → IsAbsent j acc → (nat_cmp j i ≡ Equal → ⊥) → IsAbsent j (insert_key nat_cmp acc i)
absent_inserted [] i j a h = (h, tt)
absent_inserted (x ∷ xs) i j a h = by (nat_cmp i x) (absent_inserted xs i j a.1 h)
  where
    by : (o : Ordering) → IsAbsent j (insert_key nat_cmp xs i) → IsAbsent j (match_ordering o (i ∷ x ∷ xs) (x ∷ xs) (x ∷ insert_key nat_cmp xs i))
    by Less rest = (h, a)
    by Equal rest = a
    by Greater rest = (a.0, rest)

-- the indices among names are none of those that were found
abbrev pub AreFresh : List ℕ → List Property → Type 0
AreFresh acc = AllByRecursion (λ (p : Property). (i : ℕ) → index_of p.0 ≡ Some i → IsAbsent i acc)

still_fresh : (acc : List ℕ) (name : List ℕ) (i : ℕ) (ps : List Property) → index_of name ≡ Some i → AllByRecursion (λ k. bytes_eq name k ≡ false) (keys_of ps) → AreFresh acc ps → AreFresh (insert_key nat_cmp acc i) ps
still_fresh acc name i [] e apart fresh = tt
still_fresh acc name i (p ∷ ps) e apart fresh = (
  λ j f. absent_inserted acc i j (fresh.0 j f)
      (λ same. true≢false (sym ((bytes_eq-Decides name p.0).1 ((index_is name i e).is ∙ (ap decimal (sym (ranked j i Equal (sym same))) ∙ sym (index_is p.0 j f).is))) ∙ apart.0)),
  still_fresh acc name i ps e apart.1 fresh.1,
)

names_move : (ps : List Property) (acc : List ℕ) → IsDistinct bytes_eq (keys_of ps) → AreFresh acc ps → IsPermutation (map decimal acc ++ keys_of ps) (map decimal (indices_from acc ps) ++ other_names ps)
unfolding IsDistinct
names_move [] acc d fresh = IsPermutation-refl (map decimal acc ++ [])
names_move (p ∷ ps) acc d fresh = by (index_of p.0) refl (λ a f. names_move ps a d.1 f)
  where
    by : (o : Option ℕ) → index_of p.0 ≡ o → ((a : List ℕ) → AreFresh a ps → IsPermutation (map decimal a ++ keys_of ps) (map decimal (indices_from a ps) ++ other_names ps))
        → IsPermutation (map decimal acc ++ p.0 ∷ keys_of ps) (map decimal (indices_from (with_index acc o) ps) ++ (if is_some o then other_names ps else p.0 ∷ other_names ps))
    by None e rest =
        let found = map decimal acc in
        let all = map decimal (indices_from acc ps) in
        IsPermutation-trans (found ++ p.0 ∷ keys_of ps) (p.0 ∷ (found ++ keys_of ps)) (all ++ p.0 ∷ other_names ps)
        (IsPermutation-middle found p.0 (keys_of ps))
        (IsPermutation-trans (p.0 ∷ (found ++ keys_of ps)) (p.0 ∷ (all ++ other_names ps)) (all ++ p.0 ∷ other_names ps)
        (IsPermutation-cons p.0 (found ++ keys_of ps) (all ++ other_names ps) (rest acc fresh.1))
        (IsPermutation-sym (all ++ p.0 ∷ other_names ps) (p.0 ∷ (all ++ other_names ps)) (IsPermutation-middle all p.0 (other_names ps))))
    by (Some i) e rest =
        let found = map decimal acc in
        let more = map decimal (insert_key nat_cmp acc i) in
        let moved = IsPermutation-append_left (keys_of ps) (decimal i ∷ found) more (IsPermutation-map decimal (i ∷ acc) (insert_key nat_cmp acc i) (insert_moves acc i (fresh.0 i e))) in
        let named = subst (λ n. IsPermutation (n ∷ (found ++ keys_of ps)) (more ++ keys_of ps)) (sym (index_is p.0 i e).is) moved in
        IsPermutation-trans (found ++ p.0 ∷ keys_of ps) (more ++ keys_of ps) _
        (IsPermutation-trans (found ++ p.0 ∷ keys_of ps) (p.0 ∷ (found ++ keys_of ps)) (more ++ keys_of ps) (IsPermutation-middle found p.0 (keys_of ps)) named)
        (rest (insert_key nat_cmp acc i) (still_fresh acc p.0 i ps e d.0 fresh.1))

all_fresh : (ps : List Property) → AreFresh [] ps
all_fresh [] = tt
all_fresh (p ∷ ps) = (λ i e. tt, all_fresh ps)

-- the names of an object that is no array are those of its properties, each once
pub names_once : (x : Object) → is_array x.kind ≡ false → IsDistinct bytes_eq (keys_of x.properties) → IsPermutation (keys_of x.properties) (names_of x)
names_once x k d = rw k (names_move x.properties [] d (all_fresh x.properties))

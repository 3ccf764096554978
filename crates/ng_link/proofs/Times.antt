-- How often a name stands in a list.
use Rattle.std.proofs.Common.{◌≡◌, ◌≤◌, ◌+◌, ℕ, zero, suc, Bool, true, false, List, [], ◌∷◌, ◌++◌, refl, ap, ◌∙◌, sym, cond, arith, add_assoc}
use Rattle.std.specs.Prelude.{◌==◌, nat_eq}
use Rattle.std.specs.List.{AllByRecursion, IsDistinct}
use Rattle.std.proofs.lemmas.Bool.{eqb-true, eqb-false, eq-eqb, ne_eqb}
use Rattle.std.proofs.lemmas.Map.Keys.{IsDistinct-head, IsDistinct-tail, IsDistinct-cons}
use Rattle.ng_dom.specs.Lists.{among}

abbrev pub one : Bool → ℕ
one true = 1
one false = 0

abbrev pub times : ℕ → List ℕ → ℕ
times n [] = 0
times n (k ∷ ks) = one (k == n) + times n ks

pub times-append : (n : ℕ) (xs ys : List ℕ) → times n (xs ++ ys) ≡ times n xs + times n ys
times-append n [] ys = omega arith
times-append n (x ∷ xs) ys = ap (λ (k : ℕ). one (x == n) + k) (times-append n xs ys) ∙ sym (add_assoc (one (x == n)) (times n xs) (times n ys))

among_by : (n : ℕ) (ks : List ℕ) (t : ℕ) → times n ks ≡ t → among n ks ≡ cond (t == 0) false true
among_by n [] t e = let none : t ≡ 0 = sym e in ap (λ (k : ℕ). cond (k == 0) false true) (sym none)
among_by n (k ∷ ks) t e = by_test (k == n) e (among_by n ks t)
  where
    by_test : (b : Bool) → one b + times n ks ≡ t → (times n ks ≡ t → among n ks ≡ cond (t == 0) false true) → cond b true (among n ks) ≡ cond (t == 0) false true
    by_test true h more = positive t (omega (arith, h))
      where
        positive : (c : ℕ) → 1 ≤ c → true ≡ cond (c == 0) false true
        positive zero le = absurd (omega (arith, le))
        positive (suc c) le = ap (λ (b : Bool). cond b false true) (sym (ne_eqb (suc c) 0 (λ z. omega (arith, z))))
    by_test false h more = more (omega (arith, h))

-- what stands as often is among as well
pub same_among : (n : ℕ) (xs ys : List ℕ) → times n xs ≡ times n ys → among n xs ≡ among n ys
same_among n xs ys e = among_by n xs (times n ys) e ∙ sym (among_by n ys (times n ys) refl)

never : (n : ℕ) (ks : List ℕ) → AllByRecursion (λ k. nat_eq n k ≡ false) ks → times n ks ≡ 0
never n [] all = refl
never n (k ∷ ks) all = by_test (k == n) refl (never n ks all.1)
  where
    by_test : (b : Bool) → (k == n) ≡ b → times n ks ≡ 0 → one b + times n ks ≡ 0
    by_test true t h = absurd (let two : true ≡ false = sym (eq-eqb n k (sym (eqb-true k n t))) ∙ all.0 in cc)
    by_test false t h = omega (arith, h)

distinct-times : (n : ℕ) (ks : List ℕ) → IsDistinct nat_eq ks → times n ks ≤ 1
distinct-times n [] d = omega arith
distinct-times n (k ∷ ks) d = by_test (k == n) refl (distinct-times n ks (IsDistinct-tail nat_eq k ks d))
  where
    by_test : (b : Bool) → (k == n) ≡ b → times n ks ≤ 1 → one b + times n ks ≤ 1
    by_test true t le =
        let none : times k ks ≡ 0 = never k ks (IsDistinct-head nat_eq k ks d) in
        let same : times n ks ≡ 0 = ap (λ (m : ℕ). times m ks) (sym (eqb-true k n t)) ∙ none in
        omega (arith, same)
    by_test false t le = omega (arith, le)

none-same : (n : ℕ) (ks : List ℕ) → times n ks ≡ 0 → AllByRecursion (λ k. nat_eq n k ≡ false) ks
none-same n [] e = tt
none-same n (k ∷ ks) e = by_test (k == n) refl e (none-same n ks)
  where
    by_test : (b : Bool) → (k == n) ≡ b → one b + times n ks ≡ 0 → (times n ks ≡ 0 → AllByRecursion (λ q. nat_eq n q ≡ false) ks) → AllByRecursion (λ q. nat_eq n q ≡ false) (k ∷ ks)
    by_test true t none more = absurd (omega (arith, none))
    by_test false t none more = (ne_eqb n k (λ h. eqb-false k n t (sym h)), more (omega (arith, none)))

times-distinct : (ks : List ℕ) → ((n : ℕ) → times n ks ≤ 1) → IsDistinct nat_eq ks
unfolding IsDistinct
times-distinct [] all = tt
times-distinct (k ∷ ks) all = IsDistinct-cons nat_eq k ks (none-same k ks (first (all k))) (times-distinct ks (λ n. rest n (all n)))
  where
    first : one (k == k) + times k ks ≤ 1 → times k ks ≡ 0
    first le = by_test (k == k) (eq-eqb k k refl) le
      where
        by_test : (b : Bool) → b ≡ true → one b + times k ks ≤ 1 → times k ks ≡ 0
        by_test true e le = omega (arith, le)
        by_test false e le = absurd (cc)

    rest : (n : ℕ) → one (k == n) + times n ks ≤ 1 → times n ks ≤ 1
    rest n le = omega (arith, le)

pub same_distinct : (xs ys : List ℕ) → ((n : ℕ) → times n ys ≡ times n xs) → IsDistinct nat_eq xs → IsDistinct nat_eq ys
same_distinct xs ys same d = times-distinct ys (λ n. let e = same n in let le = distinct-times n xs d in omega (arith, e, le))

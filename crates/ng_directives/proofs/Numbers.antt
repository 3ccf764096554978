-- Numbers of sites: those that a list of parts gets, and those that what is drawn has.
use Rattle.std.proofs.Common.{◌≡◌, ◌<◌, ◌≤◌, ◌+◌, ℕ, zero, suc, true, cond, List, [], ◌∷◌, ◌++◌, length, None, Some, refl, ap, ◌∙◌, append_assoc, add-one, arith}
use Rattle.std.proofs.lemmas.Bool.{and_parts, and_from, leb-true, le-leb, ltb-true, lt-ltb, eq-eqb}
use Rattle.std.specs.List.{list_all}
use Rattle.std.specs.Prelude.{nat_le, nat_lt}
use Rattle.ng_drawing.specs.declared.kind.SiteKind.{SiteKind}
use Rattle.ng_interp.specs.Parts.{Piece}
use Rattle.ng_interp.specs.Parts as interp
use Rattle.ng_drawing.specs.Numbering.{after_own, is_within}
use Rattle.ng_directives.specs.Texts.{sites_in, counted}
use Rattle.ng_parts.proofs.More.{all_more}

pub counted-append : {A : Type 0} (n : ℕ) (xs ys : List A) → counted n (xs ++ ys) ≡ counted n xs ++ counted (n + length xs) ys
counted-append n [] ys = ap (λ k. counted k ys) (omega arith)
counted-append n (x ∷ xs) ys =
    let e : n + 1 + length xs ≡ n + length (x ∷ xs) = omega arith in
    ap (λ (zs : List ℕ). n ∷ zs) (counted-append (n + 1) xs ys ∙ ap (λ k. counted (n + 1) xs ++ counted k ys) e)

pub after_own-counted : {A : Type 0} (n : ℕ) (xs : List A) → after_own n (counted n xs) ≡ Some (n + length xs)
after_own-counted n [] = ap Some (omega arith)
after_own-counted n (x ∷ xs) =
    let e : n + 1 + length xs ≡ n + length (x ∷ xs) = omega arith in
    ap (λ b. cond b (after_own (n + 1) (counted (n + 1) xs)) None) (eq-eqb n n refl) ∙ (after_own-counted (n + 1) xs ∙ ap Some e)

-- as many numbers from n on
abbrev pub up : ℕ → ℕ → List ℕ
up n zero = []
up n (suc k) = up n k ++ (n + k) ∷ []

pub up-more : (n k : ℕ) → up n (k + 1) ≡ up n k ++ (n + k) ∷ []
up-more n k = rw add-one refl

up-front : (n k : ℕ) → n ∷ up (n + 1) k ≡ up n (suc k)
up-front n zero = ap (λ m. m ∷ []) (omega arith)
up-front n (suc k) =
    let e : n + 1 + k ≡ n + suc k = omega arith in
    ap (λ (xs : List ℕ). xs ++ (n + 1 + k) ∷ []) (up-front n k) ∙ ap (λ m. up n (suc k) ++ m ∷ []) e

pub counted-up : {A : Type 0} (n : ℕ) (xs : List A) → counted n xs ≡ up n (length xs)
counted-up n [] = refl
counted-up n (x ∷ xs) = ap (λ (ks : List ℕ). n ∷ ks) (counted-up (n + 1) xs) ∙ up-front n (length xs)

pub ruleset number_steps = (up-more, counted-up, append_assoc)

pub same_count : (j k : SiteKind) (ps : List Piece) → length (sites_in j ps) ≡ length (sites_in k ps)
same_count j k [] = refl
same_count j k (interp.words t ∷ ps) = same_count j k ps
same_count j k (interp.hole once p ∷ ps) = ap suc (same_count j k ps)

-- numbers from one on are among these
pub counted_within : {A : Type 0} (n : ℕ) (xs : List A) → list_all (is_within n (n + length xs)) (counted n xs) ≡ true
counted_within n [] = refl
counted_within n (x ∷ xs) =
    let l : n ≤ n = omega arith in
    let u : n < n + length (x ∷ xs) = omega arith in
    let same : n + 1 + length xs ≡ n + length (x ∷ xs) = omega arith in
    and_from (is_within n (n + length (x ∷ xs)) n) (list_all (is_within n (n + length (x ∷ xs))) (counted (n + 1) xs)) (and_from (nat_le n n) (nat_lt n (n + length (x ∷ xs))) (le-leb n n l) (lt-ltb n (n + length (x ∷ xs)) u))
    (all_more (is_within (n + 1) (n + 1 + length xs)) (is_within n (n + length (x ∷ xs))) (wider same) (counted (n + 1) xs) (counted_within (n + 1) xs))
  where
    wider : n + 1 + length xs ≡ n + length (x ∷ xs) → (k : ℕ) → is_within (n + 1) (n + 1 + length xs) k ≡ true → is_within n (n + length (x ∷ xs)) k ≡ true
    wider same k e =
        let h = and_parts (nat_le (n + 1) k) (nat_lt k (n + 1 + length xs)) e in
        let low : n + 1 ≤ k = leb-true (n + 1) k h.0 in
        let high : k < n + 1 + length xs = ltb-true k (n + 1 + length xs) h.1 in
        and_from (nat_le n k) (nat_lt k (n + length (x ∷ xs))) (le-leb n k (omega (arith, low))) (lt-ltb k (n + length (x ∷ xs)) (omega (arith, high, same)))

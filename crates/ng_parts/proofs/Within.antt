-- Numbers within bounds.
use Rattle.std.proofs.Common.{◌≡◌, ◌<◌, ◌≤◌, ℕ, Bool, true, List, ◌++◌, Option, None, Some, ◌∙◌}
use Rattle.std.proofs.lemmas.Bool.{and_parts, and_from, leb-true, le-leb, ltb-true, lt-ltb, ne_eqb, not_from_false}
use Rattle.std.proofs.lemmas.List.Folds.{list_all-append}
use Rattle.std.specs.List.{list_all}
use Rattle.std.specs.Prelude.{◌&&◌, ◌==◌, not, nat_le, nat_lt}
use Rattle.ng_drawing.specs.Numbering.{is_within, is_apart}

-- whether a number is not this one
abbrev pub is_not : Option ℕ → ℕ → Bool
is_not None k = true
is_not (Some b) k = not (k == b)

-- Whether a number is one from n on, below c, but neither that of the site whose text stands in place of the children nor that of the one that
-- chooses among cases.
abbrev pub apart_from : Option ℕ → Option ℕ → ℕ → ℕ → ℕ → Bool
apart_from o w n c k = is_within n c k && (is_not o k && is_not w k)

pub both_all : {A : Type 0} (p : A → Bool) (xs ys : List A) → list_all p xs ≡ true → list_all p ys ≡ true → list_all p (xs ++ ys) ≡ true
both_all p xs ys e h = list_all-append p xs ys ∙ and_from (list_all p xs) (list_all p ys) e h

module _ (n c : ℕ) where
  pub within_parts : (k : ℕ) → is_within n c k ≡ true → (n ≤ k) × (k < c)
  within_parts k e = let h = and_parts (nat_le n k) (nat_lt k c) e in (leb-true n k h.0, ltb-true k c h.1)

  pub within_from : (k : ℕ) → n ≤ k → k < c → is_within n c k ≡ true
  within_from k l u = and_from (nat_le n k) (nat_lt k c) (le-leb n k l) (lt-ltb k c u)

  pub apart_make : (b k : ℕ) → n ≤ k → k < c → (k ≡ b → ⊥) → is_apart b n c k ≡ true
  apart_make b k l u ne = and_from (is_within n c k) (not (k == b)) (within_from k l u) (not_from_false (k == b) (ne_eqb k b ne))

  module _ (o w : Option ℕ) (k : ℕ) where
    pub apart_parts : apart_from o w n c k ≡ true → (is_within n c k ≡ true) × ((is_not o k ≡ true) × (is_not w k ≡ true))
    apart_parts e =
        let h = and_parts (is_within n c k) (is_not o k && is_not w k) e in
        let g = and_parts (is_not o k) (is_not w k) h.1 in
        (h.0, (g.0, g.1))

    pub apart_whole : is_within n c k ≡ true → is_not o k ≡ true → is_not w k ≡ true → apart_from o w n c k ≡ true
    apart_whole e f g = and_from (is_within n c k) (is_not o k && is_not w k) e (and_from (is_not o k) (is_not w k) f g)

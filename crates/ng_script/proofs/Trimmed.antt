-- A line without its outer blanks.
use Rattle.std.proofs.Common.{◌≡◌, ◌⊎◌, inl, inr, ℕ, Bool, true, false, not, List, [], ◌∷◌, ◌++◌, ap, sym, ◌∙◌, refl, reverse, ◌&&◌}
use Rattle.std.specs.List.{list_all}
use Rattle.std.proofs.lemmas.Bool.{and_parts}
use Rattle.std.proofs.lemmas.List.Folds.{list_all-append}
use Rattle.ng_language.proofs.LexSound.{both}
use Rattle.ng_script.specs.Whole.{IsInner, ends_blank}
use Rattle.ng_script.specs.Lines.{trimmed}
use Rattle.ng_script.specs.Scripts.{is_skipped}
use Rattle.ng_script.specs.Spelling.{begins_solid}
use Rattle.ng_script.specs.Words.{is_blank, past_blanks}
use Rattle.ng_script.proofs.Solid.{Solid, ends_later, past_gap}
use Rattle.std.proofs.lemmas.List.{reverse-append, reverse-reverse}

not_false : (b : Bool) → not b ≡ true → b ≡ false
not_false true h = absurd (cc)
not_false false h = refl

begins_with : (xs ys zs : List ℕ) → ys ≡ xs ++ zs → (xs ≡ [] → ⊥) → begins_solid ys ≡ true → begins_solid xs ≡ true
begins_with [] ys zs e n h = absurd (n refl)
begins_with (x ∷ xs) ys zs e n h = sym (ap begins_solid e) ∙ h

ended_at : (c : ℕ) (ys : List ℕ) → ends_blank (reverse (c ∷ ys)) ≡ is_blank c
ended_at c ys = ap ends_blank (reverse-append (c ∷ []) ys) ∙ ends_later (reverse ys) c []

no_reverse : (c : ℕ) (ys : List ℕ) → reverse (c ∷ ys) ≡ [] → ⊥
no_reverse c ys e = none (reverse ys) c (sym (reverse-append (c ∷ []) ys) ∙ e)
  where
    none : (xs : List ℕ) (c : ℕ) → xs ++ c ∷ [] ≡ [] → ⊥
    none [] c e = cc
    none (x ∷ xs) c e = cc

solid_by : (x gap y : List ℕ) → reverse x ≡ gap ++ y → (y ≡ []) ⊎ (begins_solid y ≡ true) → (x ≡ []) ⊎ (begins_solid x ≡ true) → (reverse y ≡ []) ⊎ Solid (reverse y)
solid_by x gap [] e h k = inl refl
solid_by x gap (c ∷ y) e (inl n) k = absurd (cc)
solid_by x gap (c ∷ y) e (inr s) k =
    let whole : x ≡ reverse (c ∷ y) ++ reverse gap = sym (reverse-reverse x) ∙ (ap reverse e ∙ reverse-append gap (c ∷ y)) in
    inr (record { begins = first k whole; ended = ended_at c y ∙ not_false (is_blank c) s })
  where
    first : (x ≡ []) ⊎ (begins_solid x ≡ true) → x ≡ reverse (c ∷ y) ++ reverse gap → begins_solid (reverse (c ∷ y)) ≡ true
    first (inl n) w = absurd (empty (reverse (c ∷ y)) (no_reverse c y) (sym w ∙ n))
      where
        empty : (xs : List ℕ) → (xs ≡ [] → ⊥) → xs ++ reverse gap ≡ [] → ⊥
        empty [] n e = n refl
        empty (z ∷ zs) n e = cc
    first (inr b) w = begins_with (reverse (c ∷ y)) x (reverse gap) w (no_reverse c y) b

pub trimmed_solid : (cs : List ℕ) → (trimmed cs ≡ []) ⊎ Solid (trimmed cs)
trimmed_solid cs =
    let p = past_gap cs in
    let q = past_gap (reverse (past_blanks cs)) in
    solid_by (past_blanks cs) q.0 (past_blanks (reverse (past_blanks cs))) q.1 q.3 p.3

stands_by : (t : List ℕ) → (t ≡ []) ⊎ Solid t → is_skipped t ≡ false → Solid t
stands_by t (inl e) h = let s : is_skipped t ≡ true = ap is_skipped e in absurd (cc)
stands_by t (inr s) h = s

-- a line that is not skipped
pub stands : (l : List ℕ) → is_skipped (trimmed l) ≡ false → Solid (trimmed l)
stands l h = stands_by (trimmed l) (trimmed_solid l) h

blank_reversed : (gap : List ℕ) → list_all is_blank gap ≡ true → list_all is_blank (reverse gap) ≡ true
blank_reversed [] h = refl
blank_reversed (c ∷ gap) h =
    let p = and_parts (is_blank c) (list_all is_blank gap) h in
    ap (list_all is_blank) (reverse-append (c ∷ []) gap) ∙ (list_all-append is_blank (reverse gap) (c ∷ [])
    ∙ both (list_all is_blank (reverse gap)) (is_blank c && true) (blank_reversed gap p.1) (both (is_blank c) true p.0 refl))

ends_of : (t : List ℕ) → (t ≡ []) ⊎ Solid t → (t ≡ []) ⊎ ((begins_solid t ≡ true) × (ends_blank t ≡ false))
ends_of t (inl e) = inl e
ends_of t (inr s) = inr (s.begins, s.ended)

-- what is left of a line without its outer blanks
pub trimmed_inner : (cs : List ℕ) → IsInner (trimmed cs) cs
trimmed_inner cs =
    let p = past_gap cs in
    let q = past_gap (reverse (past_blanks cs)) in
    let whole : past_blanks cs ≡ trimmed cs ++ reverse q.0 = sym (reverse-reverse (past_blanks cs)) ∙ (ap reverse q.1 ∙ reverse-append q.0 (past_blanks (reverse (past_blanks cs)))) in
    (p.0, reverse q.0, p.1 ∙ ap (λ (t : List ℕ). p.0 ++ t) whole, p.2, blank_reversed q.0 q.2, ends_of (trimmed cs) (trimmed_solid cs))

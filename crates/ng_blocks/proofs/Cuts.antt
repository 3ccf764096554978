-- The first divider between white space, as it is read and as it is spelled.
use Rattle.std.proofs.Common.{◌≡◌, ◌≤◌, ◌⊎◌, inl, inr, ℕ, Bool, true, false, refl, ap, sym, subst, ◌∙◌, List, [], ◌∷◌, ◌++◌, length, Option, Some, None, arith}
use Rattle.std.specs.Prelude.{if◌then◌else◌}
use Rattle.std.proofs.lemmas.List.{append_assoc}
use Rattle.ng_language.specs.Choice.{when_some}
use Rattle.ng_language.specs.Letters.{is_space}
use Rattle.ng_blocks.specs.Dividing.{after_divider, cut_from}
use Rattle.ng_blocks.specs.RepeatSpelling.{ends_spaced, IsCut, IsFirstCut, HasNoCut}
use Rattle.ng_blocks.specs.declared.dividing.Divider.{Divider}
use Rattle.ng_blocks.proofs.Dividers.{divider_here, divider_is}

here_cut : (d : Divider) (c : ℕ) (cs y : List ℕ) → is_space c ≡ true → after_divider d cs ≡ Some y → IsCut d (c ∷ cs) (c ∷ []) y
here_cut d c cs y e h = let k = divider_is d cs y h in (k.0, ap (λ x. c ∷ x) k.1, k.2, e, k.3)

cons_cut : (d : Divider) (c : ℕ) (cs x y : List ℕ) → IsCut d cs x y → IsCut d (c ∷ cs) (c ∷ x) y
cons_cut d c cs [] y k = let e : false ≡ true = k.3 in absurd (cc)
cons_cut d c cs (b ∷ x) y k = (k.0, ap (λ z. c ∷ z) k.1, k.2, k.3, k.4)

abbrev HeadCut : Divider → ℕ → List ℕ → List ℕ → List ℕ → Type 0
HeadCut d c cs x y = (x ≡ c ∷ []) × (is_space c ≡ true) × (after_divider d cs ≡ Some y)

abbrev TailCut : Divider → ℕ → List ℕ → List ℕ → List ℕ → Type 0
TailCut d c cs x y = (z : List ℕ) × (x ≡ c ∷ z) × IsCut d cs z y

-- a cut stands right after the first character, or further on
tail_cut : (d : Divider) (c : ℕ) (cs x y : List ℕ) → IsCut d (c ∷ cs) x y → HeadCut d c cs x y ⊎ TailCut d c cs x y
tail_cut d c cs [] y k = let e : false ≡ true = k.3 in absurd (cc)
tail_cut d c cs (b ∷ []) y k =
    let whole : c ∷ cs ≡ b ∷ (k.0 ++ y) = k.1 in
    let first : c ≡ b = cc in
    let rest : cs ≡ k.0 ++ y = cc in
    inl (ap (λ z. z ∷ []) (sym first), ap is_space first ∙ k.3, ap (after_divider d) rest ∙ divider_here d k.0 y k.2 k.4)
tail_cut d c cs (b ∷ e ∷ z) y k =
    let whole : c ∷ cs ≡ b ∷ ((e ∷ z) ++ (k.0 ++ y)) = k.1 in
    let first : c ≡ b = cc in
    let rest : cs ≡ (e ∷ z) ++ (k.0 ++ y) = cc in
    inr (e ∷ z, ap (λ v. v ∷ e ∷ z) (sym first), (k.0, rest, k.2, k.3, k.4))

abbrev CutIs : Divider → List ℕ → List ℕ → Option (List ℕ × List ℕ) → Type 0
CutIs d b cs None = HasNoCut d cs
CutIs d b cs (Some p) = (x : List ℕ) × (p.0 ≡ b ++ x) × IsFirstCut d cs x p.1

shifted : (d : Divider) (c : ℕ) (b cs : List ℕ) (r : Option (List ℕ × List ℕ)) → ((y : List ℕ) → is_space c ≡ true → after_divider d cs ≡ Some y → ⊥) → CutIs d (b ++ c ∷ []) cs r → CutIs d b (c ∷ cs) r
shifted d c b cs None never k = λ x y cut. elim (tail_cut d c cs x y cut) [ inl h ↦ never y h.1 h.2 | inr h ↦ k h.0 y h.2 ]
shifted d c b cs (Some p) never k =
    (c ∷ k.0, k.1 ∙ append_assoc b (c ∷ []) k.0, (cons_cut d c cs k.0 p.1 k.2.0, least))
  where
    least : (x y : List ℕ) → IsCut d (c ∷ cs) x y → length (c ∷ k.0) ≤ length x
    least x y cut = elim (tail_cut d c cs x y cut) [
      | inl h ↦ absurd (never y h.1 h.2)
      | inr h ↦ let e : length x ≡ length (c ∷ h.0) = ap length h.1 in let m : length k.0 ≤ length h.0 = k.2.1 h.0 y h.2 in omega arith
    ]

ends_long : (x : List ℕ) → ends_spaced x ≡ true → 1 ≤ length x
ends_long [] h = absurd (cc)
ends_long (c ∷ x) h = omega arith

cut_step : (d : Divider) (b : List ℕ) (c : ℕ) (cs : List ℕ) (s : Bool) (o : Option (List ℕ)) → is_space c ≡ s → after_divider d cs ≡ o → CutIs d (b ++ c ∷ []) cs (cut_from d (b ++ c ∷ []) cs) → CutIs d b (c ∷ cs) (if s then when_some o (λ after. Some (b ++ c ∷ [], after)) (cut_from d (b ++ c ∷ []) cs) else cut_from d (b ++ c ∷ []) cs)
cut_step d b c cs true (Some y) e f k = (c ∷ [], refl, (here_cut d c cs y e f, λ x z cut. ends_long x cut.3))
cut_step d b c cs true None e f k = shifted d c b cs (cut_from d (b ++ c ∷ []) cs) (λ y s h. let g : None ≡ Some y = sym f ∙ h in absurd (cc)) k
cut_step d b c cs false o e f k = shifted d c b cs (cut_from d (b ++ c ∷ []) cs) (λ y s h. let g : false ≡ true = sym e ∙ s in absurd (cc)) k

no_cut : (d : Divider) (x y : List ℕ) → IsCut d [] x y → ⊥
no_cut d [] y k = let e : false ≡ true = k.3 in absurd (cc)
no_cut d (b ∷ x) y k = let e : [] ≡ b ∷ (x ++ (k.0 ++ y)) = k.1 in absurd (cc)

cut_is : (d : Divider) (b cs : List ℕ) → CutIs d b cs (cut_from d b cs)
cut_is d b [] = no_cut d
cut_is d b (c ∷ cs) = cut_step d b c cs (is_space c) (after_divider d cs) refl refl (cut_is d (b ++ c ∷ []) cs)

pub first_is : (d : Divider) (cs : List ℕ) (p : List ℕ × List ℕ) → cut_from d [] cs ≡ Some p → IsFirstCut d cs p.0 p.1
first_is d cs p e =
    let k : CutIs d [] cs (Some p) = subst (CutIs d [] cs) e (cut_is d [] cs) in
    subst (λ x. IsFirstCut d cs x p.1) (sym k.1) k.2

pub none_is : (d : Divider) (cs : List ℕ) → cut_from d [] cs ≡ None → HasNoCut d cs
none_is d cs e = subst (CutIs d [] cs) e (cut_is d [] cs)

parts_same : (xs ys us vs : List ℕ) → length xs ≡ length ys → xs ++ us ≡ ys ++ vs → (xs ≡ ys) × (us ≡ vs)
parts_same [] [] us vs l e = (refl, e)
parts_same [] (y ∷ ys) us vs l e = absurd (omega (arith, l))
parts_same (x ∷ xs) [] us vs l e = absurd (omega (arith, l))
parts_same (x ∷ xs) (y ∷ ys) us vs l e =
    let first : x ≡ y = cc in
    let rest : xs ++ us ≡ ys ++ vs = cc in
    let k = parts_same xs ys us vs (omega (arith, l)) rest in
    (ap (λ z. z ∷ xs) first ∙ ap (λ z. y ∷ z) k.0, k.1)

same_cut : (d : Divider) (cs x y z w : List ℕ) → IsFirstCut d cs x y → IsFirstCut d cs z w → (z ≡ x) × (w ≡ y)
same_cut d cs x y z w k h =
    let a : length x ≤ length z = k.1 z w h.0 in
    let b : length z ≤ length x = h.1 x y k.0 in
    let parts = parts_same z x (h.0.0 ++ w) (k.0.0 ++ y) (omega arith) (sym h.0.1 ∙ k.0.1) in
    let e : Some w ≡ Some y = sym (divider_here d h.0.0 w h.0.2 h.0.4) ∙ ap (after_divider d) parts.1 ∙ divider_here d k.0.0 y k.0.2 k.0.4 in
    (parts.0, cc)

pub first_only : (d : Divider) (cs x y : List ℕ) → IsFirstCut d cs x y → cut_from d [] cs ≡ Some (x, y)
first_only d cs x y k = decide (cut_from d [] cs) refl
  where
    decide : (r : Option (List ℕ × List ℕ)) → cut_from d [] cs ≡ r → cut_from d [] cs ≡ Some (x, y)
    decide None e = absurd (none_is d cs e x y k.0)
    decide (Some p) e = let same = same_cut d cs x y p.0 p.1 k (first_is d cs p e) in e ∙ ap (λ z. Some (z, p.1)) same.0 ∙ ap (λ z. Some (x, z)) same.1

pub none_only : (d : Divider) (cs : List ℕ) → HasNoCut d cs → cut_from d [] cs ≡ None
none_only d cs n = decide (cut_from d [] cs) refl
  where
    decide : (r : Option (List ℕ × List ℕ)) → cut_from d [] cs ≡ r → cut_from d [] cs ≡ None
    decide None e = e
    decide (Some p) e = absurd (n p.0 p.1 (first_is d cs p e).0)

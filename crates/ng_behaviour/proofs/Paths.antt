-- Paths in their order, and those that begin with another.
use Rattle.std.proofs.Common.{ℕ, ◌<◌, ◌≡◌, true, false, List, [], ◌∷◌, ◌++◌, refl, ap, sym, ◌∙◌, arith, inl, inr, ◌⊎◌}
use Rattle.std.specs.Ordering.{is_gt, nat_cmp, ordering_then}
use Rattle.std.specs.declared.cmp.Ordering.{Ordering}
use Rattle.std.specs.declared.cmp.Ordering.TheVariants.{Equal, Greater}
use Rattle.std.specs.Cmp.{nat_cmp_is}
use Rattle.std.proofs.lemmas.Bool.Decides.{eqb_tells}
use Rattle.ng_base.specs.Order.{path_cmp}
use Rattle.ng_behaviour.specs.Scopes.{begins}

near : (a b : ℕ) → (a < b) ⊎ ((a ≡ b) ⊎ (b < a))
near a b = grind arith

pub begins-itself : (p : List ℕ) → begins p p ≡ true
begins-itself [] = refl
begins-itself (x ∷ p) = elim (eqb_tells x x) [ inl t ↦ rw t.0 (begins-itself p) | inr t ↦ absurd (t.1 refl) ]

begins-head : (u q : ℕ) (us qs : List ℕ) → begins (u ∷ us) (q ∷ qs) ≡ true → (u ≡ q) × (begins us qs ≡ true)
begins-head u q us qs h = elim (eqb_tells u q) [ inl t ↦ (t.1, rw t.0 at h) | inr t ↦ absurd (let m = rw t.0 at h in cc) ]

begins-both : (u q : ℕ) (us qs : List ℕ) → u ≡ q → begins us qs ≡ true → begins (u ∷ us) (q ∷ qs) ≡ true
begins-both u q us qs e h = elim (eqb_tells u q) [ inl t ↦ rw t.0 h | inr t ↦ absurd (t.1 e) ]

pub begins-through : (u p q : List ℕ) → begins u p ≡ true → begins p q ≡ true → begins u q ≡ true
begins-through [] p q a b = refl
begins-through (u ∷ us) [] q a b = absurd (cc)
begins-through (u ∷ us) (p ∷ ps) [] a b = absurd (cc)
begins-through (u ∷ us) (p ∷ ps) (q ∷ qs) a b =
    let x = begins-head u p us ps a in
    let y = begins-head p q ps qs b in
    begins-both u q us qs (x.0 ∙ y.0) (begins-through us ps qs x.1 y.1)

-- what begins a path with one more number begins the path, or is it
pub begins-before : (u p : List ℕ) (k : ℕ) → begins u (p ++ k ∷ []) ≡ true → (begins u p ≡ true) ⊎ (u ≡ p ++ k ∷ [])
begins-before [] p k h = inl refl
begins-before (u ∷ []) [] k h = inr (ap (λ (x : ℕ). x ∷ []) (begins-head u k [] [] h).0)
begins-before (u ∷ v ∷ us) [] k h = absurd (let m = (begins-head u k (v ∷ us) [] h).1 in cc)
begins-before (u ∷ us) (p ∷ ps) k h =
    let x = begins-head u p us (ps ++ k ∷ []) h in
    elim (begins-before us ps k x.1) [
      | inl b ↦ inl (begins-both u p us ps x.0 b)
      | inr e ↦ inr (ap (λ (n : ℕ). n ∷ us) x.0 ∙ ap (λ ns. p ∷ ns) e)
    ]

then-equal : (u q : ℕ) (r : Ordering) → u ≡ q → ordering_then (nat_cmp u q) r ≡ r
then-equal u q r e = rw (← nat_cmp_is u q Equal e) refl

then-greater : (u q : ℕ) (r : Ordering) → q < u → ordering_then (nat_cmp u q) r ≡ Greater
then-greater u q r e = rw (← nat_cmp_is u q Greater e) refl

-- a path is not above those that begin with it
pub begins-after : (u q : List ℕ) → begins u q ≡ true → is_gt (path_cmp u q) ≡ false
begins-after [] [] h = refl
begins-after [] (q ∷ qs) h = refl
begins-after (u ∷ us) [] h = absurd (cc)
begins-after (u ∷ us) (q ∷ qs) h =
    let x = begins-head u q us qs h in
    ap is_gt (then-equal u q (path_cmp us qs) x.0) ∙ begins-after us qs x.1

-- what stands between a path and one that begins with it begins with it too
pub begins-between : (u x q : List ℕ) → begins u q ≡ true → is_gt (path_cmp u x) ≡ false → is_gt (path_cmp x q) ≡ false → begins u x ≡ true
begins-between [] x q h a b = refl
begins-between (u ∷ us) [] q h a b = absurd (cc)
begins-between (u ∷ us) (x ∷ xs) [] h a b = absurd (cc)
begins-between (u ∷ us) (x ∷ xs) (q ∷ qs) h a b =
    let y = begins-head u q us qs h in
    elim (near u x) [
      | inl l ↦ absurd (let m = sym (ap is_gt (then-greater x q (path_cmp xs qs) (let e : u ≡ q = y.0 in omega arith))) ∙ b in cc)
      | inr r ↦ elim r [
        | inl e ↦
            begins-both u x us xs e (begins-between us xs qs y.1 (sym (ap is_gt (then-equal u x (path_cmp us xs) e)) ∙ a)
            (sym (ap is_gt (then-equal x q (path_cmp xs qs) (sym e ∙ y.0))) ∙ b))
        | inr g ↦ absurd (let m = sym (ap is_gt (then-greater u x (path_cmp us xs) g)) ∙ a in cc)
      ]
    ]

-- paths of which neither is above the other are one
pub path-same : (p q : List ℕ) → is_gt (path_cmp p q) ≡ false → is_gt (path_cmp q p) ≡ false → p ≡ q
path-same [] [] a b = refl
path-same [] (q ∷ qs) a b = absurd (cc)
path-same (p ∷ ps) [] a b = absurd (cc)
path-same (p ∷ ps) (q ∷ qs) a b = elim (near p q) [
  | inl l ↦ absurd (let m = sym (ap is_gt (then-greater q p (path_cmp qs ps) l)) ∙ b in cc)
  | inr r ↦ elim r [
    | inl e ↦
        ap (λ (n : ℕ). n ∷ ps) e
        ∙ ap (λ ns. q ∷ ns) (path-same ps qs (sym (ap is_gt (then-equal p q (path_cmp ps qs) e)) ∙ a) (sym (ap is_gt (then-equal q p (path_cmp qs ps) (sym e))) ∙ b))
    | inr g ↦ absurd (let m = sym (ap is_gt (then-greater p q (path_cmp ps qs) g)) ∙ a in cc)
  ]
]

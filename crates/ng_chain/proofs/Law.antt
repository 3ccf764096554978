-- The steps of a walk against the list that was copied.
use Rattle.std.proofs.Common.{ℕ, ◌<◌, ◌≤◌, ◌≡◌, List, [], ◌∷◌, map, None, IsSome, refl, ap, sym, ◌∙◌, arith, inl, inr, ◌⊎◌}
use Rattle.std.proofs.lemmas.Bool.{ne_eqb}
use Rattle.ng_chain.specs.declared.chain.Token.{Token}
use Rattle.ng_chain.specs.Walked.{found, serial_of, IsRising}
use Rattle.ng_chain.specs.WalkLaw.{met_of, WalksOn, over, steps, IsThin, WalkLaw}

near : (a b : ℕ) → (a ≡ b) ⊎ ((a < b) ⊎ (b < a))
near a b = grind arith

tail_none : {T : Type 0} (x : Token × T) (xs : List (Token × T)) (r : ℕ) → (r ≡ (serial_of x.0) → ⊥) → found xs r ≡ None → found (x ∷ xs) r ≡ None
tail_none x xs r n h = rw (ne_eqb r (serial_of x.0) n) h

low_none : {T : Type 0} (es : List (Token × T)) (j n r : ℕ) → IsRising j n es → r ≤ j → found es r ≡ None
low_none [] j n r h l = refl
low_none (x ∷ xs) j n r h l = let a : j < (serial_of x.0) = h.0 in tail_none x xs r (λ q. omega arith) (low_none xs (serial_of x.0) n r h.2 (omega arith))

met-skip : {T : Type 0} (f : ℕ → List (Token × T) → List (Token × T)) (k : ℕ) (ks : List ℕ) (es : List (Token × T)) → found es k ≡ None → met_of f (k ∷ ks) es ≡ met_of f ks es
met-skip f k ks es h = rw h refl

met-take : {T : Type 0} (f : ℕ → List (Token × T) → List (Token × T)) (k : ℕ) (ks : List ℕ) (es : List (Token × T)) → IsSome (found es k) → met_of f (k ∷ ks) es ≡ k ∷ met_of f ks (f k es)
met-take f k ks es h = rw h refl

walk_copied : {T : Type 0} (e : ℕ) (f : ℕ → List (Token × T) → List (Token × T)) → IsThin e f → (xs es : List (Token × T)) (p : ℕ) (ss : List ℕ) → IsRising p e xs → ((r : ℕ) → p < r → r ≤ e → found xs r ≡ None → found es r ≡ None) → WalksOn f e es p ss → ss ≡ met_of f (map (λ x. serial_of x.0) xs) es
walk_copied e f th [] es p [] rise cover w = refl
walk_copied e f th [] es p (s ∷ ss) rise cover (steps _ _ _ _ n w) = absurd (let q : found es s ≡ None = cover s n.above n.within refl in let m = rw q at n.stands in cc)
walk_copied e f th (x ∷ xs) es p [] rise cover (over _ _ h) =
    let a : p < (serial_of x.0) = rise.0 in
    walk_copied e f th xs es (serial_of x.0) [] rise.2 (λ r i j k. h r (omega arith) j) (over es (serial_of x.0) (λ r i j. h r (omega arith) j)) ∙
    sym (met-skip f (serial_of x.0) (map (λ x. serial_of x.0) xs) es (h (serial_of x.0) a rise.1))
walk_copied e f th (x ∷ xs) es p (s ∷ ss) rise cover (steps _ _ _ _ n w) =
    let a : p < (serial_of x.0) = rise.0 in
    let b : s ≤ e = n.within in
    elim (near s (serial_of x.0)) [
      | inl same ↦
          ap (λ (h : ℕ). h ∷ ss) same ∙
          (ap (λ us. (serial_of x.0) ∷ us)
          (walk_copied e f th xs (f (serial_of x.0) es) (serial_of x.0) ss rise.2 (λ r i j k. th (serial_of x.0) r es j (cover r (omega arith) j (tail_none x xs r (λ q. omega arith) k))) (rw same at w)) ∙
          sym (met-take f (serial_of x.0) (map (λ x. serial_of x.0) xs) es (rw same at n.stands)))
      | inr other ↦ elim other [
        | inl before ↦ absurd (let q : found es s ≡ None = cover s n.above n.within (tail_none x xs s (λ q. omega arith) (low_none xs (serial_of x.0) e s rise.2 (omega arith))) in let m = rw q at n.stands in cc)
        | inr behind ↦
            walk_copied e f th xs es (serial_of x.0) (s ∷ ss) rise.2 (λ r i j k. cover r (omega arith) j (tail_none x xs r (λ q. omega arith) k))
            (steps es (serial_of x.0) s ss (record { above = behind; within = n.within; stands = n.stands; least = λ r i j. n.least r (omega arith) j }) w) ∙
            sym (met-skip f (serial_of x.0) (map (λ x. serial_of x.0) xs) es (n.least (serial_of x.0) a behind))
      ]
    ]

pub walk_law : (T : Type 0) → WalkLaw T
walk_law T e f es ss rise th w = walk_copied e f th es es 0 ss rise (λ r i j k. k) w

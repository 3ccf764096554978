-- Runs of characters that pass a test and of others, in turn.
use Rattle.std.proofs.Common.{◌≡◌, ◌<◌, ℕ, zero, suc, Bool, true, false, not, List, [], ◌∷◌, ◌++◌, length, refl, ap, sym, ◌∙◌, arith, append_assoc, append-nil, length-append}
use Rattle.std.specs.Bool.{⊤}
use Rattle.std.specs.List.{AllByRecursion, flat_map}
use Rattle.ng_collect.specs.Cloak.{is_nil}

-- a run, and what stands behind it
abbrev pub Part : Type 0
Part = List ℕ × List ℕ

abbrev pub text_of : Part → List ℕ
text_of p = p.0 ++ p.1

module _ (test : ℕ → Bool) where
  abbrev pub All : Bool → List ℕ → Type 0
  All b t = AllByRecursion (λ c. test c ≡ b) t

  abbrev pub Begins : Bool → List ℕ → Type 0
  Begins b [] = ⊤
  Begins b (c ∷ cs) = test c ≡ b

  abbrev pub Span : Bool → List ℕ → Type 0
  Span b x = (s : List ℕ) × (r : List ℕ) × All b s × Begins (not b) r × (x ≡ s ++ r)

  more : (b : Bool) (c : ℕ) (cs : List ℕ) → test c ≡ b → Span b cs → Span b (c ∷ cs)
  more b c cs e (s, r, h, n, i) = (c ∷ s, r, (e, h), n, ap (λ x. c ∷ x) i)

  at_first : (b v : Bool) (c : ℕ) (cs : List ℕ) → test c ≡ v → Span b cs → Span b (c ∷ cs)
  at_first true true c cs e p = more true c cs e p
  at_first false false c cs e p = more false c cs e p
  at_first true false c cs e p = ([], c ∷ cs, tt, e, refl)
  at_first false true c cs e p = ([], c ∷ cs, tt, e, refl)

  pub span : (b : Bool) (x : List ℕ) → Span b x
  span b [] = ([], [], tt, tt, refl)
  span b (c ∷ cs) = at_first b (test c) c cs refl (span b cs)

  -- a run is not empty where the text begins with such a character
  both : (v : Bool) → v ≡ true → v ≡ false → ⊥
  both v t f = let x : true ≡ false = sym t ∙ f in cc

  same_first : (c d : ℕ) (cs ds : List ℕ) → c ∷ cs ≡ d ∷ ds → d ≡ c
  same_first c d cs ds e = cc

  not_nil_true : (c : ℕ) (cs s r : List ℕ) → test c ≡ true → Begins false r → c ∷ cs ≡ s ++ r → is_nil s ≡ false
  not_nil_true c cs [] [] e n i = absurd (cc)
  not_nil_true c cs [] (d ∷ r) e n i = absurd (both (test c) e (ap test (sym (same_first c d cs r i)) ∙ n))
  not_nil_true c cs (d ∷ s) r e n i = refl

  pub not_nil_false : (c : ℕ) (cs s r : List ℕ) → test c ≡ false → Begins true r → c ∷ cs ≡ s ++ r → is_nil s ≡ false
  not_nil_false c cs [] [] e n i = absurd (cc)
  not_nil_false c cs [] (d ∷ r) e n i = absurd (both (test c) (ap test (sym (same_first c d cs r i)) ∙ n) e)
  not_nil_false c cs (d ∷ s) r e n i = refl

  abbrev pub IsPart : Part → Type 0
  IsPart p = All true p.0 × (is_nil p.0 ≡ false) × (All false p.1 × (is_nil p.1 ≡ false))

  abbrev pub Parts : List ℕ → Type 0
  Parts x = (ps : List Part) × (tail : List ℕ) × AllByRecursion IsPart ps × All true tail × (x ≡ flat_map text_of ps ++ tail)

  with_part : (x s w r : List ℕ) → x ≡ s ++ (w ++ r) → All true s → is_nil s ≡ false → All false w → is_nil w ≡ false → Parts r → Parts x
  with_part x s w r e hs ns hw nw (ps, tail, h, t, i) = (
    (s, w) ∷ ps,
    tail,
    ((hs, ns, (hw, nw)), h),
    t,
    e ∙ (ap (λ y. s ++ (w ++ y)) i ∙ (sym (append_assoc s w (flat_map text_of ps ++ tail)) ∙ sym (append_assoc (s ++ w) (flat_map text_of ps) tail))),
  )

  longer : (s w r : List ℕ) (n : ℕ) (x : List ℕ) → x ≡ s ++ (w ++ r) → is_nil w ≡ false → length x < suc n → length r < n
  longer s [] r n x e h l = absurd (cc)
  longer s (c ∷ w) r n x e h l =
      let a = ap length e ∙ length-append s ((c ∷ w) ++ r) in
      let b = length-append (c ∷ w) r in
      omega (arith, a, b, l)

  abbrev AllHave : ℕ → Type 0
  AllHave n = (x : List ℕ) → length x < n → Begins true x → Parts x

  from_word : (n : ℕ) → AllHave n → (d : ℕ) (ds s r : List ℕ) → length (d ∷ ds) < suc n → test d ≡ true → All true s → Begins false r → d ∷ ds ≡ s ++ r → Parts (d ∷ ds)
  from_word n all d ds s [] l e h b i = ([], s, tt, h, i ∙ append-nil s)
  from_word n all d ds s (c ∷ cs) l e h b i = behind (span false (c ∷ cs))
    where
      behind : Span false (c ∷ cs) → Parts (d ∷ ds)
      behind (w, r, hw, br, j) =
          let nw = not_nil_false c cs w r b br j in
          let whole = i ∙ ap (λ y. s ++ y) j in
          with_part (d ∷ ds) s w r whole h (not_nil_true d ds s (c ∷ cs) e b i) hw nw (all r (longer s w r n (d ∷ ds) whole nw l) br)

  step : (n : ℕ) → AllHave n → AllHave (suc n)
  step n all [] l b = ([], [], tt, tt, refl)
  step n all (d ∷ ds) l b = found (span true (d ∷ ds))
    where
      found : Span true (d ∷ ds) → Parts (d ∷ ds)
      found (s, r, h, br, i) = from_word n all d ds s r l b h br i

  all_have : (n : ℕ) → AllHave n
  all_have zero x l b = absurd (omega (arith, l))
  all_have (suc n) x l b = step n (all_have n) x l b

  pub parts : (x : List ℕ) → Begins true x → Parts x
  parts x b = all_have (suc (length x)) x (omega arith) b

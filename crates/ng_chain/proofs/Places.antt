-- Where a serial stands among slots in rising serials.
use Rattle.std.proofs.Common.{ℕ, zero, suc, ◌+◌, ◌-◌, ◌<◌, ◌≤◌, ◌≡◌, eqb, cond, List, [], ◌∷◌, length, Option, Some, None, IsSome, refl, sym, ◌∙◌, arith, get_or, inl, inr, ◌⊎◌}
use Rattle.std.proofs.lemmas.Bool.{ne_eqb, eq-eqb, le-leb}
use Rattle.std.proofs.lemmas.Bool.Decides.{leb_tells, eqb_tells}
use Rattle.ng_chain.specs.declared.chain.Token.{Token}
use Rattle.ng_chain.specs.declared.slots.Slot.{Slot}
use Rattle.ng_chain.specs.Walked.{found, value_of, serial_of, IsNext, IsRising}
use Rattle.ng_chain.specs.Slots.{standing, entry_before, serials, Ascends, EndsBy, passed}

pub cond_same : {A : Type 0} (a b : ℕ) (x y : A) → a ≡ b → cond (eqb a b) x y ≡ x
cond_same a b x y h = rw (eq-eqb a b h) refl

pub cond_other : {A : Type 0} (a b : ℕ) (x y : A) → (a ≡ b → ⊥) → cond (eqb a b) x y ≡ y
cond_other a b x y h = rw (ne_eqb a b h) refl

pub passed-bound : {T : Type 0} (p : ℕ) (xs : List (Slot T)) → passed p (serials xs) ≤ length xs
passed-bound p [] = omega arith
passed-bound p (x ∷ xs) = elim (leb_tells x.serial p) [
  | inl t ↦ rw t.0 (let r = passed-bound p xs in omega arith)
  | inr t ↦ rw t.0 (omega arith)
]

pub passed-low : (p k : ℕ) (ss : List ℕ) → Ascends k ss → p ≤ k → passed p ss ≡ 0
passed-low p k [] a h = refl
passed-low p k (x ∷ ss) a h = elim (leb_tells x p) [
  | inl t ↦ absurd (let q : k < x = a.0 in omega (arith, t.1))
  | inr t ↦ rw t.0 refl
]

pub serial-above : {T : Type 0} (xs : List (Slot T)) (k i : ℕ) (d : Slot T) → Ascends k (serials xs) → i < length xs → k < (get_or xs i d).serial
serial-above [] k i d a h = absurd (omega arith)
serial-above (x ∷ xs) k zero d a h = a.0
serial-above (x ∷ xs) k (suc i) d a h = let q : k < x.serial = a.0 in let r = serial-above xs x.serial i d a.1 (omega arith) in omega arith

-- a slot whose serial is not above p is among those that are passed
pub passed-reached : {T : Type 0} (xs : List (Slot T)) (k i p : ℕ) (d : Slot T) → Ascends k (serials xs) → i < length xs → (get_or xs i d).serial ≤ p → i < passed p (serials xs)
passed-reached [] k i p d a h l = absurd (omega arith)
passed-reached (x ∷ xs) k zero p d a h l = rw (le-leb x.serial p l) (omega arith)
passed-reached (x ∷ xs) k (suc i) p d a h l = elim (leb_tells x.serial p) [
  | inl t ↦ rw t.0 (let r = passed-reached xs x.serial i p d a.1 (omega arith) l in omega arith)
  | inr t ↦ absurd (let q = serial-above xs x.serial i d a.1 (omega arith) in omega (arith, t.1))
]

-- a slot whose serial is above p is not
pub passed-short : {T : Type 0} (xs : List (Slot T)) (i p : ℕ) (d : Slot T) → i < length xs → p < (get_or xs i d).serial → passed p (serials xs) ≤ i
passed-short [] i p d h l = absurd (omega arith)
passed-short (x ∷ xs) zero p d h l = elim (leb_tells x.serial p) [
  | inl t ↦ absurd (omega (arith, t.1))
  | inr t ↦ rw t.0 (omega arith)
]
passed-short (x ∷ xs) (suc i) p d h l = elim (leb_tells x.serial p) [
  | inl t ↦ rw t.0 (let r = passed-short xs i p d (omega arith) l in omega arith)
  | inr t ↦ rw t.0 (omega arith)
]

-- behind a slot stand those above its serial
pub passed-next : {T : Type 0} (xs : List (Slot T)) (k i p : ℕ) (d : Slot T) → Ascends k (serials xs) → i < length xs → p ≡ (get_or xs i d).serial → passed p (serials xs) ≡ i + 1
passed-next [] k i p d a h e = absurd (omega arith)
passed-next (x ∷ xs) k zero p d a h e = rw (le-leb x.serial p (omega arith), passed-low p x.serial (serials xs) a.1 (omega arith)) refl
passed-next (x ∷ xs) k (suc i) p d a h e =
    let q = serial-above xs x.serial i d a.1 (omega arith) in
    rw (le-leb x.serial p (omega arith), passed-next xs x.serial i p d a.1 (omega arith) e) (omega arith)

pub found-skip : {T : Type 0} (n s : ℕ) (o : Option T) (es : List (Token × T)) → (s ≡ n → ⊥) → found (entry_before n o es) s ≡ found es s
found-skip n s None es h = refl
found-skip n s (Some v) es h = cond_other s n _ _ h

pub found-here : {T : Type 0} (n s : ℕ) (o : Option T) (es : List (Token × T)) → s ≡ n → found es s ≡ None → found (entry_before n o es) s ≡ o
found-here n s None es h e = e
found-here n s (Some v) es h e = cond_same s n _ _ h

near : (a b : ℕ) → (a ≤ b) ⊎ (b < a)
near a b = grind arith

nat_cases : (n : ℕ) → (n ≡ 0) ⊎ (0 < n)
nat_cases n = grind arith

pub found-low : {T : Type 0} (xs : List (Slot T)) (k s : ℕ) → Ascends k (serials xs) → s ≤ k → found (standing xs) s ≡ None
found-low [] k s a h = refl
found-low (x ∷ xs) k s a h =
    let q : k < x.serial = a.0 in
    found-skip x.serial s x.value (standing xs) (λ e. omega arith) ∙ found-low xs x.serial s a.1 (omega arith)

-- a look-up reads the slot
pub found-slot : {T : Type 0} (xs : List (Slot T)) (k i s : ℕ) (d : Slot T) → Ascends k (serials xs) → i < length xs → s ≡ (get_or xs i d).serial → found (standing xs) s ≡ (get_or xs i d).value
found-slot [] k i s d a h e = absurd (omega arith)
found-slot (x ∷ xs) k zero s d a h e = found-here x.serial s x.value (standing xs) e (found-low xs x.serial s a.1 (omega arith))
found-slot (x ∷ xs) k (suc i) s d a h e =
    let q : x.serial < (get_or xs i d).serial = serial-above xs x.serial i d a.1 (omega arith) in
    found-skip x.serial s x.value (standing xs) (λ f. omega arith) ∙ found-slot xs x.serial i s d a.1 (omega arith) e

-- nothing stands under a serial below the first
pub found-unpassed : {T : Type 0} (xs : List (Slot T)) (k s : ℕ) → Ascends k (serials xs) → passed s (serials xs) ≡ 0 → found (standing xs) s ≡ None
found-unpassed [] k s a h = refl
found-unpassed (x ∷ xs) k s a h = elim (leb_tells x.serial s) [
  | inl t ↦ absurd (let e : suc (passed s (serials xs)) ≡ 0 = rw t.0 at h in omega arith)
  | inr t ↦ found-skip x.serial s x.value (standing xs) (λ f. omega (arith, t.1)) ∙ found-low xs x.serial s a.1 (omega (arith, t.1))
]

passed-above : (p k : ℕ) (ss : List ℕ) → Ascends k ss → 0 < passed p ss → k < p
passed-above p k ss a h = elim (leb_tells p k) [
  | inl t ↦ absurd (let e = passed-low p k ss a t.1 in omega arith)
  | inr t ↦ t.1
]

-- nothing stands under a serial that the last slot not above it does not have
pub found-other : {T : Type 0} (xs : List (Slot T)) (k i s : ℕ) (d : Slot T) → Ascends k (serials xs) → passed s (serials xs) ≡ suc i → ((get_or xs i d).serial ≡ s → ⊥) → found (standing xs) s ≡ None
found-other [] k i s d a h n = refl
found-other (x ∷ xs) k zero s d a h n = elim (leb_tells x.serial s) [
  | inl t ↦
      let e : suc (passed s (serials xs)) ≡ suc zero = rw t.0 at h in
      found-skip x.serial s x.value (standing xs) (λ f. n (sym f)) ∙ found-unpassed xs x.serial s a.1 (omega arith)
  | inr t ↦ found-skip x.serial s x.value (standing xs) (λ f. omega (arith, t.1)) ∙ found-low xs x.serial s a.1 (omega (arith, t.1))
]
found-other (x ∷ xs) k (suc i) s d a h n = elim (leb_tells x.serial s) [
  | inl t ↦
      let e : suc (passed s (serials xs)) ≡ suc (suc i) = rw t.0 at h in
      let q : x.serial < s = passed-above s x.serial (serials xs) a.1 (omega arith) in
      found-skip x.serial s x.value (standing xs) (λ f. omega arith) ∙ found-other xs x.serial i s d a.1 (omega arith) n
  | inr t ↦ found-skip x.serial s x.value (standing xs) (λ f. omega (arith, t.1)) ∙ found-low xs x.serial s a.1 (omega (arith, t.1))
]

-- what stands under a serial stands in the last slot not above it
pub found-passed : {T : Type 0} (xs : List (Slot T)) (s : ℕ) → Ascends 0 (serials xs) → IsSome (found (standing xs) s) → 0 < passed s (serials xs)
found-passed xs s a h = elim (nat_cases (passed s (serials xs))) [
  | inl e ↦ absurd (let m = rw (found-unpassed xs 0 s a e) at h in cc)
  | inr q ↦ q
]

pub found-place : {T : Type 0} (xs : List (Slot T)) (i s : ℕ) (d : Slot T) → Ascends 0 (serials xs) → IsSome (found (standing xs) s) → passed s (serials xs) ≡ i + 1 → (get_or xs i d).serial ≡ s
found-place xs i s d a h e = elim (eqb_tells (get_or xs i d).serial s) [
  | inl t ↦ t.1
  | inr t ↦ absurd (let m = rw (found-other xs 0 i s d a (omega arith) t.1) at h in cc)
]

hole : {T : Type 0} → Slot T
hole = record { serial = 0; value = None }

-- what is not above a place does not stand ahead of it
pub next-init : {T : Type 0} (xs : List (Slot T)) (p n s : ℕ) → Ascends 0 (serials xs) → n ≡ passed p (serials xs) → p < s → passed s (serials xs) ≤ n → found (standing xs) s ≡ None
next-init xs p n s a e l h = elim (nat_cases (passed s (serials xs))) [
  | inl z ↦ found-unpassed xs 0 s a z
  | inr q ↦ elim (eqb_tells (get_or xs (passed s (serials xs) - 1) hole).serial s) [
    | inl t ↦ absurd (let b = passed-bound s xs in let m = passed-short xs (passed s (serials xs) - 1) p hole (omega arith) (let u : (get_or xs (passed s (serials xs) - 1) hole).serial ≡ s = t.1 in omega arith) in omega arith)
    | inr t ↦ found-other xs 0 (passed s (serials xs) - 1) s hole a (omega arith) t.1
  ]
]

-- nothing stands in a hole
pub next-hole : {T : Type 0} (xs : List (Slot T)) (i s : ℕ) (d : Slot T) → Ascends 0 (serials xs) → i < length xs → (get_or xs i d).value ≡ None → passed s (serials xs) ≡ suc i → found (standing xs) s ≡ None
next-hole xs i s d a h n e = elim (eqb_tells (get_or xs i d).serial s) [
  | inl t ↦ found-slot xs 0 i s d a h (sym t.1) ∙ n
  | inr t ↦ found-other xs 0 i s d a e t.1
]

pub next-found : {T : Type 0} (xs : List (Slot T)) (p e n i s : ℕ) (d : Slot T) → Ascends 0 (serials xs) → n ≡ passed p (serials xs) → n ≤ i → i < length xs → s ≡ (get_or xs i d).serial → s ≤ e → IsSome (get_or xs i d).value → ((r : ℕ) → p < r → passed r (serials xs) ≤ i → found (standing xs) r ≡ None) → IsNext (standing xs) p e s
next-found xs p e n i s d a k l h q w v none = record {
  above = elim (near s p) [
    | inl low ↦ absurd (let r = passed-reached xs 0 i p d a h (omega arith) in omega arith)
    | inr high ↦ high
  ];
  within = w;
  stands = rw (found-slot xs 0 i s d a h q) v;
  least = λ r b c. none r b (passed-short xs i r d h (omega arith));
}

pub serial-read : {T : Type 0} (xs : List (Slot T)) (i : ℕ) (d : Slot T) → i < length xs → get_or (serials xs) i 0 ≡ (get_or xs i d).serial
serial-read [] i d h = absurd (omega arith)
serial-read (x ∷ xs) zero d h = refl
serial-read (x ∷ xs) (suc i) d h = serial-read xs i d (omega arith)

value-entry : {T : Type 0} (n : ℕ) (o : Option T) (es : List (Token × T)) (t : Token) → t.slot ≡ 0 → value_of es t ≡ found es (serial_of t) → value_of (entry_before n o es) t ≡ found (entry_before n o es) (serial_of t)
value-entry n None es t h e = e
value-entry n (Some v) es t h e = elim (eqb_tells (serial_of t) n) [
  | inl q ↦ rw (q.0, eq-eqb t.slot 0 h) refl
  | inr q ↦ rw q.0 e
]

value-stranger : {T : Type 0} (n : ℕ) (o : Option T) (es : List (Token × T)) (t : Token) → (t.slot ≡ 0 → ⊥) → value_of (entry_before n o es) t ≡ value_of es t
value-stranger n None es t h = refl
value-stranger n (Some v) es t h = elim (eqb_tells (serial_of t) n) [
  | inl q ↦ rw (q.0, ne_eqb t.slot 0 h) refl
  | inr q ↦ rw q.0 refl
]

pub value-slot : {T : Type 0} (xs : List (Slot T)) (t : Token) → t.slot ≡ 0 → value_of (standing xs) t ≡ found (standing xs) (serial_of t)
value-slot [] t h = refl
value-slot (x ∷ xs) t h = value-entry x.serial x.value (standing xs) t h (value-slot xs t h)

value-none : {T : Type 0} (xs : List (Slot T)) (t : Token) → (t.slot ≡ 0 → ⊥) → value_of (standing xs) t ≡ None
value-none [] t h = refl
value-none (x ∷ xs) t h = value-stranger x.serial x.value (standing xs) t h ∙ value-none xs t h

-- the value of a token that stands is that under its serial
pub value-found : {T : Type 0} (xs : List (Slot T)) (t : Token) → IsSome (value_of (standing xs) t) → value_of (standing xs) t ≡ found (standing xs) (serial_of t)
value-found xs t h = elim (eqb_tells t.slot 0) [
  | inl q ↦ value-slot xs t q.1
  | inr q ↦ absurd (let m = rw (value-none xs t q.1) at h in cc)
]

rising-entry : {T : Type 0} (m : ℕ) (o : Option T) (es : List (Token × T)) (j n : ℕ) → j < m → m ≤ n → IsRising m n es → IsRising j n es → IsRising j n (entry_before m o es)
rising-entry m None es j n h l r q = q
rising-entry m (Some v) es j n h l r q = (h, l, r)

pub standing-rising : {T : Type 0} (xs : List (Slot T)) (j k n : ℕ) → j ≤ k → Ascends k (serials xs) → EndsBy n (serials xs) → IsRising j n (standing xs)
standing-rising [] j k n h a e = tt
standing-rising (x ∷ xs) j k n h a e = rising-entry x.serial x.value (standing xs) j n (let q : k < x.serial = a.0 in omega arith) e.0 (standing-rising xs x.serial x.serial n (omega arith) a.1 e.1) (standing-rising xs j x.serial n (let q : k < x.serial = a.0 in omega arith) a.1 e.1)

pub ruleset searches = (passed-bound, passed-reached, passed-short)

pub ruleset reads = (found-unpassed, found-other, found-slot, found-passed, found-place, value-found, passed-bound)

pub ruleset strangers = (value-slot)

pub ruleset rises = (standing-rising)

-- Slots that are added, emptied and closed up, and the walks that know their next slot.
use Rattle.std.proofs.Common.{ℕ, zero, suc, ◌<◌, ◌≤◌, ◌≡◌, Bool, true, false, cond, List, [], ◌∷◌, ◌++◌, length, take, Option, Some, None, refl, ap, sym, ◌∙◌, arith, get_or, set, inl, inr}
use Rattle.std.specs.Prelude.{is_some}
use Rattle.std.specs.List.{filter}
use Rattle.std.proofs.lemmas.Bool.{ne_eqb, eq-eqb}
use Rattle.std.proofs.lemmas.Bool.Decides.{leb_tells}
use Rattle.ng_chain.specs.declared.chain.Token.{Token}
use Rattle.ng_chain.specs.declared.slots.Slot.{Slot}
use Rattle.ng_chain.specs.Walked.{without}
use Rattle.ng_chain.specs.Slots.{standing, entry_before, serials, Ascends, EndsBy, passed}
use Rattle.ng_chain.proofs.Places.{serial-above}

entry-append : {T : Type 0} (n : ℕ) (o : Option T) (es fs : List (Token × T)) → entry_before n o (es ++ fs) ≡ entry_before n o es ++ fs
entry-append n None es fs = refl
entry-append n (Some v) es fs = refl

pub standing-push : {T : Type 0} (xs : List (Slot T)) (y : Slot T) → standing (xs ++ y ∷ []) ≡ standing xs ++ entry_before y.serial y.value []
standing-push [] y = refl
standing-push (x ∷ xs) y = ap (entry_before x.serial x.value) (standing-push xs y) ∙ entry-append x.serial x.value (standing xs) (entry_before y.serial y.value [])

pub serials-push : {T : Type 0} (xs : List (Slot T)) (y : Slot T) → serials (xs ++ y ∷ []) ≡ serials xs ++ y.serial ∷ []
serials-push [] y = refl
serials-push (x ∷ xs) y = ap (λ ss. x.serial ∷ ss) (serials-push xs y)

pub ascends-push : (ss : List ℕ) (k n m : ℕ) → Ascends k ss → EndsBy n ss → k ≤ n → n < m → Ascends k (ss ++ m ∷ [])
ascends-push [] k n m a e h l = (omega arith, tt)
ascends-push (x ∷ ss) k n m a e h l = (a.0, ascends-push ss x n m a.1 e.1 e.0 l)

pub ends-push : (ss : List ℕ) (n m : ℕ) → EndsBy n ss → n < m → EndsBy m (ss ++ m ∷ [])
ends-push [] n m e h = (omega arith, tt)
ends-push (x ∷ ss) n m e h = (let q : x ≤ n = e.0 in omega arith, ends-push ss n m e.1 h)

pub passed-push : (p m : ℕ) (ss : List ℕ) → p < m → passed p (ss ++ m ∷ []) ≡ passed p ss
passed-push p m [] h = elim (leb_tells m p) [
  | inl t ↦ absurd (omega (arith, t.1))
  | inr t ↦ rw t.0 refl
]
passed-push p m (x ∷ ss) h = elim (leb_tells x p) [
  | inl t ↦ rw t.0 (ap suc (passed-push p m ss h))
  | inr t ↦ rw t.0 refl
]

without-skip : {T : Type 0} (n s : ℕ) (o : Option T) (es : List (Token × T)) → (s ≡ n → ⊥) → without s (entry_before n o es) ≡ entry_before n o (without s es)
without-skip n s None es h = refl
without-skip n s (Some v) es h = rw (ne_eqb s n h) refl

without-here : {T : Type 0} (n s : ℕ) (o : Option T) (es : List (Token × T)) → s ≡ n → without s es ≡ es → without s (entry_before n o es) ≡ es
without-here n s None es h e = e
without-here n s (Some v) es h e = rw (eq-eqb s n h) e

without-low : {T : Type 0} (xs : List (Slot T)) (k s : ℕ) → Ascends k (serials xs) → s ≤ k → without s (standing xs) ≡ standing xs
without-low [] k s a h = refl
without-low (x ∷ xs) k s a h =
    let q : k < x.serial = a.0 in
    without-skip x.serial s x.value (standing xs) (λ f. omega arith) ∙ ap (entry_before x.serial x.value) (without-low xs x.serial s a.1 (omega arith))

pub standing-hole : {T : Type 0} (xs : List (Slot T)) (k i s : ℕ) (d y : Slot T) → Ascends k (serials xs) → i < length xs → s ≡ (get_or xs i d).serial → y.value ≡ None → standing (set xs i y) ≡ without s (standing xs)
standing-hole [] k i s d y a h e n = refl
standing-hole (x ∷ xs) k zero s d y a h e n =
    ap (λ o. entry_before y.serial o (standing xs)) n ∙ sym (without-here x.serial s x.value (standing xs) e (without-low xs x.serial s a.1 (omega arith)))
standing-hole (x ∷ xs) k (suc i) s d y a h e n =
    let q : x.serial < (get_or xs i d).serial = serial-above xs x.serial i d a.1 (omega arith) in
    ap (entry_before x.serial x.value) (standing-hole xs x.serial i s d y a.1 (omega arith) e n) ∙ sym (without-skip x.serial s x.value (standing xs) (λ f. omega arith))

pub serials-hole : {T : Type 0} (xs : List (Slot T)) (i : ℕ) (d y : Slot T) → i < length xs → y.serial ≡ (get_or xs i d).serial → serials (set xs i y) ≡ serials xs
serials-hole [] i d y h e = absurd (omega arith)
serials-hole (x ∷ xs) zero d y h e = ap (λ (s : ℕ). s ∷ serials xs) e
serials-hole (x ∷ xs) (suc i) d y h e = ap (λ ss. x.serial ∷ ss) (serials-hole xs i d y (omega arith) e)

-- a hole goes before what has no entries
hollow-entry : {T : Type 0} (n : ℕ) (o : Option T) (es fs : List (Token × T)) → entry_before n o es ≡ [] → (es ≡ [] → fs ≡ []) → entry_before n o fs ≡ []
hollow-entry n None es fs e f = f e
hollow-entry n (Some v) es fs e f = absurd (cc)

-- the first slots are holes
pub hollow-more : {T : Type 0} (xs : List (Slot T)) (i : ℕ) (y : Slot T) → i < length xs → y.value ≡ None → standing (take i xs) ≡ [] → standing (take (suc i) (set xs i y)) ≡ []
hollow-more [] i y h n e = absurd (omega arith)
hollow-more (x ∷ xs) zero y h n e = ap (λ o. entry_before y.serial o []) n
hollow-more (x ∷ xs) (suc i) y h n e = hollow-entry x.serial x.value (standing (take i xs)) (standing (take (suc i) (set xs i y))) e (λ k. hollow-more xs i y (omega arith) n k)

kept-entry : {T : Type 0} (x : Slot T) (o : Option T) → x.value ≡ o → (ys : List (Slot T)) → standing (cond (is_some o) (x ∷ ys) ys) ≡ entry_before x.serial o (standing ys)
kept-entry x None e ys = refl
kept-entry x (Some v) e ys = ap (λ o. entry_before x.serial o (standing ys)) e

pub standing-filter : {T : Type 0} (xs : List (Slot T)) → standing (filter (λ x. is_some x.value) xs) ≡ standing xs
standing-filter [] = refl
standing-filter (x ∷ xs) = kept-entry x x.value refl (filter (λ x. is_some x.value) xs) ∙ ap (entry_before x.serial x.value) (standing-filter xs)

ascends-lower : (ss : List ℕ) (j k : ℕ) → j ≤ k → Ascends k ss → Ascends j ss
ascends-lower [] j k h a = tt
ascends-lower (x ∷ ss) j k h a = (let q : k < x = a.0 in omega arith, a.1)

pub ascends-filter : {T : Type 0} (xs : List (Slot T)) (p : Slot T → Bool) (k : ℕ) → Ascends k (serials xs) → Ascends k (serials (filter p xs))
ascends-filter [] p k a = tt
ascends-filter (x ∷ xs) p k a = elim (p x) as (λ b. Ascends k (serials (cond b (x ∷ filter p xs) (filter p xs)))) [
  | true ↦ (a.0, ascends-filter xs p x.serial a.1)
  | false ↦ ascends-lower (serials (filter p xs)) k x.serial (let q : k < x.serial = a.0 in omega arith) (ascends-filter xs p x.serial a.1)
]

pub ends-filter : {T : Type 0} (xs : List (Slot T)) (p : Slot T → Bool) (n : ℕ) → EndsBy n (serials xs) → EndsBy n (serials (filter p xs))
ends-filter [] p n e = tt
ends-filter (x ∷ xs) p n e = elim (p x) as (λ b. EndsBy n (serials (cond b (x ∷ filter p xs) (filter p xs)))) [
  | true ↦ (e.0, ends-filter xs p n e.1)
  | false ↦ ends-filter xs p n e.1
]

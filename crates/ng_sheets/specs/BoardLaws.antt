-- A board meets what the early stop rests on.
use Rattle.std.proofs.Common.{◌≡◌, ◌≢◌, ℕ, Bool, true, false, refl, ap, arith, List, [], ◌∷◌, ◌++◌, cond, length, length-append, ◌||◌, nat_eq, nat_lt, eq-eqb, eqb-true}
use Rattle.std.specs.List.{list_any}
use Rattle.std.specs.declared.cmp.Ordering.TheVariants.{Less, Equal, Greater}
use Rattle.std.proofs.lemmas.Cmp.{nat_cmp_total}
use Rattle.ng_base.specs.declared.fault.Fault.TheVariants.{Range}
use Rattle.ng_digest.specs.Machine.{Verdict, found_clean, found_dirty, found_faulted}
use Rattle.ng_digest.specs.Laws.{HasLaws}
use Rattle.ng_sheets.specs.Board.{State, verdict, tested, is_told, is_quiet, hand_over}
use Rattle.ng_sheets.specs.Sheet.{board_machine}

-- the state after a fault that is handed over
abbrev pub telling : State → ℕ → State
telling s k = hand_over Range (record s { told = s.told ++ k ∷ [] })

either : (P : State → Type 0) (b : Bool) (s t : State) → (b ≡ true → P s) → (b ≡ false → P t) → P (cond b s t)
either P true s t f g = f refl
either P false s t f g = g refl

abbrev pub is_quiet_at : State → ℕ → Bool
is_quiet_at s k = is_quiet (verdict s k) (is_told s k)

quiet_more : (v : Verdict) (a b : Bool) → is_quiet v a ≡ true → (a ≡ true → b ≡ true) → is_quiet v b ≡ true
quiet_more found_clean a b h f = refl
quiet_more found_dirty a b h f = refl
quiet_more found_faulted a b h f = f h

quiet_told : (v : Verdict) (a : Bool) → a ≡ true → is_quiet v a ≡ true
quiet_told found_clean a h = refl
quiet_told found_dirty a h = refl
quiet_told found_faulted a h = h

any_front : (p : ℕ → Bool) (xs ys : List ℕ) → list_any p xs ≡ true → list_any p (xs ++ ys) ≡ true
any_front p [] ys h = cc
any_front p (x ∷ xs) ys h = front (p x) (list_any p xs) (list_any p (xs ++ ys)) h (any_front p xs ys)
  where
    front : (a b c : Bool) → (a || b) ≡ true → (b ≡ true → c ≡ true) → (a || c) ≡ true
    front true b c h f = refl
    front false b c h f = f h

any_last : (k : ℕ) (xs : List ℕ) → list_any (λ j. nat_eq j k) (xs ++ k ∷ []) ≡ true
any_last k [] = ap (λ b. b || false) (eq-eqb k k refl)
any_last k (x ∷ xs) = last (nat_eq x k) (list_any (λ j. nat_eq j k) (xs ++ k ∷ [])) (any_last k xs)
  where
    last : (a b : Bool) → b ≡ true → (a || b) ≡ true
    last true b h = refl
    last false b h = h

quiet_now : (s : State) (k : ℕ) → is_quiet_at (tested s k) k ≡ true
quiet_now s k = either (λ t. is_quiet_at t k ≡ true) (is_quiet_at s k) s (telling s k) (λ h. h) (λ h. quiet_told (verdict s k) (list_any (λ j. nat_eq j k) (s.told ++ k ∷ [])) (any_last k s.told))

quiet_kept : (s : State) (k j : ℕ) → is_quiet_at s j ≡ true → is_quiet_at (tested s k) j ≡ true
quiet_kept s k j h = either (λ t. is_quiet_at t j ≡ true) (is_quiet_at s k) s (telling s k) (λ _. h) (λ _. quiet_more (verdict s j) (is_told s j) (list_any (λ i. nat_eq i j) (s.told ++ k ∷ [])) h (any_front (λ i. nat_eq i j) s.told (k ∷ [])))

quiet_same : (s : State) (k : ℕ) → is_quiet_at s k ≡ true → tested s k ≡ s
quiet_same s k h = ap (λ b. cond b s (telling s k)) h

no_longer : (xs : List ℕ) (k : ℕ) → xs ++ k ∷ [] ≢ xs
no_longer xs k e = let h = ap length e in omega (arith, h, length-append xs (k ∷ []))

same_at : (s : State) (k : ℕ) (b : Bool) → cond b s (telling s k) ≡ s → b ≡ true
same_at s k true e = refl
same_at s k false e = absurd (no_longer s.told k (ap (λ t. t.told) e))

tie : (a b : Bool) → cond a Less (cond b Equal Greater) ≡ Equal → b ≡ true
tie true b e = cc
tie false true e = refl
tie false false e = cc

pub board_laws : HasLaws board_machine
board_laws = record {
  total = nat_cmp_total;
  exact = λ a b e. eqb-true a b (tie (nat_lt a b) (nat_eq a b) e);
  same_keys = λ s k n. either (λ t. board_machine.keys t ≡ board_machine.keys s) (is_quiet_at s k) s (telling s k) (λ _. refl) (λ _. refl);
  same_verdict = λ s k j n. either (λ t. verdict t j ≡ verdict s j) (is_quiet_at s k) s (telling s k) (λ _. refl) (λ _. refl);
  told_once = λ s k n. quiet_same (tested s k) k (quiet_now s k);
  told_before = λ s k j n e. quiet_same (tested s k) j (quiet_kept s k j (same_at s j (is_quiet_at s j) e));
  tasks_stay = λ s. refl;
}

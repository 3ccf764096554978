-- The live keys of a board stand in their order, and the least above a key is the first live one from there on.
use Rattle.std.proofs.Common.{◌≡◌, ◌<◌, ◌≤◌, ◌+◌, ℕ, zero, suc, Bool, true, false, refl, sym, ap, ◌∙◌, arith, Some, None, List, [], ◌∷◌, cond, find, drop, zero-add}
use Rattle.std.specs.Ordering.{nat_cmp, is_lt}
use Rattle.std.specs.Cmp.{nat_cmp_is}
use Rattle.std.specs.declared.cmp.Ordering.TheVariants.{Less}
use Rattle.std.specs.List.{AllByRecursion}
use Rattle.std.specs.List.Sorted.{IsStrictlySortedBy}
use Rattle.ng_sheets.specs.declared.board.Watch.{Watch}
use Rattle.ng_digest.specs.Machine.{above}
use Rattle.ng_sheets.specs.Board.{first_live, live_from}
use Rattle.ng_sheets.specs.Sheet.{board_machine}

less : (a b : ℕ) → a < b → nat_cmp a b ≡ Less
less a b h = sym (nat_cmp_is a b Less h)

not_less : (a b : ℕ) → b ≤ a → is_lt (nat_cmp a b) ≡ false
not_less a b h = grind arith

all_live : (P : ℕ → Type 0) (k : ℕ) (ws : List Watch) → ((j : ℕ) → k ≤ j → P j) → AllByRecursion P (live_from k ws)
all_live P k [] h = tt
all_live P k (w ∷ ws) h = live (w.live) (h k (omega arith)) (all_live P (suc k) ws (λ j l. h j (omega arith)))
  where
    live : (b : Bool) → P k → AllByRecursion P (live_from (suc k) ws) → AllByRecursion P (cond b (k ∷ live_from (suc k) ws) (live_from (suc k) ws))
    live true p r = (p, r)
    live false p r = r

pub sorted_live : (k : ℕ) (ws : List Watch) → IsStrictlySortedBy nat_cmp (live_from k ws)
unfolding IsStrictlySortedBy
sorted_live k [] = tt
sorted_live k (w ∷ ws) = live (w.live) (all_live (λ j. nat_cmp k j ≡ Less) (suc k) ws (λ j l. less k j (omega arith))) (sorted_live (suc k) ws)
  where
    live : (b : Bool) → AllByRecursion (λ j. nat_cmp k j ≡ Less) (live_from (suc k) ws) → IsStrictlySortedBy nat_cmp (live_from (suc k) ws) → IsStrictlySortedBy nat_cmp (cond b (k ∷ live_from (suc k) ws) (live_from (suc k) ws))
    live true a s = (a, s)
    live false a s = s

-- where each key from k on passes, the first live one is found
first_found : (test : ℕ → Bool) (k : ℕ) (ws : List Watch) → ((j : ℕ) → k ≤ j → test j ≡ true) → find test (live_from k ws) ≡ first_live k ws
first_found test k [] h = refl
first_found test k (w ∷ ws) h = live (w.live) (h k (omega arith)) (first_found test (suc k) ws (λ j l. h j (omega arith)))
  where
    live : (b : Bool) → test k ≡ true → find test (live_from (suc k) ws) ≡ first_live (suc k) ws → find test (cond b (k ∷ live_from (suc k) ws) (live_from (suc k) ws)) ≡ cond b (Some k) (first_live (suc k) ws)
    live true t r = ap (λ b. cond b (Some k) (find test (live_from (suc k) ws))) t
    live false t r = r

-- keys that do not pass are skipped
skipped : (test : ℕ → Bool) (n k : ℕ) (ws : List Watch) → ((j : ℕ) → j < n + k → test j ≡ false) → ((j : ℕ) → n + k ≤ j → test j ≡ true) → find test (live_from k ws) ≡ first_live (n + k) (drop n ws)
skipped test zero k ws f t = first_found test k ws (λ j l. t j (omega arith)) ∙ ap (λ i. first_live i ws) (sym (zero-add k))
skipped test (suc n) k [] f t = refl
skipped test (suc n) k (w ∷ ws) f t = live (w.live) (f k (omega arith)) (skipped test n (suc k) ws (λ j l. f j (omega arith)) (λ j l. t j (omega arith)) ∙ ap (λ i. first_live i (drop n ws)) (omega arith))
  where
    live : (b : Bool) → test k ≡ false → find test (live_from (suc k) ws) ≡ first_live (suc n + k) (drop n ws) → find test (cond b (k ∷ live_from (suc k) ws) (live_from (suc k) ws)) ≡ first_live (suc n + k) (drop n ws)
    live true e r = ap (λ b. cond b (Some k) (find test (live_from (suc k) ws))) e ∙ r
    live false e r = r

pub next_from_first : (ws : List Watch) → find (above board_machine None) (live_from 0 ws) ≡ first_live 0 (drop 0 ws)
next_from_first ws = first_found (above board_machine None) 0 ws (λ j l. refl)

pub next_from_key : (key : ℕ) (ws : List Watch) → find (above board_machine (Some key)) (live_from 0 ws) ≡ first_live (key + 1) (drop (key + 1) ws)
next_from_key key ws = skipped (above board_machine (Some key)) (key + 1) 0 ws (λ j l. not_less key j (omega arith)) (λ j l. ap is_lt (less key j (omega arith))) ∙ ap (λ i. first_live i (drop (key + 1) ws)) (omega arith)

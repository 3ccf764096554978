-- What each step keeps, steps one after the other keep.
use Rattle.std.proofs.Common.{◌≡◌, ◌≤◌, ◌<◌, ◌+◌, ◌-◌, ◌*◌, ℕ, true, length, max, refl, ◌∙◌, ap, arith}
use Rattle.std.specs.Prelude.{nat_lt}
use Rattle.std.proofs.lemmas.Bool.Decides.{nat_tests}
use Rattle.ng_core.specs.Frames.{held, IsSound}
use Rattle.ng_core.specs.declared.core_state.Core.{Core}
use Rattle.ng_act.specs.Kept.{Kept}

-- nothing is done
pub kept_same : (a : Core) → IsSound a → Kept a a
kept_same a s = record { sound = s; held = refl; depth = refl; count = refl; grown = omega arith }

-- one step after another
pub kept_on : (a b c : Core) → Kept a b → Kept b c → Kept a c
kept_on a b c h k = record {
  sound = k.sound;
  held = k.held ∙ h.held;
  depth = k.depth ∙ h.depth;
  count = k.count ∙ h.count;
  grown = omega (arith, h.grown, k.grown);
}

-- a step that says the five of itself
pub kept_by : (a b : Core) → IsSound b → held b ≡ held a → b.depth ≡ a.depth → length b.scopes ≡ length a.scopes → length a.store ≤ length b.store → Kept a b
kept_by a b s h d n g = record { sound = s; held = h; depth = d; count = n; grown = g }

-- what is opened is closed again
pub kept_within : (a b c d : Core) → held b ≡ held a → b.depth ≡ a.depth + 1 → b.scopes ≡ a.scopes → b.store ≡ a.store → Kept b c → IsSound d → held d ≡ held c → d.depth + 1 ≡ c.depth → d.scopes ≡ c.scopes → d.store ≡ c.store → Kept a d
kept_within a b c d hb db sb ob k s hd dd sd od = record {
  sound = s;
  held = hd ∙ (k.held ∙ hb);
  depth = omega (arith, dd, k.depth, db);
  count = ap length sd ∙ (k.count ∙ ap length sb);
  grown = omega (arith, ap length od, k.grown, ap length ob);
}

-- what a call within a program asks: it is measured by less, and the core and the scope stand
pub fell : (d e m n a b t : ℕ) → e ≡ d → m ≤ n → nat_lt a b ≡ true → (64 - d) * 2000 + 10 * n + b ≡ t → (64 - e) * 2000 + 10 * m + a < t
fell d e m n a b t q h l p =
    let k : a < b = grind (arith, nat_tests) in
    rw (q, ← p) (omega arith)

pub fell_by : (d e a b t : ℕ) → e ≡ d → nat_lt a b ≡ true → (64 - d) * 2000 + b ≡ t → (64 - e) * 2000 + a < t
fell_by d e a b t q l p =
    let k : a < b = grind (arith, nat_tests) in
    rw (q, ← p) (omega arith)

pub asked : (c0 c1 : Core) (m n a b sc t : ℕ) {P : Type 0} → Kept c0 c1 → m ≤ n → nat_lt a b ≡ true → sc < length c0.scopes → P → (64 - c0.depth) * 2000 + 10 * n + b ≡ t
    → ((64 - c1.depth) * 2000 + 10 * m + a < t) × (IsSound c1 × ((sc < length c1.scopes) × P))
asked c0 c1 m n a b sc t k h l s p own = (fell c0.depth c1.depth m n a b t k.depth h l own, (k.sound, (rw k.count s, p)))

pub same_height : (n : ℕ) → n ≤ n
same_height n = omega arith

pub left_height : (m n : ℕ) → m ≤ max m n
left_height m n = omega arith

pub right_height : (m n : ℕ) → n ≤ max m n
right_height m n = omega arith

pub middle_height : (l m n : ℕ) → m ≤ max l (max m n)
middle_height l m n = omega arith

pub last_height : (l m n : ℕ) → n ≤ max l (max m n)
last_height l m n = omega arith

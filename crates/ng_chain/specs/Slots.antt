-- A chain as a vector of slots in rising serials: a slot has its entry, or is the hole of one that was removed.
use Rattle.std.specs.Prelude.{ℕ, suc, ◌<◌, ◌≤◌, ◌≡◌, nat_le, List, [], ◌∷◌, length, map, Option, Some, None, slice_index, if◌then◌else◌}
use Rattle.ng_chain.specs.declared.chain.Token.{Token}
use Rattle.ng_chain.specs.declared.chain.Span.{Span}
use Rattle.ng_chain.specs.declared.slots.Slot.{Slot}
use Rattle.ng_chain.specs.Walked.{walk_at}

abbrev pub token : ℕ → Token
token s = record { serial = record { 0 = s }; slot = 0 }

abbrev pub entry_before : {T : Type 0} → ℕ → Option T → List (Token × T) → List (Token × T)
entry_before s None es = es
entry_before s (Some v) es = (token s, v) ∷ es

-- the entries that stand
abbrev pub standing : {T : Type 0} → List (Slot T) → List (Token × T)
standing [] = []
standing (x ∷ xs) = entry_before x.serial x.value (standing xs)

abbrev pub serials : {T : Type 0} → List (Slot T) → List ℕ
serials = map (λ x. x.serial)

-- serials rise above k
abbrev pub Ascends : ℕ → List ℕ → Type 0
Ascends k [] = Unit {0}
Ascends k (x ∷ xs) = (k < x) × Ascends x xs

-- no serial is above n
abbrev pub EndsBy : ℕ → List ℕ → Type 0
EndsBy n [] = Unit {0}
EndsBy n (x ∷ xs) = (x ≤ n) × EndsBy n xs

-- how many serials are not above a place
abbrev pub passed : ℕ → List ℕ → ℕ
passed p [] = 0
passed p (x ∷ xs) = if nat_le x p then suc (passed p xs) else 0

-- an open walk knows the first slot above its place
abbrev pub KnowsNext : List ℕ → ℕ → Option Span → ℕ → Type 0
KnowsNext ss last None n = Unit {0}
KnowsNext ss last (Some w) n = (w.place ≤ last) × (n ≡ passed w.place ss)

pub record IsSound (ss : List ℕ) (last : ℕ) (walks : List (Option Span)) (nexts : List ℕ) : Type 0 where
  pub ascends : Ascends 0 ss
  pub ends : EndsBy last ss
  pub places : length walks ≡ 64
  pub as_many : length nexts ≡ 64
  pub knows : (k : ℕ) → KnowsNext ss last (walk_at walks k) (slice_index nexts k)

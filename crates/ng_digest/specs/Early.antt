-- What carries the early stop from call to call.
use Rattle.std.specs.Prelude.{ℕ, ◌≤◌, length, ◌≡◌, ◌≢◌, ◌⊎◌, true, false, Option, Some, None, List, [], ◌∷◌, Result, Ok, Err}
use Rattle.ng_digest.specs.declared.log.Report.{Report}
use Rattle.ng_digest.specs.declared.rounds.DigestFault.{DigestFault}
use Rattle.ng_digest.specs.declared.rounds.DigestFault.TheVariants as fault
use Rattle.ng_digest.specs.Machine.{Machine, found_dirty, above}
use Rattle.ng_digest.specs.Place.{Place}
use Rattle.ng_digest.specs.Plain.{Plain}

abbrev pub IsIn : {K : Type 0} → K → List K → Type 0
IsIn k [] = ⊥
IsIn k (x ∷ xs) = (x ≡ k) ⊎ IsIn k xs

abbrev pub IsLive : {S K : Type 0} → Machine S K → S → K → Type 0
IsLive m s k = IsIn k (m.keys s)

-- a key whose test in this state would find nothing and change nothing
pub record IsKnownClean {S K : Type 0} (m : Machine S K) (s : S) (k : K) : Type 0 where
  pub clean : m.verdict s k ≢ found_dirty
  pub told : m.tested s k ≡ s

-- Above the remembered key each live key that the cursor passed is known clean; and each live key at all, where the
-- cursor hasn't come to the remembered key in this round
abbrev pub IsCarried : {S K : Type 0} → Machine S K → S → Option K → Option K → Type 0
IsCarried m s None c = Unit {0}
IsCarried m s (Some k) c = (j : _) → IsLive m s j → above m (Some k) j ≡ true → (above m c j ≡ false → IsKnownClean m s j) × (above m c k ≡ true → IsKnownClean m s j)

-- a place without its cursor, its memory and its tests
abbrev pub plain_of : {S K : Type 0} → Place S K → Plain S
plain_of p = record { state = p.state; rounds = p.log.rounds; dirty_rounds = p.log.dirty_rounds; fires = p.log.fires; round_fires = p.log.round_fires; tasks = p.log.tasks }

-- an answer without its tests
abbrev pub plain_answer : Result Report DigestFault → Result (ℕ × ℕ) DigestFault
plain_answer (Ok r) = Ok (r.rounds, r.fires)
plain_answer (Err e) = Err e

-- What was done once the rounds had settled began in a state in which each live key was known clean, and which had at
-- least so many live keys
abbrev pub IsFresh : {S K : Type 0} → Machine S K → ℕ → S → Type 0
IsFresh m tests t = (s : _) × (t ≡ m.settled s) × ((k : _) → IsLive m s k → IsKnownClean m s k) × (tests ≤ length (m.keys s))

-- what holds of the tests after the last fire where the rounds have settled; after a fault they are not told
abbrev pub OnSettled : Result Report DigestFault → (ℕ → Type 0) → Type 0
OnSettled (Ok r) P = P r.tests_after_last_fire
OnSettled (Err (fault.Faulted first count)) P = P 0
OnSettled (Err _) P = Unit {0}

-- What the steps of a walk give, while the list changes between them.
use Rattle.std.specs.Prelude.{ℕ, ◌≤◌, ◌≡◌, List, [], ◌∷◌, map, None, is_some, if◌then◌else◌}
use Rattle.ng_chain.specs.declared.chain.Token.{Token}
use Rattle.ng_chain.specs.Walked.{found, serial_of, NothingAhead, IsNext, IsRising}

-- each of a list has one turn, and is met if it still stands then; f says what a turn does to the entries
abbrev pub met_of : {T : Type 0} → (ℕ → List (Token × T) → List (Token × T)) → List ℕ → List (Token × T) → List ℕ
met_of f [] es = []
met_of f (k ∷ ks) es = if is_some (found es k) then k ∷ met_of f ks (f k es) else met_of f ks es

-- the steps of a walk from a place on, up to e
pub data WalksOn {T : Type 0} (f : ℕ → List (Token × T) → List (Token × T)) (e : ℕ) : List (Token × T) → ℕ → List ℕ → Type 0 where
  over : (es : List (Token × T)) (p : ℕ) → NothingAhead es p e → WalksOn f e es p []
  steps : (es : List (Token × T)) (p s : ℕ) (ss : List ℕ) → IsNext es p e s → WalksOn f e (f s es) s ss → WalksOn f e es p (s ∷ ss)

-- what does not stand under a serial that was given never stands there again
abbrev pub IsThin : {T : Type 0} → ℕ → (ℕ → List (Token × T) → List (Token × T)) → Type 0
IsThin {T} e f = (k r : ℕ) (es : List (Token × T)) → r ≤ e → found es r ≡ None → found (f k es) r ≡ None

-- a walk meets exactly those of the list that stood at its beginning which still stand at their turn, once and in order
abbrev pub WalkLaw : Type 0 → Type 0
WalkLaw T = (e : ℕ) (f : ℕ → List (Token × T) → List (Token × T)) (es : List (Token × T)) (ss : List ℕ) → IsRising 0 e es → IsThin e f → WalksOn f e es 0 ss → ss ≡ met_of f (map (λ x. serial_of x.0) es) es

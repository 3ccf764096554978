-- Whether a pair of marks begins with a character.
use Rattle.std.specs.Prelude.{◌≡◌, ℕ, Bool, true, false, List, [], ◌∷◌, ⊤}
use Rattle.ng_interp.specs.Cutting.{is_pair}

abbrev pub NoPair : Bool → ℕ → List ℕ → Type 0
NoPair inside c [] = ⊤
NoPair inside c (d ∷ cs) = is_pair inside c d ≡ false

-- a pair does, and that stands behind it
abbrev pub Pair : Bool → ℕ → List ℕ → List ℕ → Type 0
Pair inside c cs rest = (d : ℕ) × (cs ≡ d ∷ rest) × (is_pair inside c d ≡ true)

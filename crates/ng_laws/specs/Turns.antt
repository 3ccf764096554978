-- A text as words and holes in turn.
use Rattle.std.specs.Prelude.{ℕ, ◌≡◌, ◌⊎◌, ⊤, Bool, true, false, List, [], ◌∷◌, ◌++◌, map}
use Rattle.std.specs.List.{AllByRecursion, flat_map}
use Rattle.ng_base.specs.Codes.{open_brace, close_brace}
use Rattle.ng_interp.specs.Cutting.{is_pair, cuts_of}
use Rattle.ng_interp.specs.declared.cutting.Cut.{Cut}
use Rattle.ng_interp.specs.declared.cutting.Cut.TheVariants.{Words, Hole}

-- no `{{` stands in it, or no `}}`
abbrev pub HasNoPair : Bool → List ℕ → Type 0
HasNoPair inside [] = ⊤
HasNoPair inside (c ∷ []) = ⊤
HasNoPair inside (c ∷ d ∷ cs) = (is_pair inside c d ≡ false) × HasNoPair inside (d ∷ cs)

-- words up to the first `{{`, and a hole up to the first `}}` behind that
abbrev pub Turn : Type 0
Turn = List ℕ × List ℕ

abbrev pub IsTurn : Turn → Type 0
IsTurn p = HasNoPair false (p.0 ++ open_brace ∷ []) × HasNoPair true (p.1 ++ close_brace ∷ [])

-- words at the end: no `{{` stands in them, or no `}}` behind the first one
abbrev pub IsEnd : List ℕ → Type 0
IsEnd t = HasNoPair false t ⊎ ((a : List ℕ) × (b : List ℕ) × (t ≡ a ++ open_brace ∷ open_brace ∷ b) × HasNoPair false (a ++ open_brace ∷ []) × HasNoPair true b)

abbrev pub turn_text : Turn → List ℕ
turn_text p = p.0 ++ open_brace ∷ open_brace ∷ (p.1 ++ close_brace ∷ close_brace ∷ [])

-- whether a cut is a hole, and its text
abbrev pub seen : Cut → Bool × List ℕ
seen (Words t) = (false, t)
seen (Hole p t) = (true, t)

abbrev pub turn_cuts : Turn → List (Bool × List ℕ)
turn_cuts p = (false, p.0) ∷ (true, p.1) ∷ []

-- a text that is spelled so is cut so
abbrev pub TurnsAreCut : Type 0
TurnsAreCut = (ps : List Turn) (t : List ℕ) → AllByRecursion IsTurn ps → IsEnd t → map seen (cuts_of (flat_map turn_text ps ++ t)) ≡ flat_map turn_cuts ps ++ (false, t) ∷ []

-- and each text is spelled so
abbrev pub EachTextHasTurns : Type 0
EachTextHasTurns = (x : List ℕ) → (ps : List Turn) × (t : List ℕ) × AllByRecursion IsTurn ps × IsEnd t × (x ≡ flat_map turn_text ps ++ t)

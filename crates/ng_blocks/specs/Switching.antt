-- Which cases of a switch are shown.
use Rattle.std.specs.Prelude.{ℕ, Bool, true, false, List, [], ◌∷◌, Option, None, Some}
use Rattle.std.specs.Str.{bytes_eq}
use Rattle.ng_blocks.specs.Places.{places}

-- the case has this text
abbrev pub matches : List ℕ → Option (List ℕ) → Bool
matches value (Some text) = bytes_eq text value
matches value None = false

abbrev pub is_default : Option (List ℕ) → Bool
is_default None = true
is_default (Some text) = false

-- the first list, or the second where it is empty
abbrev pub or_else : List ℕ → List ℕ → List ℕ
or_else [] others = others
or_else (n ∷ ns) others = n ∷ ns

-- all cases of the value's text in order, else the defaults
abbrev pub shown_cases : List ℕ → List (Option (List ℕ)) → List ℕ
shown_cases value cases = or_else (places (matches value) cases) (places is_default cases)

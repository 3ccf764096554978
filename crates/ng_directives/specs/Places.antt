-- The places of nodes: the first, and those after it.
use Rattle.std.specs.Prelude.{ℕ, List, [], ◌∷◌}

abbrev pub first_place : List ℕ → ℕ
first_place [] = 0
first_place (p ∷ ps) = p

abbrev pub other_places : List ℕ → List ℕ
other_places [] = []
other_places (p ∷ ps) = ps

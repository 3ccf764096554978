-- Words, each once, and joined by a space.
use Rattle.std.proofs.Common.{◌≡◌, ℕ, List, [], ◌∷◌, ◌++◌, ap, append-nil}
use Rattle.ng_base.specs.Codes.{space}
use Rattle.ng_markup.specs.Attributes.{spaced}

-- words, each after a space
abbrev pub trailed : List (List ℕ) → List ℕ
trailed [] = []
trailed (w ∷ ws) = space ∷ w ++ trailed ws

-- the first stands alone, and the others after it
pub spaced_first : (w : List ℕ) (ws : List (List ℕ)) → w ++ trailed ws ≡ spaced (w ∷ ws)
spaced_first w [] = append-nil w
spaced_first w (v ∷ ws) = ap (λ t. w ++ space ∷ t) (spaced_first v ws)

-- The lines of a text, as it is written.
use Rattle.std.specs.Prelude.{◌≡◌, ◌⊎◌, ◌==◌, not, ℕ, Bool, true, false, List, [], ◌∷◌, ◌++◌}
use Rattle.std.specs.List.{list_all}
use Rattle.ng_base.specs.Codes.{line_feed, carriage_return}
use Rattle.ng_script.specs.Spelling.{begins_solid}
use Rattle.ng_script.specs.Words.{is_blank}

abbrev pub has_no_feed : List ℕ → Bool
has_no_feed cs = list_all (λ c. not (c == line_feed)) cs

abbrev pub ends_return : List ℕ → Bool
ends_return [] = false
ends_return (c ∷ []) = c == carriage_return
ends_return (c ∷ d ∷ cs) = ends_return (d ∷ cs)

-- these lines are the text: each but the last one is ended by a line feed, or by a return and a line feed
abbrev pub AreLines : List (List ℕ) → List ℕ → Type 0
AreLines [] cs = ⊥
AreLines (l ∷ []) cs = (cs ≡ l) × (has_no_feed l ≡ true)
AreLines (l ∷ m ∷ ls) cs =
    (rest : List ℕ) × (has_no_feed l ≡ true) × AreLines (m ∷ ls) rest
    × (((cs ≡ l ++ line_feed ∷ rest) × (ends_return l ≡ false)) ⊎ (cs ≡ l ++ carriage_return ∷ line_feed ∷ rest))

abbrev pub ends_blank : List ℕ → Bool
ends_blank [] = false
ends_blank (c ∷ []) = is_blank c
ends_blank (c ∷ d ∷ cs) = ends_blank (d ∷ cs)

-- a line without its outer blanks
abbrev pub IsInner : List ℕ → List ℕ → Type 0
IsInner t l =
    (ws : List ℕ) × (vs : List ℕ) × (l ≡ ws ++ (t ++ vs)) × (list_all is_blank ws ≡ true) × (list_all is_blank vs ≡ true)
    × ((t ≡ []) ⊎ ((begins_solid t ≡ true) × (ends_blank t ≡ false)))

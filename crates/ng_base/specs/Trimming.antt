-- Texts without the characters of a class in front, at the end, or round them.
use Rattle.std.specs.Prelude.{ℕ, Bool, List, [], ◌∷◌, reverse, if◌then◌else◌}

-- what stands after those in front
abbrev pub past : (ℕ → Bool) → List ℕ → List ℕ
past p [] = []
past p (c ∷ cs) = if p c then past p cs else c ∷ cs

abbrev pub without_end : (ℕ → Bool) → List ℕ → List ℕ
without_end p cs = reverse (past p (reverse cs))

abbrev pub trimmed : (ℕ → Bool) → List ℕ → List ℕ
trimmed p cs = without_end p (past p cs)

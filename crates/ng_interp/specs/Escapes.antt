-- Braces after backslashes.
use Rattle.std.specs.Prelude.{ℕ, ◌==◌, ◌&&◌, ◌||◌, Bool, List, [], ◌∷◌, Option, None, Some, if◌then◌else◌}
use Rattle.ng_base.specs.Codes.{backslash, open_brace, close_brace}

-- `\{\{`, or `\}\}`
abbrev pub is_escape : ℕ → ℕ → ℕ → ℕ → Bool
is_escape a b c d = a == backslash && c == backslash && d == b && (b == open_brace || b == close_brace)

-- the brace, and what stands after it, where a text begins with an escape
abbrev pub escape_at : List ℕ → Option (ℕ × List ℕ)
escape_at [] = None
escape_at (a ∷ []) = None
escape_at (a ∷ b ∷ []) = None
escape_at (a ∷ b ∷ c ∷ []) = None
escape_at (a ∷ b ∷ c ∷ d ∷ cs) = if is_escape a b c d then Some (b, cs) else None

-- a text as it reads: `\{\{` and `\}\}` are two braces
abbrev pub unescaped : List ℕ → List ℕ
unescaped [] = []
unescaped (a ∷ []) = a ∷ []
unescaped (a ∷ b ∷ []) = a ∷ b ∷ []
unescaped (a ∷ b ∷ c ∷ []) = a ∷ b ∷ c ∷ []
unescaped (a ∷ b ∷ c ∷ d ∷ cs) = if is_escape a b c d then b ∷ b ∷ unescaped cs else a ∷ unescaped (b ∷ c ∷ d ∷ cs)

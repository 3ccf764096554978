-- The lines of a script.
use Rattle.std.specs.Prelude.{ℕ, ◌==◌, ◌&&◌, Bool, false, List, [], ◌∷◌, Option, None, Some, if◌then◌else◌}
use Rattle.ng_base.specs.Codes.{line_feed, carriage_return}
use Rattle.ng_base.specs.Trimming.{trimmed as without_blanks}
use Rattle.ng_script.specs.Words.{is_blank}

-- without the blanks at both ends
abbrev pub trimmed : List ℕ → List ℕ
trimmed cs = without_blanks is_blank cs

abbrev pub begins_line_feed : List ℕ → Bool
begins_line_feed [] = false
begins_line_feed (c ∷ cs) = c == line_feed

-- the first line, one character longer
abbrev pub longer : ℕ → List (List ℕ) → List (List ℕ)
longer c [] = (c ∷ []) ∷ []
longer c (l ∷ ls) = (c ∷ l) ∷ ls

-- the lines of a text: a line feed ends a line, and a return right before it is no part of the line
abbrev pub lines : List ℕ → List (List ℕ)
lines [] = [] ∷ []
lines (c ∷ cs) =
    if c == line_feed then [] ∷ lines cs
    else if c == carriage_return && begins_line_feed cs then lines cs
    else longer c (lines cs)

-- a line without a return at its end
abbrev pub without_return : List ℕ → List ℕ
without_return [] = []
without_return (c ∷ []) = if c == carriage_return then [] else c ∷ []
without_return (c ∷ d ∷ cs) = c ∷ without_return (d ∷ cs)

-- the lines of what stands after a line, if something does
abbrev pub lines_after : Option (List ℕ) → List (List ℕ)
lines_after None = []
lines_after (Some cs) = lines cs

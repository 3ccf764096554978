-- Characters that stand for themselves wherever a document is read or printed.
use Rattle.std.specs.Prelude.{◌≡◌, ◌==◌, ◌||◌, not, ℕ, Bool, false, List, [], ◌∷◌, ◌++◌, map, IsTrue}
use Rattle.std.specs.List.{list_all}
use Rattle.ng_base.specs.Cells.{Cell}
use Rattle.ng_base.specs.Codes.{line_feed, carriage_return, quotation_mark, ampersand, apostrophe, less_than_sign, greater_than_sign, backslash, open_brace, close_brace}

-- a line feed, a return, or one of `"` `&` `'` `<` `>` `\` `{` `}`
abbrev pub is_mark : ℕ → Bool
is_mark c = c == line_feed || c == carriage_return || c == quotation_mark || c == ampersand || c == apostrophe || c == less_than_sign || c == greater_than_sign || c == backslash || c == open_brace || c == close_brace

abbrev pub is_plain : ℕ → Bool
is_plain c = not (is_mark c)

abbrev pub IsPlain : List ℕ → Type 0
IsPlain cs = IsTrue (list_all is_plain cs)

abbrev pub begins_plain : List ℕ → Bool
begins_plain [] = false
begins_plain (c ∷ cs) = is_plain c

-- cells as they read
abbrev pub characters : List Cell → List ℕ
characters cells = map (λ (k : Cell). k.0) cells

-- these characters stand at the front of the cells, and those cells are left
abbrev pub Fronts : List ℕ → List Cell → List Cell → Type 0
Fronts cs cells rest = (front : List Cell) × (cells ≡ front ++ rest) × (characters front ≡ cs)

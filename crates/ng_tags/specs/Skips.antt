-- What is passed by at the front of the cells.
use Rattle.std.specs.Prelude.{ℕ, ◌==◌, List, [], ◌∷◌, ◌++◌, Option, None, Some, if◌then◌else◌}
use Rattle.ng_base.specs.Cells.{Cell}
use Rattle.ng_tags.specs.Letters.{is_space, is_in_name, lower}

-- without the white space at the front
abbrev pub past_spaces : List Cell → List Cell
past_spaces [] = []
past_spaces (c ∷ cs) = if is_space c.0 then past_spaces cs else c ∷ cs

-- behind this character, if it stands first
abbrev pub past : ℕ → List Cell → Option (List Cell)
past d [] = None
past d (c ∷ cs) = if c.0 == d then Some cs else None

-- behind this word, in small or capital letters, if it stands first
abbrev pub past_word : List ℕ → List Cell → Option (List Cell)
past_word [] cs = Some cs
past_word (w ∷ ws) [] = None
past_word (w ∷ ws) (c ∷ cs) = if lower c.0 == w then past_word ws cs else None

-- a name in small letters, of which this stands before, and what is left
abbrev pub name_run : List ℕ → List Cell → List ℕ × List Cell
name_run n [] = (n, [])
name_run n (c ∷ cs) = if is_in_name c.0 then name_run (n ++ lower c.0 ∷ []) cs else (n, c ∷ cs)

-- the place of what is left, in a text of so many bytes
abbrev pub place_in : ℕ → List Cell → ℕ
place_in total [] = total
place_in total (c ∷ cs) = c.1

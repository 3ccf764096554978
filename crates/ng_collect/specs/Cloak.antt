-- `ng-cloak` leaves no trace in a page: it hides a template until it is compiled (API: ngCloak).
use Rattle.std.specs.Prelude.{ℕ, Bool, true, false, not, List, [], ◌∷◌, ◌++◌, codes, if◌then◌else◌}
use Rattle.std.specs.Char.{is_ascii_whitespace}
use Rattle.std.specs.List.{flat_map}
use Rattle.std.specs.Str.{bytes_eq}
use Rattle.ng_markup.specs.Forest.{Attributes}
use Rattle.ng_collect.specs.Names.{directive_name}
use Rattle.ng_collect.specs.Table.{is_cloak}

-- a word of a class after white space, which goes with the word `ng-cloak`
abbrev pub kept_word : List ℕ → List ℕ → List ℕ
kept_word space word = if bytes_eq word (codes "ng-cloak") then [] else space ++ word

abbrev pub is_nil : List ℕ → Bool
is_nil [] = true
is_nil (c ∷ cs) = false

-- the words of a class, after this white space and these first characters of a word
abbrev pub uncloaked_from : List ℕ → List ℕ → List ℕ → List ℕ
uncloaked_from space word [] = kept_word space word
uncloaked_from space word (c ∷ cs) =
    if not (is_ascii_whitespace c) then uncloaked_from space (word ++ c ∷ []) cs
    else if is_nil word then uncloaked_from (space ++ c ∷ []) word cs
    else kept_word space word ++ uncloaked_from (c ∷ []) [] cs

abbrev pub uncloaked : List ℕ → List ℕ
uncloaked class = uncloaked_from [] [] class

abbrev pub kept_value : List ℕ × List ℕ → List ℕ
kept_value a = if bytes_eq a.0 (codes "class") then uncloaked a.1 else a.1

-- the attribute of that name goes, whatever its spelling
abbrev pub kept_attribute : List ℕ × List ℕ → Attributes
kept_attribute a = if is_cloak (directive_name a.0) then [] else (a.0, kept_value a) ∷ []

-- the attributes that stay
abbrev pub kept_attributes : Attributes → Attributes
kept_attributes attributes = flat_map kept_attribute attributes

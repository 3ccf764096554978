-- The words of a line, with blanks between them.
use Rattle.std.specs.Prelude.{ℕ, ◌==◌, ◌||◌, Bool, List, [], ◌∷◌, if◌then◌else◌}
use Rattle.ng_base.specs.Codes.{tab, line_feed, space}
use Rattle.ng_base.specs.Trimming.{past}
use Rattle.ng_script.specs.declared.cut.Part.{Part}
use Rattle.ng_script.specs.declared.cut.Part.TheVariants as part

abbrev pub is_blank : ℕ → Bool
is_blank c = c == space || c == tab

-- a line feed ends a line, and a blank a word
abbrev pub ends : Part → ℕ → Bool
ends part.Line c = c == line_feed
ends part.Word c = is_blank c

-- what stands before the first character that is so, and the characters from there on
abbrev pub front : (ℕ → Bool) → List ℕ → List ℕ
front p [] = []
front p (c ∷ cs) = if p c then [] else c ∷ front p cs

abbrev pub onward : (ℕ → Bool) → List ℕ → List ℕ
onward p [] = []
onward p (c ∷ cs) = if p c then c ∷ cs else onward p cs

-- without the blanks in front
abbrev pub past_blanks : List ℕ → List ℕ
past_blanks cs = past is_blank cs

-- the first word, and what stands after it and the blanks that follow it
abbrev pub word : List ℕ → List ℕ
word cs = front (ends part.Word) cs

abbrev pub next_part : List ℕ → List ℕ
next_part cs = past_blanks (onward (ends part.Word) cs)

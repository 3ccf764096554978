-- A doctype at the front of a document.
use Rattle.std.specs.Prelude.{◌≡◌, Bool, true, not, ℕ, ◌==◌, List, ◌∷◌, ◌++◌, map, Result, Ok, Err, codes}
use Rattle.std.specs.List.{list_all}
use Rattle.ng_base.specs.Codes as char
use Rattle.ng_base.specs.Cells.{Cell}
use Rattle.ng_tags.specs.Free.{fault}
use Rattle.ng_tags.specs.Letters.{lower}
use Rattle.ng_tags.specs.Spelling.{chars_of, AreSpaces}
use Rattle.ng_tags.specs.declared.fault.HtmlFault.{HtmlFault}
use Rattle.ng_tags.specs.declared.fault.HtmlKind.TheVariants as kind

-- white space, `<` and `!doctype` in small or capital letters, and what follows
pub record BeginsDoctype (cs : List Cell) (sign : Cell) (behind : List Cell) : Type 0 where
  pub spaces : List Cell
  pub word : List Cell
  pub whole : cs ≡ spaces ++ sign ∷ (word ++ behind)
  pub are_spaces : AreSpaces spaces
  pub is_sign : sign.0 ≡ char.less_than_sign
  pub is_word : map lower (chars_of word) ≡ codes "!doctype"

abbrev pub is_no_end : ℕ → Bool
is_no_end c = not (c == char.greater_than_sign)

abbrev pub HasNoEnd : List Cell → Type 0
HasNoEnd cs = list_all is_no_end (chars_of cs) ≡ true

-- a doctype goes up to the next `>`; where there is none, it is no tag; a document need not have one
pub data AfterDoctype (cs : List Cell) : Result (List Cell) HtmlFault → Type 0 where
  passed : (sign : Cell) (inner : List Cell) (last : Cell) (rest : List Cell) → BeginsDoctype cs sign (inner ++ last ∷ rest) → HasNoEnd inner → last.0 ≡ char.greater_than_sign → AfterDoctype cs (Ok rest)
  endless : (sign : Cell) (behind : List Cell) → BeginsDoctype cs sign behind → HasNoEnd behind → AfterDoctype cs (Err (fault kind.BadTag sign.1))
  no_doctype : ((sign : Cell) (behind : List Cell) → BeginsDoctype cs sign behind → ⊥) → AfterDoctype cs (Ok cs)

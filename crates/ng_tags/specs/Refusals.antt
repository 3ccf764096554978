-- When what stands in front is refused, and where.
use Rattle.std.specs.Prelude.{◌≡◌, Bool, true, false, ℕ, ◌==◌, ◌||◌, List, [], ◌∷◌, ◌++◌, map, codes}
use Rattle.ng_base.specs.Codes as char
use Rattle.ng_base.specs.Cells.{Cell}
use Rattle.ng_markup.specs.Tables.{is_left_out}
use Rattle.ng_tags.specs.Free.{fault}
use Rattle.std.specs.Char.{is_ascii_alphabetic}
use Rattle.ng_tags.specs.Letters.{is_in_name, is_space, lower}
use Rattle.ng_tags.specs.Texts.{ends}
use Rattle.ng_tags.specs.Spelling.{chars_of, Names, BeginsNumber, Reads, IsName, BeginsNot, AreSpaces, GoesOn}
use Rattle.ng_tags.specs.declared.fault.HtmlFault.{HtmlFault}
use Rattle.ng_tags.specs.declared.fault.HtmlKind.TheVariants as kind
use Rattle.ng_tags.specs.declared.until.Until.{Until}
use Rattle.ng_tags.specs.declared.until.Until.TheVariants as until

-- these cells, as far as they go, are a name
pub record IsWholeName (n : List ℕ) (us rest : List Cell) : Type 0 where
  pub characters : IsName (chars_of us)
  pub in_lower : n ≡ map lower (chars_of us)
  pub name_ends : BeginsNot is_in_name rest

-- a character that stands right behind no name of a tag
abbrev pub is_follower : ℕ → Bool
is_follower c = is_space c || c == char.greater_than_sign || c == char.slash

abbrev pub is_sign_or_space : ℕ → Bool
is_sign_or_space c = is_space c || c == char.greater_than_sign

-- no word of these characters stands first
abbrev pub BeginsNoWord : List ℕ → List Cell → Type 0
BeginsNoWord w cs = (us more : List Cell) → cs ≡ us ++ more → chars_of us ≡ w → ⊥

-- the cells behind a `<` make no tag
pub data NoTag : List Cell → Type 0 where
  left_out : (n : List ℕ) (us rest : List Cell) → IsWholeName n us rest → is_left_out n ≡ true → NoTag (us ++ rest)
  no_follower : (n : List ℕ) (us : List Cell) (c : Cell) (rest : List Cell) → IsWholeName n us (c ∷ rest) → is_left_out n ≡ false → is_follower c.0 ≡ false → NoTag (us ++ c ∷ rest)
  no_name : (s : Cell) (cs : List Cell) → s.0 ≡ char.slash → BeginsNot is_ascii_alphabetic cs → NoTag (s ∷ cs)
  left_out_end : (s : Cell) (n : List ℕ) (us rest : List Cell) → s.0 ≡ char.slash → IsWholeName n us rest → is_left_out n ≡ true → NoTag (s ∷ (us ++ rest))
  no_end : (s : Cell) (n : List ℕ) (us spaces : List Cell) (c : Cell) (rest : List Cell) → s.0 ≡ char.slash → IsWholeName n us (spaces ++ c ∷ rest) → is_left_out n ≡ false → AreSpaces spaces → is_sign_or_space c.0 ≡ false → NoTag (s ∷ (us ++ (spaces ++ c ∷ rest)))
  no_comment : (s : Cell) (cs : List Cell) → s.0 ≡ char.exclamation_mark → BeginsNoWord (codes "--") cs → NoTag (s ∷ cs)
  question_mark : (s : Cell) (cs : List Cell) → s.0 ≡ char.question_mark → NoTag (s ∷ cs)

-- the cells behind a `<` are an end tag or a comment that the end of the document cuts off
pub data CutOff : List Cell → Type 0 where
  end_tag_cut : (s : Cell) (n : List ℕ) (us spaces : List Cell) → s.0 ≡ char.slash → IsWholeName n us spaces → is_left_out n ≡ false → AreSpaces spaces → CutOff (s ∷ (us ++ spaces))
  comment_cut : (s : Cell) (dashes inner : List Cell) → s.0 ≡ char.exclamation_mark → chars_of dashes ≡ codes "--" → GoesOn inner [] → CutOff (s ∷ (dashes ++ inner))

-- the cells behind an `&` begin a number, but name no character
pub record IsBadReference (cs : List Cell) : Type 0 where
  pub is_number : BeginsNumber cs
  pub names_none : (x : ℕ) (vs more : List Cell) → cs ≡ vs ++ more → Names x vs → ⊥

-- what stands before a bad reference at a place reads as a text
pub record BadAt (u : Until) (p : ℕ) (cs : List Cell) : Type 0 where
  pub before : List Cell
  pub t : List ℕ
  pub amp : Cell
  pub behind : List Cell
  pub whole : cs ≡ before ++ amp ∷ behind
  pub reads : Reads u (amp ∷ behind) before t
  pub is_amp : amp.0 ≡ char.ampersand
  pub place : amp.1 ≡ p
  pub is_bad : IsBadReference behind

-- what begins with this cell is refused so
pub data Refused (total : ℕ) (c : Cell) (cs : List Cell) : HtmlFault → Type 0 where
  bad_tag : c.0 ≡ char.less_than_sign → NoTag cs → Refused total c cs (fault kind.BadTag c.1)
  unclosed : c.0 ≡ char.less_than_sign → CutOff cs → Refused total c cs (fault kind.Unclosed total)
  bad_reference : (p : ℕ) → ends until.Tag c.0 cs ≡ false → BadAt until.Tag p (c ∷ cs) → Refused total c cs (fault kind.BadReference p)

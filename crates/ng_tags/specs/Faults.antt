-- What is wrong inside of a tag, and where.
use Rattle.std.specs.Prelude.{⊤, ◌≡◌, Bool, true, false, ℕ, ◌==◌, ◌||◌, List, [], ◌∷◌, ◌++◌}
use Rattle.std.specs.List.{list_all}
use Rattle.ng_base.specs.Codes as char
use Rattle.ng_base.specs.Cells.{Cell}
use Rattle.ng_markup.specs.Tables.{is_left_out, is_raw}
use Rattle.ng_tags.specs.Free.{fault}
use Rattle.ng_tags.specs.Letters.{is_space, is_in_attribute, is_bare}
use Rattle.ng_tags.specs.Spelling.{chars_of, Reads, BeginsNot, EqualsSign, IsQuote, IsAttribute, IsStartTag, Dropped}
use Rattle.ng_tags.specs.Refusals.{IsWholeName, is_follower, BadAt}
use Rattle.ng_tags.specs.declared.event.Tag.{Tag}
use Rattle.ng_tags.specs.declared.fault.HtmlFault.{HtmlFault}
use Rattle.ng_tags.specs.declared.fault.HtmlKind.TheVariants as kind
use Rattle.ng_tags.specs.declared.until.Until.{Until}
use Rattle.ng_tags.specs.declared.until.Until.TheVariants as until

-- attributes and white space, which that rest follows
pub data SoFar (rest : List Cell) : List Cell → Type 0 where
  none_yet : SoFar rest []
  space_first : (c : Cell) (us : List Cell) → is_space c.0 ≡ true → SoFar rest us → SoFar rest (c ∷ us)
  attribute_first : (name value : List ℕ) (us vs : List Cell) → IsAttribute name value us (vs ++ rest) → SoFar rest vs → SoFar rest (us ++ vs)

-- a value begins with a quote, or stands without quotes
abbrev pub begins_value : ℕ → Bool
begins_value c = is_bare c || c == char.quotation_mark || c == char.apostrophe

-- behind the `=` of an attribute no whole value stands
pub data WrongValue (total : ℕ) : List Cell → HtmlFault → Type 0 where
  value_cut : WrongValue total [] (fault kind.Unclosed total)
  no_value : (c : Cell) (cs : List Cell) → begins_value c.0 ≡ false → WrongValue total (c ∷ cs) (fault kind.BadAttr c.1)
  quote_cut : (u : Until) (v : List ℕ) (q : Cell) (w : List Cell) → IsQuote q.0 u → Reads u [] w v → WrongValue total (q ∷ w) (fault kind.Unclosed total)
  bad_in_quotes : (u : Until) (p : ℕ) (q : Cell) (cs : List Cell) → IsQuote q.0 u → BadAt u p cs → WrongValue total (q ∷ cs) (fault kind.BadReference p)
  bad_in_bare : (p : ℕ) (c : Cell) (cs : List Cell) → is_bare c.0 ≡ true → BadAt until.Space p (c ∷ cs) → WrongValue total (c ∷ cs) (fault kind.BadReference p)
  backquote : (v : List ℕ) (c : Cell) (w : List Cell) (b : Cell) (cs : List Cell) → is_bare c.0 ≡ true → Reads until.Space (b ∷ cs) (c ∷ w) v → b.0 ≡ char.backquote → WrongValue total (c ∷ (w ++ b ∷ cs)) (fault kind.BadAttr b.1)

-- what may stand inside of a tag, where no attribute has begun
abbrev pub begins_inside : ℕ → Bool
begins_inside c = is_in_attribute c || is_space c || c == char.greater_than_sign || c == char.slash

-- neither a whole attribute nor the end of the tag stands here
pub data Wrong (total : ℕ) : List Cell → HtmlFault → Type 0 where
  tag_cut : Wrong total [] (fault kind.Unclosed total)
  slash_cut : (s : Cell) → s.0 ≡ char.slash → Wrong total (s ∷ []) (fault kind.Unclosed total)
  slash_inside : (s c : Cell) (cs : List Cell) → s.0 ≡ char.slash → (c.0 == char.greater_than_sign) ≡ false → Wrong total (s ∷ c ∷ cs) (fault kind.BadAttr s.1)
  no_attribute : (c : Cell) (cs : List Cell) → begins_inside c.0 ≡ false → Wrong total (c ∷ cs) (fault kind.BadAttr c.1)
  wrong_value : (c : Cell) (w us cs : List Cell) (f : HtmlFault) → list_all is_in_attribute (chars_of (c ∷ w)) ≡ true → EqualsSign us → BeginsNot is_space cs → WrongValue total cs f → Wrong total ((c ∷ w) ++ (us ++ cs)) f

-- inside of a tag all is well up to there
pub record WrongInside (total : ℕ) (cs : List Cell) (f : HtmlFault) : Type 0 where
  pub before : List Cell
  pub behind : List Cell
  pub whole : cs ≡ before ++ behind
  pub so_far : SoFar behind before
  pub wrong : Wrong total behind f

-- nothing, or what may stand right behind a tag's name
abbrev pub MayFollow : List Cell → Type 0
MayFollow [] = ⊤
MayFollow (c ∷ cs) = is_follower c.0 ≡ true

-- a start tag begins with this cell, and this is its first fault: inside of it, or in the content of an element of text alone
pub data IsFaulty (total : ℕ) (c : Cell) (cs : List Cell) : HtmlFault → Type 0 where
  in_tag : (n : List ℕ) (name behind : List Cell) (f : HtmlFault) → c.0 ≡ char.less_than_sign → cs ≡ name ++ behind → IsWholeName n name behind → is_left_out n ≡ false → MayFollow behind → WrongInside total behind f → IsFaulty total c cs f
  content_cut : (t : Tag) (tag dropped inner : List Cell) (text : List ℕ) → c ∷ cs ≡ tag ++ (dropped ++ inner) → IsStartTag t tag (dropped ++ inner) → is_raw t.name ≡ true → t.closed ≡ false → Dropped t.name inner dropped →
      Reads (until.EndTag t.name) [] inner text → IsFaulty total c cs (fault kind.Unclosed total)
  bad_in_content : (t : Tag) (tag dropped inner : List Cell) (p : ℕ) → c ∷ cs ≡ tag ++ (dropped ++ inner) → IsStartTag t tag (dropped ++ inner) → is_raw t.name ≡ true → t.closed ≡ false → Dropped t.name inner dropped →
      BadAt (until.EndTag t.name) p inner → IsFaulty total c cs (fault kind.BadReference p)

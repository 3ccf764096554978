-- Which cells spell an event.
use Rattle.std.specs.Prelude.{◌≡◌, ◌⊎◌, Bool, true, false, not, ℕ, ◌==◌, ◌||◌, ◌&&◌, List, [], ◌∷◌, ◌++◌, map, None, Some, codes, ⊤}
use Rattle.std.specs.List.{list_all}
use Rattle.ng_base.specs.Codes as char
use Rattle.ng_base.specs.Cells.{Cell}
use Rattle.ng_markup.specs.Forest.{Attributes}
use Rattle.ng_markup.specs.Tables.{is_left_out, is_raw, is_line_dropping}
use Rattle.std.specs.Char.{is_ascii_alphabetic}
use Rattle.ng_tags.specs.Letters.{is_in_name, is_space, is_in_attribute, is_bare, lower}
use Rattle.ng_tags.specs.References.{named_character, digit_value, is_digit_of, with_digit, is_character}
use Rattle.ng_tags.specs.Texts.{ends}
use Rattle.ng_tags.specs.Attributes.{with_attribute}
use Rattle.ng_tags.specs.Lexing.{as_space, ends_comment}
use Rattle.ng_tags.specs.declared.base.Base.{Base}
use Rattle.ng_tags.specs.declared.base.Base.TheVariants as base
use Rattle.ng_tags.specs.declared.event.Event.{Event}
use Rattle.ng_tags.specs.declared.event.Event.TheVariants as event
use Rattle.ng_tags.specs.declared.event.Tag.{Tag}
use Rattle.ng_tags.specs.declared.until.Until.{Until}
use Rattle.ng_tags.specs.declared.until.Until.TheVariants as until

abbrev pub chars_of : List Cell → List ℕ
chars_of cs = map (λ c. c.0) cs

-- the value of digits behind this number
abbrev pub digits_value : Base → ℕ → List ℕ → ℕ
digits_value b n [] = n
digits_value b n (c ∷ cs) = digits_value b (with_digit b n (digit_value c)) cs

-- the cells us behind an `&` name the character x
pub data Names : ℕ → List Cell → Type 0 where
  by_name : (x : ℕ) (w : List Cell) (z : Cell) → list_all is_ascii_alphabetic (chars_of w) ≡ true → named_character (chars_of w) ≡ Some x → z.0 ≡ char.semicolon → Names x (w ++ z ∷ [])
  by_number : (a d : Cell) (w : List Cell) (z : Cell) → a.0 ≡ char.number_sign → list_all (is_digit_of base.Decimal) (chars_of (d ∷ w)) ≡ true → is_character (digits_value base.Decimal 0 (chars_of (d ∷ w))) ≡ true → z.0 ≡ char.semicolon →
      Names (digits_value base.Decimal 0 (chars_of (d ∷ w))) (a ∷ d ∷ (w ++ z ∷ []))
  by_hexadecimal : (a b d : Cell) (w : List Cell) (z : Cell) → a.0 ≡ char.number_sign → b.0 ≡ char.letter_x → list_all (is_digit_of base.Hexadecimal) (chars_of (d ∷ w)) ≡ true → is_character (digits_value base.Hexadecimal 0 (chars_of (d ∷ w))) ≡ true → z.0 ≡ char.semicolon →
      Names (digits_value base.Hexadecimal 0 (chars_of (d ∷ w))) (a ∷ b ∷ d ∷ (w ++ z ∷ []))

-- the cells behind an `&` begin a number: `#` and a digit, or `#x` and a hexadecimal digit
pub data BeginsNumber : List Cell → Type 0 where
  with_digit_first : (a d : Cell) (cs : List Cell) → a.0 ≡ char.number_sign → is_digit_of base.Decimal d.0 ≡ true → BeginsNumber (a ∷ d ∷ cs)
  with_sign_first : (a b d : Cell) (cs : List Cell) → a.0 ≡ char.number_sign → b.0 ≡ char.letter_x → is_digit_of base.Hexadecimal d.0 ≡ true → BeginsNumber (a ∷ b ∷ d ∷ cs)

-- the cells behind an `&` neither name a character nor begin a number
pub record NoReference (cs : List Cell) : Type 0 where
  pub no_name : (x : ℕ) (vs more : List Cell) → cs ≡ vs ++ more → Names x vs → ⊥
  pub no_number : BeginsNumber cs → ⊥

-- the cells us, which that rest follows, read as the text t up to what ends it
pub data Reads (u : Until) (rest : List Cell) : List Cell → List ℕ → Type 0 where
  no_more : Reads u rest [] []
  itself : (c : Cell) (us : List Cell) (t : List ℕ) → ends u c.0 (us ++ rest) ≡ false → (c.0 == char.ampersand) ≡ false → Reads u rest us t → Reads u rest (c ∷ us) (c.0 ∷ t)
  by_reference : (c : Cell) (vs us : List Cell) (t : List ℕ) (x : ℕ) → c.0 ≡ char.ampersand → Names x vs → Reads u rest us t → Reads u rest (c ∷ (vs ++ us)) (x ∷ t)
  ampersand : (c : Cell) (us : List Cell) (t : List ℕ) → c.0 ≡ char.ampersand → NoReference (us ++ rest) → Reads u rest us t → Reads u rest (c ∷ us) (char.ampersand ∷ t)

-- a text ends there
abbrev pub Ended : Until → List Cell → Type 0
Ended u [] = ⊤
Ended u (c ∷ cs) = ends u c.0 cs ≡ true

-- the characters of a name
abbrev pub IsName : List ℕ → Type 0
IsName [] = ⊥
IsName (c ∷ cs) = (is_ascii_alphabetic c ≡ true) × (list_all is_in_name cs ≡ true)

-- the first of these cells, if there is one, is none of these characters
abbrev pub BeginsNot : (ℕ → Bool) → List Cell → Type 0
BeginsNot is [] = ⊤
BeginsNot is (c ∷ cs) = is c.0 ≡ false

abbrev pub is_equals_or_space : ℕ → Bool
is_equals_or_space c = c == char.equals_sign || is_space c

abbrev pub is_bare_or_backquote : ℕ → Bool
is_bare_or_backquote c = is_bare c || c == char.backquote

abbrev pub AreSpaces : List Cell → Type 0
AreSpaces s = list_all is_space (chars_of s) ≡ true

-- `=` with white space round it
pub record EqualsSign (us : List Cell) : Type 0 where
  pub before : List Cell
  pub sign : Cell
  pub behind : List Cell
  pub whole : us ≡ before ++ sign ∷ behind
  pub spaces_before : AreSpaces before
  pub is_sign : sign.0 ≡ char.equals_sign
  pub spaces_behind : AreSpaces behind

-- the quote that ends a value
abbrev pub IsQuote : ℕ → Until → Type 0
IsQuote c u = ((c ≡ char.quotation_mark) × (u ≡ until.Double)) ⊎ ((c ≡ char.apostrophe) × (u ≡ until.Single))

-- the cells behind an attribute's name give it this value
pub data Valued (rest : List Cell) : List ℕ → List Cell → Type 0 where
  no_value : (s : List Cell) → AreSpaces s → BeginsNot is_equals_or_space rest → Valued rest [] s
  bare : (v : List ℕ) (us : List Cell) (c : Cell) (w : List Cell) → EqualsSign us → is_bare c.0 ≡ true → Reads until.Space rest (c ∷ w) v → BeginsNot is_bare_or_backquote rest → Valued rest v (us ++ c ∷ w)
  quoted : (v : List ℕ) (us : List Cell) (u : Until) (q : Cell) (w : List Cell) (z : Cell) → EqualsSign us → IsQuote q.0 u → Reads u (z ∷ rest) w v → z.0 ≡ q.0 → Valued rest v (us ++ q ∷ (w ++ z ∷ []))

-- an attribute
pub record IsAttribute (name value : List ℕ) (us rest : List Cell) : Type 0 where
  pub first : Cell
  pub more : List Cell
  pub behind : List Cell
  pub whole : us ≡ first ∷ (more ++ behind)
  pub characters : list_all is_in_attribute (chars_of (first ∷ more)) ≡ true
  pub in_lower : name ≡ map lower (chars_of (first ∷ more))
  pub name_ends : BeginsNot is_in_attribute (behind ++ rest)
  pub valued : Valued rest value behind

-- with these attributes before, the cells up to the end of the tag, which that rest follows, give those; the tag may end in `/>`
pub data AreAttributes (rest : List Cell) : Attributes → List Cell → Attributes → Bool → Type 0 where
  ends_open : (done : Attributes) (z : Cell) → z.0 ≡ char.greater_than_sign → AreAttributes rest done (z ∷ []) done false
  ends_closed : (done : Attributes) (y z : Cell) → y.0 ≡ char.slash → z.0 ≡ char.greater_than_sign → AreAttributes rest done (y ∷ z ∷ []) done true
  space_then : (done all : Attributes) (b : Bool) (c : Cell) (us : List Cell) → is_space c.0 ≡ true → AreAttributes rest done us all b → AreAttributes rest done (c ∷ us) all b
  attribute_then : (done all : Attributes) (b : Bool) (name value : List ℕ) (us vs : List Cell) → IsAttribute name value us (vs ++ rest) → AreAttributes rest (with_attribute done name value) vs all b → AreAttributes rest done (us ++ vs) all b

-- what may stand right behind a tag's name
abbrev pub NameEnds : List Cell → Type 0
NameEnds [] = ⊥
NameEnds (c ∷ cs) = (is_space c.0 || c.0 == char.greater_than_sign || c.0 == char.slash) ≡ true

-- a start tag, which that rest follows
pub record IsStartTag (t : Tag) (us rest : List Cell) : Type 0 where
  pub first : Cell
  pub name : List Cell
  pub inside : List Cell
  pub whole : us ≡ first ∷ (name ++ inside)
  pub sign : first.0 ≡ char.less_than_sign
  pub place : first.1 ≡ t.place
  pub characters : IsName (chars_of name)
  pub in_lower : t.name ≡ map lower (chars_of name)
  pub not_left_out : is_left_out t.name ≡ false
  pub name_ends : NameEnds inside
  pub attributes : AreAttributes rest [] inside t.attrs t.closed
  pub no_fault : t.fault ≡ None

abbrev pub is_line_feed : ℕ → Bool
is_line_feed c = c == char.line_feed

-- the cells behind a tag of this name, up to its content: a line feed that is dropped, or none
pub data Dropped (n : List ℕ) (rest : List Cell) : List Cell → Type 0 where
  line_feed : (c : Cell) → is_line_dropping n ≡ true → c.0 ≡ char.line_feed → Dropped n rest (c ∷ [])
  nothing : (is_line_dropping n ≡ true → BeginsNot is_line_feed rest) → Dropped n rest []

-- the name in an end tag, and white space behind it
pub record IsEndTag (n : List ℕ) (p : ℕ) (us : List Cell) : Type 0 where
  pub first : Cell
  pub second : Cell
  pub name : List Cell
  pub spaces : List Cell
  pub last : Cell
  pub whole : us ≡ first ∷ second ∷ (name ++ (spaces ++ last ∷ []))
  pub sign : first.0 ≡ char.less_than_sign
  pub place : first.1 ≡ p
  pub slash : second.0 ≡ char.slash
  pub characters : IsName (chars_of name)
  pub in_lower : n ≡ map lower (chars_of name)
  pub are_spaces : AreSpaces spaces
  pub is_close : last.0 ≡ char.greater_than_sign

-- no comment ends within these cells, which those follow
abbrev pub GoesOn : List Cell → List Cell → Type 0
GoesOn [] zs = ⊤
GoesOn (c ∷ us) zs = (ends_comment ((c ∷ us) ++ zs) ≡ false) × GoesOn us zs

pub record IsComment (t : List ℕ) (p : ℕ) (us rest : List Cell) : Type 0 where
  pub first : Cell
  pub opening : List Cell
  pub inner : List Cell
  pub closing : List Cell
  pub whole : us ≡ first ∷ (opening ++ (inner ++ closing))
  pub sign : first.0 ≡ char.less_than_sign
  pub place : first.1 ≡ p
  pub opens : chars_of opening ≡ codes "!--"
  pub closes : chars_of closing ≡ codes "-->"
  pub goes_on : GoesOn inner (closing ++ rest)
  pub reads : t ≡ map as_space (chars_of inner)

-- a text, which is not empty
pub record IsTextOf (t : List ℕ) (p : ℕ) (us rest : List Cell) : Type 0 where
  pub first : Cell
  pub more : List Cell
  pub whole : us ≡ first ∷ more
  pub place : first.1 ≡ p
  pub reads : Reads until.Tag rest us t
  pub ended : Ended until.Tag rest

-- the place of the first of these cells
abbrev pub BeginsAt : ℕ → List Cell → Type 0
BeginsAt p [] = ⊥
BeginsAt p (c ∷ cs) = c.1 ≡ p

-- an element of text alone: its tag, its content, its end tag
pub record IsRaw (t : Tag) (text : List ℕ) (p : ℕ) (us rest : List Cell) : Type 0 where
  pub tag : List Cell
  pub dropped : List Cell
  pub inner : List Cell
  pub closing : List Cell
  pub q : ℕ
  pub whole : us ≡ tag ++ (dropped ++ (inner ++ closing))
  pub is_tag : IsStartTag t tag (dropped ++ (inner ++ (closing ++ rest)))
  pub is_raw : is_raw t.name ≡ true
  pub is_open : t.closed ≡ false
  pub drops : Dropped t.name (inner ++ (closing ++ rest)) dropped
  pub place : BeginsAt p (inner ++ closing)
  pub reads : Reads (until.EndTag t.name) (closing ++ rest) inner text
  pub is_end : IsEndTag t.name q closing

-- a start tag of any other element, or one that ends in `/>`
pub record IsStart (t : Tag) (us rest : List Cell) : Type 0 where
  pub tag : List Cell
  pub dropped : List Cell
  pub whole : us ≡ tag ++ dropped
  pub is_tag : IsStartTag t tag (dropped ++ rest)
  pub has_content : (is_raw t.name && not t.closed) ≡ false
  pub drops : Dropped t.name rest dropped

-- these cells, which that rest follows, spell the event
abbrev pub Lexeme : Event → List Cell → List Cell → Type 0
Lexeme (event.Start t) us rest = IsStart t us rest
Lexeme (event.Raw t text p) us rest = IsRaw t text p us rest
Lexeme (event.End n p) us rest = IsEndTag n p us × (is_left_out n ≡ false)
Lexeme (event.Text t p) us rest = IsTextOf t p us rest
Lexeme (event.Comment t p) us rest = IsComment t p us rest

-- no fault stands in the event's tag
abbrev pub IsWhole : Event → Type 0
IsWhole (event.Start t) = t.fault ≡ None
IsWhole (event.Raw t text p) = t.fault ≡ None
IsWhole (event.End n p) = ⊤
IsWhole (event.Text t p) = ⊤
IsWhole (event.Comment t p) = ⊤

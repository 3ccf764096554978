-- What events that were read are like.
use Rattle.std.proofs.Common.{◌≡◌, ◌≢◌, ℕ, Bool, true, false, not, ◌&&◌, ◌==◌, List, [], ◌∷◌, ◌++◌, map, refl, ap, ◌∙◌, sym, subst, arith}
use Rattle.std.proofs.lemmas.Bool.Decides.{nat_tests}
use Rattle.std.specs.Prelude.{⊤}
use Rattle.std.specs.BTreeMap.{insert_entry}
use Rattle.std.specs.List.{list_all}
use Rattle.std.specs.Ordering.{match_ordering}
use Rattle.std.specs.declared.cmp.Ordering.{Ordering}
use Rattle.std.specs.declared.cmp.Ordering.TheVariants.{Less, Equal, Greater}
use Rattle.ng_base.specs.Cells.{Cell}
use Rattle.ng_base.specs.Order.{txt_cmp}
use Rattle.ng_base.proofs.Binds.{if_held}
use Rattle.ng_markup.specs.Tables.{is_left_out}
use Rattle.ng_markup.specs.Forest.{Attributes}
use Rattle.std.specs.Char.{is_ascii_alphabetic}
use Rattle.ng_tags.specs.Letters.{is_in_name, is_in_attribute, lower}
use Rattle.ng_tags.specs.Attributes.{has_attribute, with_attribute}
use Rattle.ng_tags.specs.Lexing.{as_space}
use Rattle.ng_tags.specs.Spelling.{chars_of, Reads, itself, no_more, by_reference, ampersand, IsName, Valued, no_value, bare, quoted, IsAttribute, AreAttributes, ends_open, ends_closed, space_then, attribute_then, IsStartTag, IsRaw, IsComment, Lexeme}
use Rattle.ng_tags.specs.declared.event.Event.{Event}
use Rattle.ng_tags.specs.declared.event.Event.TheVariants as event
use Rattle.ng_tags.specs.declared.event.Tag.{Tag}
use Rattle.ng_tags.specs.declared.until.Until.{Until}
use Rattle.ng_html.proofs.PlainText.{is_cell_char}
use Rattle.ng_html.proofs.SortedAttributes.{AreSorted, sorted_with}
use Rattle.ng_html.proofs.ReadTexts.{both, both_true, parts, is_value_char, reads_value}
use Rattle.ng_html.proofs.ReadComments.{NeverEnds, goes_never}

-- the name of an element: in small letters, and not left out
abbrev pub IsReadName : List ℕ → Type 0
IsReadName n = IsName n × (map lower n ≡ n) × (is_left_out n ≡ false)

-- a character of an attribute's name
abbrev pub is_name_char : ℕ → Bool
is_name_char c = is_in_attribute c && is_cell_char c

abbrev pub IsAttributeName : List ℕ → Type 0
IsAttributeName n = (n ≢ []) × (map lower n ≡ n) × (list_all is_name_char n ≡ true)

abbrev pub AllRead : Attributes → Type 0
AllRead [] = ⊤
AllRead (a ∷ more) = IsAttributeName a.0 × (list_all is_value_char a.1 ≡ true) × AllRead more

abbrev pub AreRead : Attributes → Type 0
AreRead a = AllRead a × AreSorted a

-- a character of a comment, and of each print
abbrev pub is_line_char : ℕ → Bool
is_line_char c = is_cell_char c && not (c == 10)

-- an event that was read
abbrev pub IsRead : Event → Type 0
IsRead (event.Start t) = IsReadName t.name × AreRead t.attrs
IsRead (event.Raw t x q) = IsReadName t.name × AreRead t.attrs × (list_all is_value_char x ≡ true)
IsRead (event.End n p) = ⊤
IsRead (event.Text t p) = (t ≢ []) × (list_all is_value_char t ≡ true)
IsRead (event.Comment t p) = (list_all is_line_char t ≡ true) × NeverEnds t

-- names in small letters
lower_letter : (c : ℕ) → is_ascii_alphabetic c ≡ true → is_ascii_alphabetic (lower c) ≡ true
lower_letter c h = grind (arith, nat_tests)

lower_name : (c : ℕ) → is_in_name c ≡ true → is_in_name (lower c) ≡ true
lower_name c h = grind (arith, nat_tests)

lower_twice : (c : ℕ) → lower (lower c) ≡ lower c
lower_twice c = grind (arith, nat_tests)

lower_attribute : (c : ℕ) → is_in_attribute c ≡ true → is_in_attribute (lower c) ≡ true
lower_attribute c h = grind (arith, nat_tests)

lower_cell : (c : ℕ) → is_cell_char c ≡ true → is_cell_char (lower c) ≡ true
lower_cell c h = grind (arith, nat_tests)

lowered_twice : (w : List ℕ) → map lower (map lower w) ≡ map lower w
lowered_twice [] = refl
lowered_twice (c ∷ w) = ap (λ x. x ∷ map lower (map lower w)) (lower_twice c) ∙ ap (λ xs. lower c ∷ xs) (lowered_twice w)

lower_names : (w : List ℕ) → list_all is_in_name w ≡ true → list_all is_in_name (map lower w) ≡ true
lower_names [] h = refl
lower_names (c ∷ w) h = let b = both_true (is_in_name c) (list_all is_in_name w) h in both (is_in_name (lower c)) (list_all is_in_name (map lower w)) (lower_name c b.0) (lower_names w b.1)

lower_is : (w : List ℕ) → IsName w → IsName (map lower w)
lower_is [] h = absurd h
lower_is (c ∷ w) h = (lower_letter c h.0, lower_names w h.1)

tag_name : (t : Tag) (us rest : List Cell) → IsStartTag t us rest → IsReadName t.name
tag_name t us rest s =
    (subst IsName (sym s.in_lower) (lower_is (chars_of s.name) s.characters), ap (map lower) s.in_lower ∙ (lowered_twice (chars_of s.name) ∙ sym s.in_lower), s.not_left_out)

-- attributes
name_chars : (w : List ℕ) → list_all is_in_attribute w ≡ true → list_all is_cell_char w ≡ true → list_all is_name_char (map lower w) ≡ true
name_chars [] h i = refl
name_chars (c ∷ w) h i =
    let a = both_true (is_in_attribute c) (list_all is_in_attribute w) h in
    let b = both_true (is_cell_char c) (list_all is_cell_char w) i in
    both (is_name_char (lower c)) (list_all is_name_char (map lower w)) (both (is_in_attribute (lower c)) (is_cell_char (lower c)) (lower_attribute c a.0) (lower_cell c b.0)) (name_chars w a.1 b.1)

value_read : (rest : List Cell) (v : List ℕ) (us : List Cell) → Valued rest v us → list_all is_cell_char (chars_of us) ≡ true → list_all is_value_char v ≡ true
value_read rest v us (no_value s a b) h = refl
value_read rest v us (bare w xs c ys e b r n) h = reads_value _ rest (c ∷ ys) w r (parts is_cell_char xs (c ∷ ys) h).1
value_read rest v us (quoted w xs u q ys z e i r s) h =
    let b = both_true (is_cell_char q.0) (list_all is_cell_char (chars_of (ys ++ z ∷ []))) (parts is_cell_char xs (q ∷ (ys ++ z ∷ [])) h).1 in
    reads_value u (z ∷ rest) ys w r (parts is_cell_char ys (z ∷ []) b.1).0

record OneRead (n v : List ℕ) : Type 0 where
  name : IsAttributeName n
  value : list_all is_value_char v ≡ true

attribute_read : (n v : List ℕ) (us rest : List Cell) → IsAttribute n v us rest → list_all is_cell_char (chars_of us) ≡ true → OneRead n v
attribute_read n v us rest a h =
    let all = subst (λ (xs : List Cell). list_all is_cell_char (chars_of xs) ≡ true) a.whole h in
    let p = parts is_cell_char (a.first ∷ a.more) a.behind all in
    record {
      name = (λ e. let k = sym a.in_lower ∙ e in absurd (cc), ap (map lower) a.in_lower ∙ (lowered_twice (chars_of (a.first ∷ a.more)) ∙ sym a.in_lower), subst (λ w. list_all is_name_char w ≡ true) (sym a.in_lower) (name_chars (chars_of (a.first ∷ a.more)) a.characters p.0));
      value = value_read rest v a.behind a.valued p.1;
    }

read_insert : (xs : Attributes) (n v : List ℕ) → AllRead xs → OneRead n v → AllRead (insert_entry txt_cmp xs n v)
read_insert [] n v a o = (o.name, o.value, tt)
read_insert (x ∷ xs) n v a o = by (txt_cmp n x.0) (read_insert xs n v a.2 o)
  where
    by : (r : Ordering) → AllRead (insert_entry txt_cmp xs n v) → AllRead (match_ordering r ((n, v) ∷ x ∷ xs) ((x.0, v) ∷ xs) (x ∷ insert_entry txt_cmp xs n v))
    by Less i = (o.name, o.value, a)
    by Equal i = (a.0, o.value, a.2)
    by Greater i = (a.0, a.1, i)

read_with : (xs : Attributes) (n v : List ℕ) → AllRead xs → OneRead n v → AllRead (with_attribute xs n v)
read_with xs n v a o = if_held (has_attribute xs n) xs (insert_entry txt_cmp xs n v) AllRead (λ e. a) (λ e. read_insert xs n v a o)

attributes_read : (rest : List Cell) (done : Attributes) (us : List Cell) (all : Attributes) (b : Bool) → AreAttributes rest done us all b → list_all is_cell_char (chars_of us) ≡ true → AreRead done → AreRead all
attributes_read rest done us all b (ends_open d z e) h r = r
attributes_read rest done us all b (ends_closed d y z e f) h r = r
attributes_read rest done us all b (space_then d a k c vs e i) h r =
    attributes_read rest d vs a k i (both_true (is_cell_char c.0) (list_all is_cell_char (chars_of vs)) h).1 r
attributes_read rest done us all b (attribute_then d a k n v xs ys i j) h r =
    let p = parts is_cell_char xs ys h in
    attributes_read rest (with_attribute d n v) ys a k j p.1 (read_with d n v r.0 (attribute_read n v xs (ys ++ rest) i p.0), sorted_with d n v r.1)

tag_read : (t : Tag) (us rest : List Cell) → IsStartTag t us rest → list_all is_cell_char (chars_of us) ≡ true → IsReadName t.name × AreRead t.attrs
tag_read t us rest s h =
    let all = subst (λ (xs : List Cell). list_all is_cell_char (chars_of xs) ≡ true) s.whole h in
    let b = both_true (is_cell_char s.first.0) (list_all is_cell_char (chars_of (s.name ++ s.inside))) all in
    (tag_name t us rest s, attributes_read rest [] s.inside t.attrs t.closed s.attributes (parts is_cell_char s.name s.inside b.1).1 (tt, tt))

-- a text has characters
text_some : (u : Until) (rest us : List Cell) (t : List ℕ) → Reads u rest us t → us ≢ [] → t ≢ []
text_some u rest us t no_more n = λ e. n refl
text_some u rest us t (itself c vs v e m r) n = λ e. cc
text_some u rest us t (by_reference c ws vs v x e m r) n = λ e. cc
text_some u rest us t (ampersand c vs v e m r) n = λ e. cc

comment_cells : (w : List ℕ) → list_all is_cell_char w ≡ true → list_all is_line_char (map as_space w) ≡ true
comment_cells [] h = refl
comment_cells (c ∷ w) h =
    let b = both_true (is_cell_char c) (list_all is_cell_char w) h in
    both (is_line_char (as_space c)) (list_all is_line_char (map as_space w)) (one c b.0) (comment_cells w b.1)
  where
    one : (c : ℕ) → is_cell_char c ≡ true → is_line_char (as_space c) ≡ true
    one c h = if_held (c == 10) 32 c (λ x. is_line_char x ≡ true) (λ e. refl) (λ e. both (is_cell_char c) (not (c == 10)) h (ap not e))

comment_read : (t : List ℕ) (p : ℕ) (us rest : List Cell) → IsComment t p us rest → list_all is_cell_char (chars_of us) ≡ true → IsRead (event.Comment t p)
comment_read t p us rest c h =
    let all = subst (λ (xs : List Cell). list_all is_cell_char (chars_of xs) ≡ true) c.whole h in
    let b = both_true (is_cell_char c.first.0) (list_all is_cell_char (chars_of (c.opening ++ (c.inner ++ c.closing)))) all in
    let i = parts is_cell_char c.inner c.closing (parts is_cell_char c.opening (c.inner ++ c.closing) b.1).1 in
    (subst (λ w. list_all is_line_char w ≡ true) (sym c.reads) (comment_cells (chars_of c.inner) i.0), subst NeverEnds (sym c.reads) (goes_never c.inner c.closing rest c.closes c.goes_on))

raw_read : (t : Tag) (x : List ℕ) (q : ℕ) (us rest : List Cell) → IsRaw t x q us rest → list_all is_cell_char (chars_of us) ≡ true → IsRead (event.Raw t x q)
raw_read t x q us rest r h =
    let all = subst (λ (xs : List Cell). list_all is_cell_char (chars_of xs) ≡ true) r.whole h in
    let p = parts is_cell_char r.tag (r.dropped ++ (r.inner ++ r.closing)) all in
    let i = parts is_cell_char r.inner r.closing (parts is_cell_char r.dropped (r.inner ++ r.closing) p.1).1 in
    let g = tag_read t r.tag (r.dropped ++ (r.inner ++ (r.closing ++ rest))) r.is_tag p.0 in
    (g.0, g.1, reads_value _ (r.closing ++ rest) r.inner x r.reads i.0)

-- what a lexeme spells was read
pub lexeme_read : (e : Event) (us rest : List Cell) → Lexeme e us rest → list_all is_cell_char (chars_of us) ≡ true → IsRead e
lexeme_read (event.Start t) us rest l h =
    let all = subst (λ (xs : List Cell). list_all is_cell_char (chars_of xs) ≡ true) l.whole h in
    tag_read t l.tag (l.dropped ++ rest) l.is_tag (parts is_cell_char l.tag l.dropped all).0
lexeme_read (event.Raw t x q) us rest l h = raw_read t x q us rest l h
lexeme_read (event.End n p) us rest l h = tt
lexeme_read (event.Text t p) us rest l h = (text_some _ rest us t l.reads (λ e. let k = sym l.whole ∙ e in absurd (cc)), reads_value _ rest us t l.reads h)
lexeme_read (event.Comment t p) us rest l h = comment_read t p us rest l h

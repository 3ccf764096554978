-- A print is one line of text.
use Rattle.std.proofs.Common.{◌≡◌, ℕ, Bool, true, false, not, ◌&&◌, ◌==◌, List, [], ◌∷◌, ◌++◌, refl, ap, ◌∙◌, arith, inl, inr}
use Rattle.std.proofs.lemmas.Bool.Decides.{nat_tests}
use Rattle.std.specs.Prelude.{⊤, codes, if◌then◌else◌}
use Rattle.std.specs.List.{list_all, flat_map}
use Rattle.ng_base.specs.Cells.{Cell}
use Rattle.ng_base.proofs.Binds.{if_held}
use Rattle.ng_markup.specs.Tables.{is_void}
use Rattle.ng_markup.specs.Forest.{Node, Forest, Attributes, element, text, comment, no_nodes, node, text_char, value_char, print_attribute, print_start, print_end, print_node, print}
use Rattle.std.specs.Char.{is_ascii_alphabetic}
use Rattle.ng_tags.specs.Letters.{is_in_name}
use Rattle.ng_tags.specs.Spelling.{chars_of, IsName}
use Rattle.ng_html.specs.Building.{content}
use Rattle.ng_html.proofs.ReadTexts.{both, both_true, is_value_char}
use Rattle.ng_html.proofs.ReadEvents.{IsReadName, is_name_char, IsAttributeName, AllRead, AreRead, is_line_char}
use Rattle.ng_html.proofs.Kept.{IsReadElement, IsReadNode, IsReadForest}

-- no line feed stands first
abbrev pub NoLine : List Cell → Type 0
NoLine [] = ⊤
NoLine (c ∷ cs) = (c.0 == 10) ≡ false

not_line : (c : ℕ) → is_line_char c ≡ true → (c == 10) ≡ false
not_line c h = grind (arith, nat_tests, h)

pub no_line_on : (us ws : List Cell) → list_all is_line_char (chars_of us) ≡ true → NoLine ws → NoLine (us ++ ws)
no_line_on [] ws h n = n
no_line_on (u ∷ us) ws h n = not_line u.0 (both_true (is_line_char u.0) (list_all is_line_char (chars_of us)) h).0

abbrev AreLine : List ℕ → Type 0
AreLine xs = list_all is_line_char xs ≡ true

all_append : (xs ys : List ℕ) → AreLine xs → AreLine ys → AreLine (xs ++ ys)
all_append [] ys h i = i
all_append (x ∷ xs) ys h i = let b = both_true (is_line_char x) (list_all is_line_char xs) h in both (is_line_char x) (list_all is_line_char (xs ++ ys)) b.0 (all_append xs ys b.1 i)

other_char : (c : ℕ) → is_value_char c ≡ true → (c == 10) ≡ false → (c == 13) ≡ false → AreLine (c ∷ [])
other_char c h n r = both (is_line_char c) true (both (is_value_char c && not (c == 13)) (not (c == 10)) (both (is_value_char c) (not (c == 13)) h (ap not r)) (ap not n)) refl

text_char_line : (c : ℕ) → is_value_char c ≡ true → AreLine (text_char c)
text_char_line c h =
    if_held (c == 38) (codes "&amp;") (if c == 60 then codes "&lt;" else if c == 62 then codes "&gt;" else if c == 10 then codes "&#10;" else if c == 13 then codes "&#13;" else c ∷ []) AreLine (λ e. refl)
    (λ a. if_held (c == 60) (codes "&lt;") (if c == 62 then codes "&gt;" else if c == 10 then codes "&#10;" else if c == 13 then codes "&#13;" else c ∷ []) AreLine (λ e. refl)
    (λ b. if_held (c == 62) (codes "&gt;") (if c == 10 then codes "&#10;" else if c == 13 then codes "&#13;" else c ∷ []) AreLine (λ e. refl)
    (λ d. if_held (c == 10) (codes "&#10;") (if c == 13 then codes "&#13;" else c ∷ []) AreLine (λ e. refl)
    (λ n. if_held (c == 13) (codes "&#13;") (c ∷ []) AreLine (λ e. refl) (λ r. other_char c h n r)))))

value_char_line : (c : ℕ) → is_value_char c ≡ true → AreLine (value_char c)
value_char_line c h =
    if_held (c == 38) (codes "&amp;") (if c == 34 then codes "&quot;" else if c == 10 then codes "&#10;" else if c == 13 then codes "&#13;" else c ∷ []) AreLine (λ e. refl)
    (λ a. if_held (c == 34) (codes "&quot;") (if c == 10 then codes "&#10;" else if c == 13 then codes "&#13;" else c ∷ []) AreLine (λ e. refl)
    (λ b. if_held (c == 10) (codes "&#10;") (if c == 13 then codes "&#13;" else c ∷ []) AreLine (λ e. refl)
    (λ n. if_held (c == 13) (codes "&#13;") (c ∷ []) AreLine (λ e. refl) (λ r. other_char c h n r))))

pub text_line : (t : List ℕ) → list_all is_value_char t ≡ true → AreLine (flat_map text_char t)
text_line [] h = refl
text_line (c ∷ t) h = let b = both_true (is_value_char c) (list_all is_value_char t) h in all_append (text_char c) (flat_map text_char t) (text_char_line c b.0) (text_line t b.1)

value_line : (t : List ℕ) → list_all is_value_char t ≡ true → AreLine (flat_map value_char t)
value_line [] h = refl
value_line (c ∷ t) h = let b = both_true (is_value_char c) (list_all is_value_char t) h in all_append (value_char c) (flat_map value_char t) (value_char_line c b.0) (value_line t b.1)

letter_line : (c : ℕ) → is_ascii_alphabetic c ≡ true → is_line_char c ≡ true
letter_line c h = grind (arith, nat_tests, h)

in_name_line : (c : ℕ) → is_in_name c ≡ true → is_line_char c ≡ true
in_name_line c h = grind (arith, nat_tests, h)

name_char_line : (c : ℕ) → is_name_char c ≡ true → is_line_char c ≡ true
name_char_line c h = grind (arith, nat_tests, h)

all_line : (P : ℕ → Bool) → ((c : ℕ) → P c ≡ true → is_line_char c ≡ true) → (xs : List ℕ) → list_all P xs ≡ true → AreLine xs
all_line P k [] h = refl
all_line P k (x ∷ xs) h = let b = both_true (P x) (list_all P xs) h in both (is_line_char x) (list_all is_line_char xs) (k x b.0) (all_line P k xs b.1)

name_line : (n : List ℕ) → IsName n → AreLine n
name_line [] h = absurd h
name_line (c ∷ n) h = both (is_line_char c) (list_all is_line_char n) (letter_line c h.0) (all_line is_in_name in_name_line n h.1)

attribute_line : (a : List ℕ × List ℕ) → IsAttributeName a.0 → list_all is_value_char a.1 ≡ true → AreLine (print_attribute a)
attribute_line a n v =
    all_append (codes " " ++ a.0 ++ codes "=\"" ++ flat_map value_char a.1) (codes "\"")
    (all_append (codes " " ++ a.0 ++ codes "=\"") (flat_map value_char a.1)
    (all_append (codes " " ++ a.0) (codes "=\"") (all_append (codes " ") a.0 refl (all_line is_name_char name_char_line a.0 n.2)) refl)
    (value_line a.1 v))
    refl

attributes_line : (more : Attributes) → AllRead more → AreLine (flat_map print_attribute more)
attributes_line [] h = refl
attributes_line (a ∷ more) h = all_append (print_attribute a) (flat_map print_attribute more) (attribute_line a h.0 h.1) (attributes_line more h.2)

start_line : (n : List ℕ) (a : Attributes) → IsReadName n × AreRead a → AreLine (print_start n a)
start_line n a h =
    all_append (codes "<" ++ n ++ flat_map print_attribute a) (codes ">")
    (all_append (codes "<" ++ n) (flat_map print_attribute a) (all_append (codes "<") n refl (name_line n h.0.0)) (attributes_line a h.1.0))
    refl

end_line : (n : List ℕ) → IsName n → AreLine (print_end n)
end_line n h = all_append (codes "</" ++ n) (codes ">") (all_append (codes "</") n refl (name_line n h)) refl

abbrev LineKids : Forest → Type 0
LineKids f = IsReadForest f → AreLine (print f)

content_line : (x : List ℕ) → list_all is_value_char x ≡ true → AreLine (print (content x))
content_line [] h = refl
content_line (c ∷ cs) h = all_append (flat_map text_char (c ∷ cs)) [] (text_line (c ∷ cs) h) refl

element_tags : (n : List ℕ) (a : Attributes) (f : Forest) → IsReadName n × AreRead a → AreLine (print f) → AreLine (print_node (element n a f))
element_tags n a f r k =
    if_held (is_void n) (print_start n a) (print_start n a ++ print f ++ print_end n) AreLine
    (λ v. start_line n a r)
    (λ v. all_append (print_start n a ++ print f) (print_end n) (all_append (print_start n a) (print f) (start_line n a r) k) (end_line n r.0.0))

element_line : (n : List ℕ) (a : Attributes) (f : Forest) → LineKids f → IsReadElement n a f (IsReadForest f) → AreLine (print_node (element n a f))
element_line n a f ih (inl (p, c, r, v, f_is)) = element_tags n a f r (ap (λ g. list_all is_line_char (print g)) f_is)
element_line n a f ih (inr (inl (p, q, x, r, w, f_is))) = element_tags n a f (r.0, r.1) (ap (λ g. list_all is_line_char (print g)) f_is ∙ content_line x r.2)
element_line n a f ih (inr (inr (p, r, w, v, i, k))) = element_tags n a f r (ih k)

comment_line : (t : List ℕ) → AreLine t → AreLine (print_node (comment t))
comment_line t h = all_append (codes "<!--" ++ t) (codes "-->") (all_append (codes "<!--") t refl h) refl

mutual
  node_line : (n : Node) → IsReadNode n → AreLine (print_node n)
  node_line (text t) h = text_line t h.1.1
  node_line (comment t) h = comment_line t h.1.0
  node_line (element n a f) h = element_line n a f (λ k. forest_line f k) h

  pub forest_line : (f : Forest) → IsReadForest f → AreLine (print f)
  forest_line no_nodes h = refl
  forest_line (node n f) h = all_append (print_node n) (print f) (node_line n h.0) (forest_line f h.2)

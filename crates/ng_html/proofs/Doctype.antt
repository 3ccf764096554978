-- No doctype stands in front of a print.
use Rattle.std.proofs.Common.{◌≡◌, ℕ, Bool, true, false, ◌==◌, List, [], ◌∷◌, ◌++◌, refl, ap, ◌∙◌, sym, subst, arith, inl, inr, append_assoc}
use Rattle.std.proofs.lemmas.Bool.Decides.{nat_tests}
use Rattle.std.specs.Prelude.{Option, None, Some, Result, Ok, ◌⊎◌, ⊤, codes, if◌then◌else◌}
use Rattle.std.specs.List.{flat_map}
use Rattle.ng_base.specs.Cells.{Cell}
use Rattle.ng_base.proofs.Binds.{if_true, if_false, if_held}
use Rattle.ng_markup.specs.Tables.{is_void}
use Rattle.ng_markup.specs.Forest.{Forest, Attributes, element, text, comment, no_nodes, node, text_char, print_attribute, print_start, print_end, print_node, print}
use Rattle.std.specs.Char.{is_ascii_alphabetic}
use Rattle.ng_tags.specs.Letters.{is_space, lower}
use Rattle.ng_tags.specs.Skips.{past_spaces, past_word}
use Rattle.ng_tags.specs.Lexing.{doctype_at, doctype_behind, after_doctype}
use Rattle.ng_tags.specs.Spelling.{chars_of}
use Rattle.ng_tags.specs.declared.fault.HtmlFault.{HtmlFault}
use Rattle.ng_html.proofs.ReadEvents.{IsReadName}
use Rattle.ng_html.proofs.Kept.{IsReadElement, IsReadForest}

-- no doctype begins there: not a `<`, or behind it neither `!d` nor `!D`
abbrev NoDoctype : List ℕ → Type 0
NoDoctype [] = ⊤
NoDoctype (c ∷ []) = (c == 60) ≡ false
NoDoctype (c ∷ d ∷ []) = ((c == 60) ≡ false) ⊎ ((lower d == 33) ≡ false)
NoDoctype (c ∷ d ∷ e ∷ cs) = ((c == 60) ≡ false) ⊎ (((lower d == 33) ≡ false) ⊎ ((lower e == 100) ≡ false))

abbrev Cells : Type 0
Cells = Result (List Cell) HtmlFault

not_behind : (p : ℕ) (all : List Cell) (o : Option (List Cell)) → o ≡ None → doctype_behind p all o ≡ Ok all
not_behind p all None h = refl
not_behind p all (Some x) h = absurd (cc)

no_sign : (all : List Cell) (c : Cell) (cs : List Cell) → (c.0 == 60) ≡ false → doctype_at all (c ∷ cs) ≡ Ok all
no_sign all c cs h = if_false (c.0 == 60) (doctype_behind c.1 all (past_word (codes "!doctype") cs)) (Ok all) h

no_word : (all : List Cell) (c : Cell) (cs : List Cell) → past_word (codes "!doctype") cs ≡ None → doctype_at all (c ∷ cs) ≡ Ok all
no_word all c cs h =
    if_held (c.0 == 60) (doctype_behind c.1 all (past_word (codes "!doctype") cs)) (Ok all) (λ (r : Cells). r ≡ Ok all) (λ e. not_behind c.1 all (past_word (codes "!doctype") cs) h) (λ e. refl)

abbrev word_behind : ℕ → List ℕ → List Cell → Option (List Cell)
word_behind w ws [] = None
word_behind w ws (c ∷ cs) = if lower c.0 == w then past_word ws cs else None

not_first : (d : Cell) (ds : List Cell) → (lower d.0 == 33) ≡ false → past_word (codes "!doctype") (d ∷ ds) ≡ None
not_first d ds h = if_false (lower d.0 == 33) (past_word (codes "doctype") ds) None h

not_second : (d e : Cell) (ds : List Cell) → (lower e.0 == 100) ≡ false → past_word (codes "!doctype") (d ∷ e ∷ ds) ≡ None
not_second d e ds h =
    if_held (lower d.0 == 33) (past_word (codes "doctype") (e ∷ ds)) None (λ (o : Option (List Cell)). o ≡ None) (λ k. if_false (lower e.0 == 100) (past_word (codes "octype") ds) None h) (λ k. refl)

no_doctype_at : (all cs : List Cell) → NoDoctype (chars_of cs) → doctype_at all cs ≡ Ok all
no_doctype_at all [] h = refl
no_doctype_at all (c ∷ []) h = no_sign all c [] h
no_doctype_at all (c ∷ d ∷ []) (inl h) = no_sign all c (d ∷ []) h
no_doctype_at all (c ∷ d ∷ []) (inr h) = no_word all c (d ∷ []) (not_first d [] h)
no_doctype_at all (c ∷ d ∷ e ∷ cs) (inl h) = no_sign all c (d ∷ e ∷ cs) h
no_doctype_at all (c ∷ d ∷ e ∷ cs) (inr (inl h)) = no_word all c (d ∷ e ∷ cs) (not_first d (e ∷ cs) h)
no_doctype_at all (c ∷ d ∷ e ∷ cs) (inr (inr h)) = no_word all c (d ∷ e ∷ cs) (not_second d e cs h)

-- the characters without the white space at the front
abbrev unspaced : List ℕ → List ℕ
unspaced [] = []
unspaced (c ∷ cs) = if is_space c then unspaced cs else c ∷ cs

past_unspaced : (cs : List Cell) → chars_of (past_spaces cs) ≡ unspaced (chars_of cs)
past_unspaced [] = refl
past_unspaced (c ∷ cs) = by (is_space c.0) (past_unspaced cs)
  where
    by : (b : Bool) → chars_of (past_spaces cs) ≡ unspaced (chars_of cs) → chars_of (if b then past_spaces cs else c ∷ cs) ≡ (if b then unspaced (chars_of cs) else c.0 ∷ chars_of cs)
    by true h = h
    by false h = refl

-- behind its white space no doctype begins
abbrev IsBehindNone : List ℕ → Type 0
IsBehindNone xs = NoDoctype (unspaced xs)

tag_none : (d : ℕ) (ys : List ℕ) → (lower d == 33) ≡ false → IsBehindNone (60 ∷ d ∷ ys)
tag_none d [] h = inr h
tag_none d (e ∷ ys) h = inr (inl h)

other_none : (c : ℕ) (ys : List ℕ) → (c == 60) ≡ false → is_space c ≡ false → IsBehindNone (c ∷ ys)
other_none c ys h s = subst NoDoctype (sym (if_false (is_space c) (unspaced ys) (c ∷ ys) s)) (by ys)
  where
    by : (ys : List ℕ) → NoDoctype (c ∷ ys)
    by [] = h
    by (d ∷ []) = inl h
    by (d ∷ e ∷ ys) = inl h

letter_none : (c : ℕ) → is_ascii_alphabetic c ≡ true → (lower c == 33) ≡ false
letter_none c h = grind (arith, nat_tests, h)

start_none : (n : List ℕ) (a : Attributes) (ys : List ℕ) → IsReadName n → IsBehindNone (print_start n a ++ ys)
start_none [] a ys h = absurd h.0
start_none (c ∷ n) a ys h = tag_none c ((n ++ flat_map print_attribute a ++ codes ">") ++ ys) (letter_none c h.0.0)

element_none : (n : List ℕ) (a : Attributes) (f : Forest) (ys : List ℕ) → IsReadName n → IsBehindNone (print_node (element n a f) ++ ys)
element_none n a f ys h =
    if_held (is_void n) (print_start n a) (print_start n a ++ print f ++ print_end n) (λ xs. IsBehindNone (xs ++ ys))
    (λ v. start_none n a ys h)
    (λ v. subst IsBehindNone (sym (ap (λ xs. xs ++ ys) (append_assoc (print_start n a) (print f) (print_end n)) ∙ append_assoc (print_start n a) (print f ++ print_end n) ys)) (start_none n a ((print f ++ print_end n) ++ ys) h))

read_name : (n : List ℕ) (a : Attributes) (f : Forest) → IsReadElement n a f (IsReadForest f) → IsReadName n
read_name n a f (inl (p, c, r, v, e)) = r.0
read_name n a f (inr (inl (p, q, x, r, w, e))) = r.0
read_name n a f (inr (inr (p, r, w, v, i, k))) = r.0

-- a text: white space, and then what is no `<`, or what stands behind the text
char_none : (c : ℕ) (ys : List ℕ) → IsBehindNone ys → IsBehindNone (text_char c ++ ys)
char_none c ys h =
    if_held (c == 38) (codes "&amp;") (if c == 60 then codes "&lt;" else if c == 62 then codes "&gt;" else if c == 10 then codes "&#10;" else if c == 13 then codes "&#13;" else c ∷ []) (λ xs. IsBehindNone (xs ++ ys)) (λ e. inl refl)
    (λ a. if_held (c == 60) (codes "&lt;") (if c == 62 then codes "&gt;" else if c == 10 then codes "&#10;" else if c == 13 then codes "&#13;" else c ∷ []) (λ xs. IsBehindNone (xs ++ ys)) (λ e. inl refl)
    (λ b. if_held (c == 62) (codes "&gt;") (if c == 10 then codes "&#10;" else if c == 13 then codes "&#13;" else c ∷ []) (λ xs. IsBehindNone (xs ++ ys)) (λ e. inl refl)
    (λ d. if_held (c == 10) (codes "&#10;") (if c == 13 then codes "&#13;" else c ∷ []) (λ xs. IsBehindNone (xs ++ ys)) (λ e. inl refl)
    (λ n. if_held (c == 13) (codes "&#13;") (c ∷ []) (λ xs. IsBehindNone (xs ++ ys)) (λ e. inl refl) (λ r. itself b)))))
  where
    itself : (c == 60) ≡ false → IsBehindNone (c ∷ ys)
    itself b = by (is_space c) refl
      where
        by : (s : Bool) → is_space c ≡ s → IsBehindNone (c ∷ ys)
        by true s = subst NoDoctype (sym (if_true (is_space c) (unspaced ys) (c ∷ ys) s)) h
        by false s = other_none c ys b s

text_none : (t ys : List ℕ) → IsBehindNone ys → IsBehindNone (flat_map text_char t ++ ys)
text_none [] ys h = h
text_none (c ∷ t) ys h = subst IsBehindNone (sym (append_assoc (text_char c) (flat_map text_char t) ys)) (char_none c (flat_map text_char t ++ ys) (text_none t ys h))

forest_none : (f : Forest) → IsReadForest f → IsBehindNone (print f)
forest_none no_nodes h = tt
forest_none (node (element n a k) f) h = element_none n a k (print f) (read_name n a k h.0)
forest_none (node (comment t) f) h = inr (inr refl)
forest_none (node (text t) f) h = text_none t (print f) (forest_none f h.2)

-- no doctype is dropped of a print
pub no_doctype : (f : Forest) (us : List Cell) → IsReadForest f → chars_of us ≡ print f → after_doctype us ≡ Ok us
no_doctype f us h e = no_doctype_at us (past_spaces us) (subst NoDoctype (sym (past_unspaced us ∙ ap unspaced e)) (forest_none f h))

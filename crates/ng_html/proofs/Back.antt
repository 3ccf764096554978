-- The print of a forest that bytes spell spells it too.
use Rattle.std.proofs.Common.{◌≡◌, ℕ, Bool, true, false, not, ◌==◌, List, [], ◌∷◌, ◌++◌, length, refl, ap, ◌∙◌, sym, subst, append-nil, inl, inr}
use Rattle.std.proofs.Math.Utf8.{scalar, scalars}
use Rattle.std.proofs.lemmas.Str.{chars-encodes, scalars-chars}
use Rattle.std.specs.Prelude.{Option, None, Some, Result, Ok, encode_utf8_all, if◌then◌else◌, codes}
use Rattle.std.specs.List.{list_all, flat_map}
use Rattle.std.specs.Str.{chars}
use Rattle.ng_base.specs.Cells.{Cell}
use Rattle.ng_base.proofs.Binds.{chosen}
use Rattle.ng_markup.specs.Forest.{Forest, print}
use Rattle.ng_tags.specs.Letters.{is_space, lower}
use Rattle.ng_tags.specs.Skips.{past_spaces, past_word}
use Rattle.ng_tags.specs.Lexing.{doctype_at, doctype_behind, past_sign, after_doctype}
use Rattle.ng_tags.specs.Spelling.{chars_of}
use Rattle.ng_tags.specs.declared.fault.HtmlFault.{HtmlFault}
use Rattle.ng_html.proofs.Lexed.{doctype_is, doctype_complete}
use Rattle.ng_html.specs.Reading.{begin, cells_of}
use Rattle.ng_html.specs.Grammar.{Written, IsPlainText, Html}
use Rattle.ng_html.specs.Laws.{PrintsBack}
use Rattle.ng_html.proofs.PlainText.{is_cell_char, is_some_char, is_no_return, text_bytes, text_chars, cells_chars, cells_same}
use Rattle.ng_html.proofs.ReadTexts.{both, both_true, parts, is_value_char}
use Rattle.ng_html.proofs.ReadEvents.{is_line_char}
use Rattle.ng_html.proofs.Kept.{IsReadForest, spelled_kept}
use Rattle.ng_html.proofs.Lines.{forest_line}
use Rattle.ng_html.proofs.Doctype.{no_doctype}
use Rattle.ng_html.proofs.GoodEvents.{are_good}
use Rattle.ng_html.proofs.Printed.{forest_written}

-- what is left behind a doctype stands at the end
record Behind (cs rest : List Cell) : Type 0 where
  before : List Cell
  whole : cs ≡ before ++ rest

ok_same : {x y : List Cell} → ◌≡◌ {A = Result (List Cell) HtmlFault} (Ok x) (Ok y) → x ≡ y
ok_same e = cc

further : (c : Cell) (cs rest : List Cell) → Behind cs rest → Behind (c ∷ cs) rest
further c cs rest b = record { before = c ∷ b.before; whole = ap (λ xs. c ∷ xs) b.whole }

sign_behind : (p : ℕ) (cs rest : List Cell) → past_sign p cs ≡ Ok rest → Behind cs rest
sign_behind p [] rest h = absurd (cc)
sign_behind p (c ∷ cs) rest h =
    elim (chosen (c.0 == 62) (Ok cs) (past_sign p cs) (Ok rest) h) [
      | inl g ↦ record { before = c ∷ []; whole = ap (λ xs. c ∷ xs) (ok_same g.1) }
      | inr g ↦ further c cs rest (sign_behind p cs rest g.1)
    ]

word_behind : (w : List ℕ) (cs ds rest : List Cell) → past_word w cs ≡ Some ds → Behind ds rest → Behind cs rest
word_behind [] cs ds rest h b = let e : cs ≡ ds = cc in subst (λ (xs : List Cell). Behind xs rest) (sym e) b
word_behind (w ∷ ws) [] ds rest h b = absurd (cc)
word_behind (w ∷ ws) (c ∷ cs) ds rest h b =
    elim (chosen (lower c.0 == w) (past_word ws cs) None (Some ds) h) [
      | inl g ↦ further c cs rest (word_behind ws cs ds rest g.1 b)
      | inr g ↦ absurd (let k = g.1 in cc)
    ]

spaces_behind : (cs rest : List Cell) → Behind (past_spaces cs) rest → Behind cs rest
spaces_behind [] rest b = b
spaces_behind (c ∷ cs) rest b = by (is_space c.0) b (λ k. spaces_behind cs rest k)
  where
    by : (s : Bool) → Behind (if s then past_spaces cs else c ∷ cs) rest → (Behind (past_spaces cs) rest → Behind cs rest) → Behind (c ∷ cs) rest
    by true b k = further c cs rest (k b)
    by false b k = b

nothing_before : (cs rest : List Cell) → ◌≡◌ {A = Result (List Cell) HtmlFault} (Ok cs) (Ok rest) → Behind cs rest
nothing_before cs rest h = record { before = []; whole = ok_same h }

doctype_at_behind : (all cs rest : List Cell) → (Behind cs rest → Behind all rest) → doctype_at all cs ≡ Ok rest → Behind all rest
doctype_at_behind all [] rest k h = nothing_before all rest h
doctype_at_behind all (c ∷ cs) rest k h =
    elim (chosen (c.0 == 60) (doctype_behind c.1 all (past_word (codes "!doctype") cs)) (Ok all) (Ok rest) h) [
      | inl g ↦ by (past_word (codes "!doctype") cs) refl g.1
      | inr g ↦ nothing_before all rest g.1
    ]
  where
    by : (o : Option (List Cell)) → past_word (codes "!doctype") cs ≡ o → doctype_behind c.1 all o ≡ Ok rest → Behind all rest
    by None e h = nothing_before all rest h
    by (Some ds) e h = k (further c cs rest (word_behind (codes "!doctype") cs ds rest e (sign_behind c.1 ds rest h)))

behind : (cs rest : List Cell) → after_doctype cs ≡ Ok rest → Behind cs rest
behind cs rest h = doctype_at_behind cs (past_spaces cs) rest (spaces_behind cs rest) h

-- a forest that bytes spell can be printed
spelled_read : (bytes : List ℕ) (f : Forest) (ps : List ℕ) → Html bytes f ps → IsReadForest f
spelled_read bytes f ps h =
    let b = behind (cells_of bytes) h.1 (doctype_complete (cells_of bytes) (Ok h.1) h.2) in
    let all = cells_chars (length bytes) false (chars bytes) (scalars-chars bytes h.0.0) (text_chars bytes h.0.0 h.0.1) in
    let p = parts is_cell_char b.before h.1 (subst (λ (xs : List Cell). list_all is_cell_char (chars_of xs) ≡ true) b.whole all) in
    spelled_kept f h.3.0 (are_good h.3.0 h.1 h.3.1 p.1) h.3.2

-- a line is a text without zero and CR
line_scalars : (xs : List ℕ) → list_all is_line_char xs ≡ true → scalars xs ≡ true
line_scalars [] h = refl
line_scalars (x ∷ xs) h =
    let b = both_true (is_line_char x) (list_all is_line_char xs) h in
    let c = both_true (is_cell_char x) (not (x == 10)) b.0 in
    let d = both_true (is_value_char x) (not (x == 13)) c.0 in
    both (scalar x) (scalars xs) (both_true (scalar x) (not (x == 0)) d.0).0 (line_scalars xs b.1)

line_some : (xs : List ℕ) → list_all is_line_char xs ≡ true → list_all is_some_char xs ≡ true
line_some [] h = refl
line_some (x ∷ xs) h =
    let b = both_true (is_line_char x) (list_all is_line_char xs) h in
    let c = both_true (is_cell_char x) (not (x == 10)) b.0 in
    let d = both_true (is_value_char x) (not (x == 13)) c.0 in
    both (is_some_char x) (list_all is_some_char xs) (both_true (scalar x) (not (x == 0)) d.0).1 (line_some xs b.1)

line_no_return : (xs : List ℕ) → list_all is_line_char xs ≡ true → list_all is_no_return xs ≡ true
line_no_return [] h = refl
line_no_return (x ∷ xs) h =
    let b = both_true (is_line_char x) (list_all is_line_char xs) h in
    let c = both_true (is_cell_char x) (not (x == 10)) b.0 in
    both (is_no_return x) (list_all is_no_return xs) (both_true (is_value_char x) (not (x == 13)) c.0).1 (line_no_return xs b.1)

pub prints_back : PrintsBack
prints_back bytes f ps h =
    let r = spelled_read bytes f ps h in
    let line = forest_line f r in
    let out = encode_utf8_all (print f) in
    let whole : chars out ≡ print f = chars-encodes (print f) (line_scalars (print f) line) in
    let us = cells_of out in
    let same : chars_of us ≡ print f = cells_same (length out) (chars out) (subst (λ xs. list_all is_no_return xs ≡ true) (sym whole) (line_no_return (print f) line)) ∙ whole in
    let w = forest_written f us [] [] r same tt refl in
    let written : Written w.es us = subst (λ (xs : List Cell). Written w.es xs) (append-nil us) w.written in
    let plain : IsPlainText out = ((print f, (line_scalars (print f) line, refl)), text_bytes (print f) (line_some (print f) line)) in
    (flat_map begin w.es, (plain, us, doctype_is us (Ok us) (no_doctype f us r same), (w.es, written, w.spells, h.3.3, refl)))

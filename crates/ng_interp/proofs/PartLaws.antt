-- The parts of a text, as they are read and as they are spelled.
use Rattle.std.proofs.Common.{◌≡◌, ◌<◌, ◌+◌, ℕ, Bool, false, refl, ap, sym, subst, ◌∙◌, List, [], ◌∷◌, ◌++◌, length, drop, get_or, Result, Ok, Err, encode_utf8_all}
use Rattle.std.specs.Prelude.{IfOk, if◌then◌else◌}
use Rattle.std.specs.List.{AllZip}
use Rattle.std.specs.Str.{chars, IsUtf8}
use Rattle.std.proofs.lemmas.Str.{encodes-chars}
use Rattle.std.proofs.lemmas.List.{append_assoc, append-nil, drop_more}
use Rattle.ng_base.specs.Meets.{Gives, ◌>>=◌}
use Rattle.ng_base.proofs.Binds.{bind_ok}
use Rattle.ng_language.specs.Lexing as lexing
use Rattle.ng_language.specs.Parsing as parsing
use Rattle.ng_language.specs.OneTime.{one_time_of}
use Rattle.ng_language.specs.Trees.{Trees}
use Rattle.ng_language.proofs.SignSound.{lexed_is}
use Rattle.ng_language.proofs.Whole.{parsed_is}
use Rattle.ng_language.specs.declared.syntax.Token.{Token}
use Rattle.ng_language.specs.declared.syntax.LexFault.{LexFault}
use Rattle.ng_language.specs.declared.syntax.LexKind.{LexKind}
use Rattle.ng_language.specs.declared.syntax.LexKind.TheVariants as lex_kinds
use Rattle.ng_language.specs.declared.syntax.ParseFault.{ParseFault}
use Rattle.ng_language.specs.declared.syntax.ParseKind.{ParseKind}
use Rattle.ng_language.specs.declared.syntax.ParseKind.TheVariants as parse_kinds
use Rattle.ng_interp.specs.Cutting.{cuts_of}
use Rattle.ng_interp.specs.Escapes.{unescaped}
use Rattle.ng_interp.specs.Parts.{Piece, words, hole, pieces_of, is_free, has_hole, bytes_before, place_behind, lex_kind_fault, lex_fault, parse_kind_fault, parse_fault, parsed_at, lexed_at, expression_at, hole_with, hole_at, piece_at, pieces_on, pieces_in}
use Rattle.ng_interp.specs.PartSpelling.{IsExpression, IsPieceOf, AreParts}
use Rattle.ng_interp.specs.declared.cutting.Cut.{Cut}
use Rattle.ng_interp.specs.declared.cutting.Cut.TheVariants as cut
use Rattle.ng_interp.specs.declared.pieces.InterpFault.{InterpFault}
use Rattle.ng_interp.specs.declared.pieces.Parts.{Parts}
use Rattle.ng_interp.proofs.CutSteps.{cuts_spell_text}

lex_kind_free : (p : ℕ) (k : LexKind) → is_free (lex_kind_fault p k) ≡ false → lexing.is_memory k ≡ false
lex_kind_free p lex_kinds.BadChar h = refl
lex_kind_free p lex_kinds.OpenText h = refl
lex_kind_free p lex_kinds.BadEscape h = refl
lex_kind_free p lex_kinds.BigNumber h = refl
lex_kind_free p lex_kinds.Fraction h = refl
lex_kind_free p (lex_kinds.Memory m) h = absurd (cc)

parse_kind_free : (p : ℕ) (k : ParseKind) → is_free (parse_kind_fault p k) ≡ false → parsing.is_memory k ≡ false
parse_kind_free p parse_kinds.Unexpected h = refl
parse_kind_free p parse_kinds.Ended h = refl
parse_kind_free p parse_kinds.NotAssignable h = refl
parse_kind_free p parse_kinds.TooDeep h = refl
parse_kind_free p (parse_kinds.Memory m) h = absurd (cc)

pub lex_free : (p : ℕ) (f : LexFault) (e : InterpFault) → e ≡ lex_fault p f → is_free e ≡ false → lexing.is_free f ≡ false
lex_free p f e same free = lex_kind_free (place_behind p f.place) f.kind (ap is_free (sym same) ∙ free)

pub parse_free : (p : ℕ) (f : ParseFault) (e : InterpFault) → e ≡ parse_fault p f → is_free e ≡ false → parsing.is_free f ≡ false
parse_free p f e same free = parse_kind_free (place_behind p f.place) f.kind (ap is_free (sym same) ∙ free)

-- an expression's program, from the bytes of its text
module _ (p : ℕ) (t : List ℕ) (u : IsUtf8 t) where
  in_bytes : expression_at p (chars t) ≡ lexed_at p (length t) (lexing.lexed (length t) (chars t))
  in_bytes = ap (λ (x : List ℕ). lexed_at p (length x) (lexing.lexed (length x) (chars t))) (encodes-chars t u)

  pub lex_is : (r : Result (List Token × List ℕ) LexFault) → lexing.lexed (length t) (chars t) ≡ r → expression_at p (chars t) ≡ lexed_at p (length t) r
  lex_is r e = in_bytes ∙ ap (lexed_at p (length t)) e

  pub parse_is : (ts : List Token × List ℕ) (end : ℕ) (r : Result Trees ParseFault) → lexing.lexed (length t) (chars t) ≡ Ok ts → end ≡ length t → parsing.parsed ts.0 ts.1 end ≡ r → expression_at p (chars t) ≡ parsed_at p r
  parse_is ts end r e same h = lex_is (Ok ts) e ∙ ap (λ (n : ℕ). parsed_at p (parsing.parsed ts.0 ts.1 n)) (sym same) ∙ ap (parsed_at p) h

-- a hole, from its expression and the place of it
pub hole_is : (p : ℕ) (t : List ℕ) (once : Bool) (es : List ℕ) (before at : ℕ) → (once, es) ≡ one_time_of t → before ≡ bytes_before once t → at ≡ place_behind p before → hole_at p t ≡ (expression_at at es >>= λ b. Ok (hole once b))
hole_is p t once es before at e b a =
    ap (hole_with p t) (sym e)
    ∙ ap (λ (x : ℕ). expression_at (place_behind p x) es >>= λ b. Ok (hole once b)) (sym b)
    ∙ ap (λ (x : ℕ). expression_at x es >>= λ b. Ok (hole once b)) (sym a)

-- the next cut has no part
pub refused : (escapes : Bool) (done : List Piece) (cuts : List Cut) (i : ℕ) (d : Cut) (e : InterpFault) (whole : Result (List Piece) InterpFault) → i < length cuts → piece_at escapes (get_or cuts i d) ≡ Err e → pieces_on escapes done (drop i cuts) ≡ whole → whole ≡ Err e
refused escapes done cuts i d e whole less h before =
    sym before
    ∙ ap (pieces_on escapes done) (drop_more cuts i d less)
    ∙ ap (λ (r : Result Piece InterpFault). r >>= λ p. pieces_on escapes (done ++ p ∷ []) (drop (i + 1) cuts)) h

parse_of : (p : ℕ) (r : Result Trees ParseFault) (b : Trees) → parsed_at p r ≡ Ok b → r ≡ Ok b
parse_of p (Ok x) b h = let same : x ≡ b = cc in ap Ok same
parse_of p (Err f) b h = absurd (cc)

program_is : (p : ℕ) (cs : List ℕ) (b : Trees) → expression_at p cs ≡ Ok b → IsExpression b cs
program_is p cs b h = decide (lexing.lexed (length (encode_utf8_all cs)) cs) refl h
  where
    decide : (r : Result (List Token × List ℕ) LexFault) → lexing.lexed (length (encode_utf8_all cs)) cs ≡ r → lexed_at p (length (encode_utf8_all cs)) r ≡ Ok b → IsExpression b cs
    decide (Ok q) f g = (q.0, q.1, lexed_is (length (encode_utf8_all cs)) cs q.0 q.1 f, parsed_is b q.0 q.1 (length (encode_utf8_all cs)) (parse_of p (parsing.parsed q.0 q.1 (length (encode_utf8_all cs))) b g))
    decide (Err x) f g = absurd (cc)

piece_is : (escapes : Bool) (c : Cut) (x : Piece) → piece_at escapes c ≡ Ok x → IsPieceOf escapes c x
piece_is escapes (cut.Words t) x h = let same : words (if escapes then unescaped t else t) ≡ x = cc in subst (IsPieceOf escapes (cut.Words t)) same refl
piece_is escapes (cut.Hole p t) x h =
    let once = (one_time_of t).0 in
    let es = (one_time_of t).1 in
    let at = place_behind p (bytes_before once t) in
    let (b, e, last) = bind_ok (expression_at at es) (λ b. Ok (hole once b)) x h in
    let same : hole once b ≡ x = cc in
    subst (IsPieceOf escapes (cut.Hole p t)) same (es, refl, program_is at es b e)

pieces_are : (escapes : Bool) (done : List Piece) (cs : List Cut) (ps : List Piece) → pieces_on escapes done cs ≡ Ok ps → (qs : List Piece) × (ps ≡ done ++ qs) × AllZip (IsPieceOf escapes) cs qs
pieces_are escapes done [] ps h = let same : done ≡ ps = cc in ([], sym same ∙ sym (append-nil done), tt)
pieces_are escapes done (c ∷ cs) ps h =
    let (p, e, more) = bind_ok (piece_at escapes c) (λ p. pieces_on escapes (done ++ p ∷ []) cs) ps h in
    let (qs, same, rest) = pieces_are escapes (done ++ p ∷ []) cs ps more in
    (p ∷ qs, same ∙ append_assoc done (p ∷ []) qs, (piece_is escapes c p e, rest))

parts_are : (t : List ℕ) (ps : List Piece) → pieces_in t ≡ Ok ps → AreParts ps t
parts_are t ps h =
    let (qs, same, all) = pieces_are (has_hole (cuts_of t)) [] (cuts_of t) ps h in
    (cuts_spell_text t, subst (AllZip (IsPieceOf (has_hole (cuts_of t))) (cuts_of t)) (sym same) all)

-- what is read is spelled so
pub spelled : (t : List ℕ) (r : Result Parts InterpFault) → Gives is_free pieces_of (pieces_in t) r → IfOk r (λ p. AreParts (pieces_of p) t)
spelled t (Ok p) g = parts_are t (pieces_of p) g
spelled t (Err e) g = tt

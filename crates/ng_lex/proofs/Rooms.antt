-- One character or one token more, with room for it.
use Rattle.std.proofs.Common.{◌≡◌, ◌≤◌, ◌<◌, ℕ, zero, suc, true, false, nat_eq, List, [], ◌∷◌, ◌++◌, length, ap, ◌∙◌, sym, arith}
use Rattle.std.specs.Prelude.{Result, Ok, Err}
use Rattle.ng_base.specs.Cells.{place}
use Rattle.ng_base.specs.Meets.{◌>>=◌}
use Rattle.ng_base.proofs.Binds.{if_true, if_false}
use Rattle.ng_language.specs.Letters.{is_space}
use Rattle.ng_language.specs.Lexing.{refusal, character, text_run, token_at, lexes}
use Rattle.ng_language.specs.declared.syntax.Token.{Token}
use Rattle.ng_language.specs.declared.syntax.Token.TheVariants as token
use Rattle.ng_language.specs.declared.syntax.LexFault.{LexFault}
use Rattle.ng_language.specs.declared.syntax.LexKind.TheVariants as kinds

abbrev TextAnswer : Type 0
TextAnswer = Result (Token × List ℕ) LexFault

-- with some room for what is left, the rest gives the answer
abbrev pub TextRoom : ℕ → ℕ → List ℕ → List ℕ → Result (Token × List ℕ) LexFault → Type 0
TextRoom total q t cs whole = (k : ℕ) × (length cs < k) × (text_run total k q t cs ≡ whole)

text_step : (total k q c : ℕ) (t cs : List ℕ) → nat_eq c q ≡ false → text_run total (suc k) q t (c ∷ cs) ≡ (character (place total (c ∷ cs)) c cs >>= λ r. text_run total k q (t ++ r.0 ∷ []) r.1)
text_step total k q c t cs h = if_false (nat_eq c q) (Ok (token.Text t, cs)) (character (place total (c ∷ cs)) c cs >>= λ r. text_run total k q (t ++ r.0 ∷ []) r.1) h

ends : (total k q c : ℕ) (t cs : List ℕ) (whole : TextAnswer) → length (c ∷ cs) < k → text_run total k q t (c ∷ cs) ≡ whole → nat_eq c q ≡ true → whole ≡ Ok (token.Text t, cs)
ends total zero q c t cs whole less e h = absurd (omega arith)
ends total (suc k) q c t cs whole less e h = sym e ∙ if_true (nat_eq c q) (Ok (token.Text t, cs)) (character (place total (c ∷ cs)) c cs >>= λ r. text_run total k q (t ++ r.0 ∷ []) r.1) h

pub text_ends : (total q c : ℕ) (t cs : List ℕ) (whole : Result (Token × List ℕ) LexFault) → TextRoom total q t (c ∷ cs) whole → nat_eq c q ≡ true → whole ≡ Ok (token.Text t, cs)
text_ends total q c t cs whole r h = ends total r.0 q c t cs whole r.1 r.2 h

on : (total k q c d : ℕ) (t cs rest : List ℕ) (whole : TextAnswer) → length (c ∷ cs) < k → text_run total k q t (c ∷ cs) ≡ whole → nat_eq c q ≡ false → character (place total (c ∷ cs)) c cs ≡ Ok (d, rest) → length rest ≤ length cs → TextRoom total q (t ++ d ∷ []) rest whole
on total zero q c d t cs rest whole less e h r l = absurd (omega arith)
on total (suc k) q c d t cs rest whole less e h r l =
    (k, omega arith, ap (λ (x : Result (ℕ × List ℕ) LexFault). x >>= λ r. text_run total k q (t ++ r.0 ∷ []) r.1) (sym r) ∙ (sym (text_step total k q c t cs h) ∙ e))

pub text_on : (total q c d : ℕ) (t cs rest : List ℕ) (whole : Result (Token × List ℕ) LexFault) → TextRoom total q t (c ∷ cs) whole → nat_eq c q ≡ false → character (place total (c ∷ cs)) c cs ≡ Ok (d, rest) → length rest ≤ length cs → TextRoom total q (t ++ d ∷ []) rest whole
text_on total q c d t cs rest whole r h i l = on total r.0 q c d t cs rest whole r.1 r.2 h i l

refused : (total k q c : ℕ) (f : LexFault) (t cs : List ℕ) (whole : TextAnswer) → length (c ∷ cs) < k → text_run total k q t (c ∷ cs) ≡ whole → nat_eq c q ≡ false → character (place total (c ∷ cs)) c cs ≡ Err f → whole ≡ Err f
refused total zero q c f t cs whole less e h r = absurd (omega arith)
refused total (suc k) q c f t cs whole less e h r = sym e ∙ (text_step total k q c t cs h ∙ ap (λ (x : Result (ℕ × List ℕ) LexFault). x >>= λ r. text_run total k q (t ++ r.0 ∷ []) r.1) r)

pub text_err : (total q c : ℕ) (f : LexFault) (t cs : List ℕ) (whole : Result (Token × List ℕ) LexFault) → TextRoom total q t (c ∷ cs) whole → nat_eq c q ≡ false → character (place total (c ∷ cs)) c cs ≡ Err f → whole ≡ Err f
text_err total q c f t cs whole r h i = refused total r.0 q c f t cs whole r.1 r.2 h i

abbrev LexAnswer : Type 0
LexAnswer = Result (List Token × List ℕ) LexFault

abbrev pub LexRoom : ℕ → List Token → List ℕ → List ℕ → Result (List Token × List ℕ) LexFault → Type 0
LexRoom total ts ps cs whole = (k : ℕ) × (length cs < k) × (lexes total k ts ps cs ≡ whole)

abbrev later : ℕ → ℕ → List Token → List ℕ → ℕ → List ℕ → LexAnswer
later total k ts ps c cs = token_at total (place total (c ∷ cs)) c cs >>= λ r. lexes total k (ts ++ r.0 ∷ []) (ps ++ place total (c ∷ cs) ∷ []) r.1

spaced : (total k : ℕ) (ts : List Token) (ps : List ℕ) (c : ℕ) (cs : List ℕ) (whole : LexAnswer) → length (c ∷ cs) < k → lexes total k ts ps (c ∷ cs) ≡ whole → is_space c ≡ true → LexRoom total ts ps cs whole
spaced total zero ts ps c cs whole less e h = absurd (omega arith)
spaced total (suc k) ts ps c cs whole less e h = (k, omega arith, sym (if_true (is_space c) (lexes total k ts ps cs) (later total k ts ps c cs) h) ∙ e)

tokened : (total k : ℕ) (ts : List Token) (ps : List ℕ) (c : ℕ) (cs rest : List ℕ) (t : Token) (whole : LexAnswer) → length (c ∷ cs) < k → lexes total k ts ps (c ∷ cs) ≡ whole → is_space c ≡ false → token_at total (place total (c ∷ cs)) c cs ≡ Ok (t, rest) → length rest ≤ length cs → LexRoom total (ts ++ t ∷ []) (ps ++ place total (c ∷ cs) ∷ []) rest whole
tokened total zero ts ps c cs rest t whole less e h i l = absurd (omega arith)
tokened total (suc k) ts ps c cs rest t whole less e h i l =
    (k, omega arith, ap (λ (x : Result (Token × List ℕ) LexFault). x >>= λ r. lexes total k (ts ++ r.0 ∷ []) (ps ++ place total (c ∷ cs) ∷ []) r.1) (sym i) ∙ (sym (if_false (is_space c) (lexes total k ts ps cs) (later total k ts ps c cs) h) ∙ e))

pub token_on : (total : ℕ) (ts : List Token) (ps : List ℕ) (c : ℕ) (cs rest : List ℕ) (t : Token) (whole : Result (List Token × List ℕ) LexFault) → LexRoom total ts ps (c ∷ cs) whole → is_space c ≡ false → token_at total (place total (c ∷ cs)) c cs ≡ Ok (t, rest) → length rest ≤ length cs → LexRoom total (ts ++ t ∷ []) (ps ++ place total (c ∷ cs) ∷ []) rest whole
token_on total ts ps c cs rest t whole r h i l = tokened total r.0 ts ps c cs rest t whole r.1 r.2 h i l

token_refused : (total k : ℕ) (ts : List Token) (ps : List ℕ) (c : ℕ) (cs : List ℕ) (f : LexFault) (whole : LexAnswer) → length (c ∷ cs) < k → lexes total k ts ps (c ∷ cs) ≡ whole → is_space c ≡ false → token_at total (place total (c ∷ cs)) c cs ≡ Err f → whole ≡ Err f
token_refused total zero ts ps c cs f whole less e h i = absurd (omega arith)
token_refused total (suc k) ts ps c cs f whole less e h i =
    sym e ∙ (if_false (is_space c) (lexes total k ts ps cs) (later total k ts ps c cs) h ∙ ap (λ (x : Result (Token × List ℕ) LexFault). x >>= λ r. lexes total k (ts ++ r.0 ∷ []) (ps ++ place total (c ∷ cs) ∷ []) r.1) i)

pub token_err : (total : ℕ) (ts : List Token) (ps : List ℕ) (c : ℕ) (cs : List ℕ) (f : LexFault) (whole : Result (List Token × List ℕ) LexFault) → LexRoom total ts ps (c ∷ cs) whole → is_space c ≡ false → token_at total (place total (c ∷ cs)) c cs ≡ Err f → whole ≡ Err f
token_err total ts ps c cs f whole r h i = token_refused total r.0 ts ps c cs f whole r.1 r.2 h i

over : (total k q : ℕ) (t : List ℕ) (whole : TextAnswer) → text_run total k q t [] ≡ whole → whole ≡ Err (refusal kinds.OpenText 0)
over total zero q t whole e = sym e
over total (suc k) q t whole e = sym e

-- a text without its end is no text
pub text_over : (total q : ℕ) (t : List ℕ) (whole : Result (Token × List ℕ) LexFault) → TextRoom total q t [] whole → whole ≡ Err (refusal kinds.OpenText 0)
text_over total q t whole r = over total r.0 q t whole r.2

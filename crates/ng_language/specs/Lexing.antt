-- The tokens of a text, from the left, or the first refusal.
use Rattle.std.specs.Prelude.{Bool, true, false, ℕ, zero, suc, ◌+◌, ◌-◌, ◌*◌, ◌&&◌, nat_le, nat_eq, List, [], ◌∷◌, ◌++◌, length, Option, Some, None, Result, Ok, Err, if◌then◌else◌}
use Rattle.ng_base.specs.Codes.{exclamation_mark, percent_sign, ampersand, open_parenthesis, close_parenthesis, asterisk, plus_sign, comma, hyphen, full_stop, slash, digit_zero, colon, semicolon, less_than_sign, equals_sign, greater_than_sign, question_mark, open_bracket, backslash, close_bracket, letter_u, open_brace, vertical_bar, close_brace}
use Rattle.ng_base.specs.Cells.{place}
use Rattle.ng_base.specs.Meets.{◌>>=◌}
use Rattle.ng_language.specs.Choice.{when_some}
use Rattle.std.specs.Char.{is_ascii_digit}
use Rattle.ng_language.specs.Letters.{is_space, begins_name, is_in_name, is_quote, goes_on, is_hex, hex_value, is_surrogate, escaped}
use Rattle.ng_language.specs.declared.syntax.Sign.{Sign}
use Rattle.ng_language.specs.declared.syntax.Sign.TheVariants as sign
use Rattle.ng_language.specs.declared.syntax.Token.{Token}
use Rattle.ng_language.specs.declared.syntax.Token.TheVariants as token
use Rattle.ng_language.specs.declared.syntax.LexFault.{LexFault}
use Rattle.ng_language.specs.declared.syntax.LexKind.{LexKind}
use Rattle.ng_language.specs.declared.syntax.LexKind.TheVariants as kinds

abbrev pub is_memory : LexKind → Bool
is_memory (kinds.Memory m) = true
is_memory _ = false

abbrev pub is_free : LexFault → Bool
is_free f = is_memory f.kind

abbrev pub refusal : LexKind → ℕ → LexFault
refusal k p = record { place = p; kind = k }

-- a name, behind the characters of it that are read
abbrev pub name_run : List ℕ → List ℕ → List ℕ × List ℕ
name_run n [] = (n, [])
name_run n (c ∷ cs) = if is_in_name c then name_run (n ++ c ∷ []) cs else (n, c ∷ cs)

-- one digit more; a number above 2^53 - 1 stays where it is
abbrev pub with_digit : ℕ → ℕ → ℕ
with_digit n c = if nat_le n 9007199254740991 then 10 * n + (c - digit_zero) else n

abbrev pub digit_run : ℕ → List ℕ → ℕ × List ℕ
digit_run n [] = (n, [])
digit_run n (c ∷ cs) = if is_ascii_digit c then digit_run (with_digit n c) cs else (n, c ∷ cs)

-- no point and no exponent stands right behind a number
abbrev pub ends_number : List ℕ → Bool
ends_number [] = true
ends_number (c ∷ cs) = if goes_on c then false else true

abbrev pub number : ℕ → ℕ × List ℕ → Result (Token × List ℕ) LexFault
number p r =
    if nat_le r.0 9007199254740991
    then (if ends_number r.1 then Ok (token.Number r.0, r.1) else Err (refusal kinds.Fraction p))
    else Err (refusal kinds.BigNumber p)

-- whether a text has its end; `b` says that a `\` stands before
abbrev pub is_closed : ℕ → Bool → List ℕ → Bool
is_closed q b [] = false
is_closed q true (c ∷ cs) = is_closed q false cs
is_closed q false (c ∷ cs) = if nat_eq c q then true else is_closed q (nat_eq c backslash) cs

-- one hexadecimal digit more
abbrev pub hex_step : ℕ → ℕ → List ℕ → Result (ℕ × List ℕ) LexFault
hex_step p n [] = Err (refusal kinds.BadEscape p)
hex_step p n (c ∷ cs) = if is_hex c then Ok (16 * n + hex_value c, cs) else Err (refusal kinds.BadEscape p)

abbrev pub scalar : ℕ → ℕ × List ℕ → Result (ℕ × List ℕ) LexFault
scalar p r = if is_surrogate r.0 then Err (refusal kinds.BadEscape p) else Ok r

-- the character of four hexadecimal digits
abbrev pub unicode : ℕ → List ℕ → Result (ℕ × List ℕ) LexFault
unicode p cs = hex_step p 0 cs >>= λ a. hex_step p a.0 a.1 >>= λ b. hex_step p b.0 b.1 >>= λ c. hex_step p c.0 c.1 >>= λ d. scalar p d

abbrev pub escape : ℕ → List ℕ → Result (ℕ × List ℕ) LexFault
escape p [] = Err (refusal kinds.BadEscape p)
escape p (c ∷ cs) = if nat_eq c letter_u then unicode p cs else Ok (escaped c, cs)

-- a character of a text, as it is written
abbrev pub character : ℕ → ℕ → List ℕ → Result (ℕ × List ℕ) LexFault
character p c cs = if nat_eq c backslash then escape p cs else Ok (c, cs)

abbrev pub text_run : ℕ → ℕ → ℕ → List ℕ → List ℕ → Result (Token × List ℕ) LexFault
text_run total zero q t cs = Err (refusal kinds.OpenText 0)
text_run total (suc k) q t [] = Err (refusal kinds.OpenText 0)
text_run total (suc k) q t (c ∷ cs) = if nat_eq c q then Ok (token.Text t, cs) else (character (place total (c ∷ cs)) c cs >>= λ r. text_run total k q (t ++ r.0 ∷ []) r.1)

abbrev pub text_at : ℕ → ℕ → ℕ → List ℕ → Result (Token × List ℕ) LexFault
text_at total p q cs = if is_closed q false cs then text_run total (suc (length cs)) q [] cs else Err (refusal kinds.OpenText p)

-- what stands behind this character, where it is the next
abbrev pub next_is : ℕ → List ℕ → Option (List ℕ)
next_is c [] = None
next_is c (d ∷ cs) = if nat_eq d c then Some cs else None

-- the longer sign where this character is the next
abbrev pub longer : ℕ → Sign → Sign → List ℕ → Sign × List ℕ
longer c s t cs = when_some (next_is c cs) (λ ds. (s, ds)) (t, cs)

abbrev pub equal_signs : List ℕ → Sign × List ℕ
equal_signs cs = when_some (next_is equals_sign cs) (λ ds. longer equals_sign sign.Same sign.Equal ds) (sign.Assign, cs)

abbrev pub not_signs : List ℕ → Sign × List ℕ
not_signs cs = when_some (next_is equals_sign cs) (λ ds. longer equals_sign sign.NotSame sign.NotEqual ds) (sign.Not, cs)

-- a sign of one character that begins no longer one
abbrev pub single_sign : ℕ → Option Sign
single_sign c =
    if nat_eq c plus_sign then Some sign.Plus
    else if nat_eq c hyphen then Some sign.Minus
    else if nat_eq c asterisk then Some sign.Star
    else if nat_eq c slash then Some sign.Slash
    else if nat_eq c percent_sign then Some sign.Percent
    else if nat_eq c question_mark then Some sign.Question
    else if nat_eq c colon then Some sign.Colon
    else if nat_eq c semicolon then Some sign.Semicolon
    else if nat_eq c comma then Some sign.Comma
    else if nat_eq c full_stop then Some sign.Dot
    else if nat_eq c open_parenthesis then Some sign.OpenRound
    else if nat_eq c close_parenthesis then Some sign.CloseRound
    else if nat_eq c open_bracket then Some sign.OpenSquare
    else if nat_eq c close_bracket then Some sign.CloseSquare
    else if nat_eq c open_brace then Some sign.OpenCurly
    else if nat_eq c close_brace then Some sign.CloseCurly
    else None

-- the longest sign that begins so
abbrev pub sign_at : ℕ → List ℕ → Option (Sign × List ℕ)
sign_at c cs =
    if nat_eq c equals_sign then Some (equal_signs cs)
    else if nat_eq c exclamation_mark then Some (not_signs cs)
    else if nat_eq c less_than_sign then Some (longer equals_sign sign.AtMost sign.Less cs)
    else if nat_eq c greater_than_sign then Some (longer equals_sign sign.AtLeast sign.Greater cs)
    else if nat_eq c vertical_bar then Some (longer vertical_bar sign.Or sign.Bar cs)
    else if nat_eq c ampersand then when_some (next_is ampersand cs) (λ ds. Some (sign.And, ds)) None
    else when_some (single_sign c) (λ s. Some (s, cs)) None

-- a digit stands next
abbrev pub digit_next : List ℕ → Bool
digit_next [] = false
digit_next (c ∷ cs) = is_ascii_digit c

abbrev pub signed_token : ℕ → Option (Sign × List ℕ) → Result (Token × List ℕ) LexFault
signed_token p None = Err (refusal kinds.BadChar p)
signed_token p (Some r) = Ok (token.Sign r.0, r.1)

abbrev pub named : List ℕ × List ℕ → Result (Token × List ℕ) LexFault
named r = Ok (token.Name r.0, r.1)

-- the token that begins with a character at a place
abbrev pub token_at : ℕ → ℕ → ℕ → List ℕ → Result (Token × List ℕ) LexFault
token_at total p c cs =
    if begins_name c then named (name_run (c ∷ []) cs)
    else if is_ascii_digit c then number p (digit_run (c - digit_zero) cs)
    else if is_quote c then text_at total p c cs
    else if nat_eq c full_stop && digit_next cs then Err (refusal kinds.Fraction p)
    else signed_token p (sign_at c cs)

abbrev pub lexes : ℕ → ℕ → List Token → List ℕ → List ℕ → Result (List Token × List ℕ) LexFault
lexes total zero ts ps cs = Ok (ts, ps)
lexes total (suc k) ts ps [] = Ok (ts, ps)
lexes total (suc k) ts ps (c ∷ cs) =
    if is_space c then lexes total k ts ps cs
    else (token_at total (place total (c ∷ cs)) c cs >>= λ r. lexes total k (ts ++ r.0 ∷ []) (ps ++ place total (c ∷ cs) ∷ []) r.1)

-- the tokens of a text and their places
abbrev pub lexed : ℕ → List ℕ → Result (List Token × List ℕ) LexFault
lexed total cs = lexes total (suc (length cs)) [] [] cs

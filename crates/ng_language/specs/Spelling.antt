-- Which characters spell which tokens.
use Rattle.std.specs.Prelude.{◌≡◌, ◌≤◌, ◌⊎◌, Bool, true, false, ℕ, ◌+◌, ◌-◌, ◌*◌, ◌||◌, nat_eq, List, [], ◌∷◌, ◌++◌, codes}
use Rattle.std.specs.List.{list_all}
use Rattle.ng_base.specs.Codes.{digit_zero, equals_sign, backslash, letter_u, vertical_bar}
use Rattle.ng_base.specs.Cells.{place}
use Rattle.std.specs.Char.{is_ascii_digit}
use Rattle.ng_language.specs.Letters.{is_space, begins_name, is_in_name, is_quote, goes_on, is_hex, hex_value, is_surrogate, escaped}
use Rattle.ng_language.specs.declared.syntax.Sign.{Sign}
use Rattle.ng_language.specs.declared.syntax.Sign.TheVariants as sign
use Rattle.ng_language.specs.declared.syntax.Token.{Token}
use Rattle.ng_language.specs.declared.syntax.Token.TheVariants as token

abbrev pub spelled : Sign → List ℕ
spelled sign.Plus = codes "+"
spelled sign.Minus = codes "-"
spelled sign.Star = codes "*"
spelled sign.Slash = codes "/"
spelled sign.Percent = codes "%"
spelled sign.Assign = codes "="
spelled sign.Equal = codes "=="
spelled sign.NotEqual = codes "!="
spelled sign.Same = codes "==="
spelled sign.NotSame = codes "!=="
spelled sign.Less = codes "<"
spelled sign.Greater = codes ">"
spelled sign.AtMost = codes "<="
spelled sign.AtLeast = codes ">="
spelled sign.And = codes "&&"
spelled sign.Or = codes "||"
spelled sign.Not = codes "!"
spelled sign.Bar = codes "|"
spelled sign.Question = codes "?"
spelled sign.Colon = codes ":"
spelled sign.Semicolon = codes ";"
spelled sign.Comma = codes ","
spelled sign.Dot = codes "."
spelled sign.OpenRound = codes "("
spelled sign.CloseRound = codes ")"
spelled sign.OpenSquare = codes "["
spelled sign.CloseSquare = codes "]"
spelled sign.OpenCurly = codes "{"
spelled sign.CloseCurly = codes "}"

-- the character would make a longer sign of it, or, behind a point, a fraction
abbrev pub lengthens : Sign → ℕ → Bool
lengthens sign.Assign c = nat_eq c equals_sign
lengthens sign.Equal c = nat_eq c equals_sign
lengthens sign.Not c = nat_eq c equals_sign
lengthens sign.NotEqual c = nat_eq c equals_sign
lengthens sign.Less c = nat_eq c equals_sign
lengthens sign.Greater c = nat_eq c equals_sign
lengthens sign.Bar c = nat_eq c vertical_bar
lengthens sign.Dot c = is_ascii_digit c
lengthens s c = false

-- the next character, if there is one, is none of these
abbrev pub Stops : (ℕ → Bool) → List ℕ → Type 0
Stops p [] = Unit {0}
Stops p (c ∷ cs) = p c ≡ false

-- what may stand right behind a token: each token is as long as it can be, and a point or an exponent right behind a
-- number is no part of the language
abbrev pub MayFollow : Token → List ℕ → Type 0
MayFollow (token.Name n) cs = Stops is_in_name cs
MayFollow (token.Number n) cs = Stops (λ c. is_ascii_digit c || goes_on c) cs
MayFollow (token.Text t) cs = Unit {0}
MayFollow (token.Sign s) cs = Stops (lengthens s) cs

-- the value of digits, behind those that are read
abbrev pub value_on : ℕ → List ℕ → ℕ
value_on n [] = n
value_on n (c ∷ cs) = value_on (10 * n + (c - digit_zero)) cs

-- the value of four hexadecimal digits
abbrev pub four_hex : ℕ → ℕ → ℕ → ℕ → ℕ
four_hex a b c d = 16 * (16 * (16 * (16 * 0 + hex_value a) + hex_value b) + hex_value c) + hex_value d

abbrev pub IsName : List ℕ → Type 0
IsName [] = ⊥
IsName (c ∷ cs) = (begins_name c ≡ true) × (list_all is_in_name cs ≡ true)

abbrev pub IsNumber : ℕ → List ℕ → Type 0
IsNumber n [] = ⊥
IsNumber n (c ∷ cs) = (is_ascii_digit c ≡ true) × (list_all is_ascii_digit cs ≡ true) × (n ≡ value_on 0 (c ∷ cs)) × (n ≤ 9007199254740991)

-- how a character is written in a text between such quotes: as itself, behind a `\`, or by its number
abbrev pub IsCharacter : ℕ → ℕ → List ℕ → Type 0
IsCharacter q d us =
    ((us ≡ d ∷ []) × (nat_eq d q ≡ false) × (nat_eq d backslash ≡ false))
    ⊎ (((c : ℕ) × (us ≡ backslash ∷ c ∷ []) × (nat_eq c letter_u ≡ false) × (d ≡ escaped c))
    ⊎ ((a : ℕ) × (b : ℕ) × (c : ℕ) × (e : ℕ) × (us ≡ backslash ∷ letter_u ∷ a ∷ b ∷ c ∷ e ∷ []) × (is_hex a ≡ true) × (is_hex b ≡ true) × (is_hex c ≡ true) × (is_hex e ≡ true) × (d ≡ four_hex a b c e) × (is_surrogate d ≡ false)))

abbrev pub IsText : ℕ → List ℕ → List ℕ → Type 0
IsText q [] us = us ≡ []
IsText q (d ∷ t) us = (vs : List ℕ) × (ws : List ℕ) × (us ≡ vs ++ ws) × IsCharacter q d vs × IsText q t ws

abbrev pub Lexeme : Token → List ℕ → Type 0
Lexeme (token.Name n) us = (us ≡ n) × IsName n
Lexeme (token.Number n) us = IsNumber n us
Lexeme (token.Text t) us = (q : ℕ) × (ws : List ℕ) × (us ≡ q ∷ (ws ++ q ∷ [])) × (is_quote q ≡ true) × IsText q t ws
Lexeme (token.Sign s) us = us ≡ spelled s

-- the characters of a text of so many bytes spell the tokens, which begin at these places
abbrev pub Written : ℕ → List Token → List ℕ → List ℕ → Type 0
Written total [] ps cs = (ps ≡ []) × (list_all is_space cs ≡ true)
Written total (t ∷ ts) ps cs =
    (ws : List ℕ) × (us : List ℕ) × (vs : List ℕ) × (qs : List ℕ) × (cs ≡ ws ++ (us ++ vs)) × (list_all is_space ws ≡ true) × (ps ≡ place total (us ++ vs) ∷ qs) × Lexeme t us × MayFollow t vs × Written total ts qs vs

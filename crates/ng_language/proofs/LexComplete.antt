-- What spells tokens is read as them.
use Rattle.std.proofs.Common.{◌≡◌, ◌≤◌, ◌<◌, ◌+◌, ◌*◌, ◌-◌, ℕ, zero, suc, Bool, true, false, ◌&&◌, ◌||◌, nat_eq, nat_le, List, [], ◌∷◌, ◌++◌, length, refl, ap, ◌∙◌, sym, subst, arith, inl, inr, length-append, append_assoc, append-nil}
use Rattle.std.proofs.lemmas.Bool.Decides.{nat_tests}
use Rattle.std.specs.Prelude.{Some, None, Result, Ok, Err, ◌⊎◌}
use Rattle.std.specs.List.{list_all}
use Rattle.ng_base.specs.Cells.{place}
use Rattle.ng_base.proofs.Binds.{if_true, if_false}
use Rattle.std.specs.Char.{is_ascii_digit}
use Rattle.ng_language.specs.Letters.{is_space, begins_name, is_in_name, is_quote, goes_on, is_hex, hex_value, is_surrogate, escaped}
use Rattle.ng_language.specs.Lexing.{refusal, name_run, with_digit, digit_run, ends_number, is_closed, hex_step, scalar, unicode, escape, character, text_run, text_at, next_is, digit_next, named, token_at, lexes, lexed}
use Rattle.ng_language.specs.Spelling.{spelled, lengthens, Stops, MayFollow, value_on, four_hex, IsName, IsNumber, IsCharacter, IsText, Lexeme, Written}
use Rattle.ng_language.specs.declared.syntax.Sign.{Sign}
use Rattle.ng_language.specs.declared.syntax.Sign.TheVariants as sign
use Rattle.ng_language.specs.declared.syntax.Token.{Token}
use Rattle.ng_language.specs.declared.syntax.Token.TheVariants as token
use Rattle.ng_language.specs.declared.syntax.LexFault.{LexFault}
use Rattle.ng_language.specs.declared.syntax.LexKind.TheVariants as kinds
use Rattle.ng_language.proofs.LexSound.{code_is, capped_on, value_capped}

both_true : (a b : Bool) → (a && b) ≡ true → (a ≡ true) × (b ≡ true)
both_true true b h = (refl, h)
both_true false b h = absurd (cc)

neither : (a b : Bool) → (a || b) ≡ false → (a ≡ false) × (b ≡ false)
neither true b h = absurd (cc)
neither false b h = (refl, h)

one_of : (a b : Bool) → (a || b) ≡ true → (a ≡ true) ⊎ (b ≡ true)
one_of true b h = inl refl
one_of false b h = inr h

abbrev runs : List ℕ → List ℕ → List ℕ × List ℕ
runs n cs = (n, cs)

name_run_on : (n w cs : List ℕ) → list_all is_in_name w ≡ true → Stops is_in_name cs → name_run n (w ++ cs) ≡ (n ++ w, cs)
name_run_on n [] [] h s = ap (λ m. runs m []) (sym (append-nil n))
name_run_on n [] (c ∷ cs) h s = if_false (is_in_name c) (name_run (n ++ c ∷ []) cs) (n, c ∷ cs) s ∙ ap (λ m. runs m (c ∷ cs)) (sym (append-nil n))
name_run_on n (c ∷ w) cs h s =
    let b = both_true (is_in_name c) (list_all is_in_name w) h in
    if_true (is_in_name c) (name_run (n ++ c ∷ []) (w ++ cs)) (n, c ∷ (w ++ cs)) b.0 ∙ (name_run_on (n ++ c ∷ []) w cs b.1 s ∙ ap (λ m. runs m cs) (append_assoc n (c ∷ []) w))

abbrev counts : ℕ → List ℕ → ℕ × List ℕ
counts n cs = (n, cs)

digit_run_on : (n : ℕ) (w cs : List ℕ) → list_all is_ascii_digit w ≡ true → Stops is_ascii_digit cs → digit_run n (w ++ cs) ≡ (capped_on n w, cs)
digit_run_on n [] [] h s = refl
digit_run_on n [] (c ∷ cs) h s = if_false (is_ascii_digit c) (digit_run (with_digit n c) cs) (n, c ∷ cs) s
digit_run_on n (c ∷ w) cs h s =
    let b = both_true (is_ascii_digit c) (list_all is_ascii_digit w) h in
    if_true (is_ascii_digit c) (digit_run (with_digit n c) (w ++ cs)) (n, c ∷ (w ++ cs)) b.0 ∙ digit_run_on (with_digit n c) w cs b.1 s

-- the first character of a token
record Begins (total p : ℕ) (t : Token) (us vs : List ℕ) : Type 0 where
  c : ℕ
  w : List ℕ
  whole : us ≡ c ∷ w
  dark : is_space c ≡ false
  read : token_at total p c (w ++ vs) ≡ Ok (t, vs)

name_dark : (c : ℕ) → begins_name c ≡ true → is_space c ≡ false
name_dark c h = grind (arith, nat_tests)

digit_dark : (c : ℕ) → is_ascii_digit c ≡ true → is_space c ≡ false
digit_dark c h = grind (arith, nat_tests)

digit_no_name : (c : ℕ) → is_ascii_digit c ≡ true → begins_name c ≡ false
digit_no_name c h = grind (arith, nat_tests)

name_begins : (total p : ℕ) (n us vs : List ℕ) → us ≡ n → IsName n → Stops is_in_name vs → Begins total p (token.Name n) us vs
name_begins total p [] us vs h i s = absurd i
name_begins total p (c ∷ w) us vs h i s = record {
  c = c;
  w = w;
  whole = h;
  dark = name_dark c i.0;
  read = if_true (begins_name c) (named (name_run (c ∷ []) (w ++ vs))) _ i.0 ∙ ap named (name_run_on (c ∷ []) w vs i.1 s);
}

digit_stops : (cs : List ℕ) → Stops (λ c. is_ascii_digit c || goes_on c) cs → Stops is_ascii_digit cs
digit_stops [] s = tt
digit_stops (c ∷ cs) s = (neither (is_ascii_digit c) (goes_on c) s).0

number_ends : (cs : List ℕ) → Stops (λ c. is_ascii_digit c || goes_on c) cs → ends_number cs ≡ true
number_ends [] s = refl
number_ends (c ∷ cs) s = if_false (goes_on c) false true (neither (is_ascii_digit c) (goes_on c) s).1

number_begins : (total p n : ℕ) (us vs : List ℕ) → IsNumber n us → Stops (λ c. is_ascii_digit c || goes_on c) vs → Begins total p (token.Number n) us vs
number_begins total p n [] vs i s = absurd i
number_begins total p n (c ∷ w) vs i s =
    let first : 10 * 0 + (c - 48) ≡ c - 48 = omega arith in
    let value : n ≡ value_on (c - 48) w = i.2 ∙ ap (λ m. value_on m w) first in
    let same : capped_on (c - 48) w ≡ n = value_capped (c - 48) w (omega (arith, value, i.3)) ∙ sym value in
    let run : digit_run (c - 48) (w ++ vs) ≡ (n, vs) = digit_run_on (c - 48) w vs i.1 (digit_stops vs s) ∙ ap (λ m. counts m vs) same in
    let low : nat_le n 9007199254740991 ≡ true = small n i.3 in
    record {
      c = c;
      w = w;
      whole = refl;
      dark = digit_dark c i.0;
      read = rw (digit_no_name c i.0, i.0, run, low, number_ends vs s);
    }
  where
    small : (m : ℕ) → m ≤ 9007199254740991 → nat_le m 9007199254740991 ≡ true
    small m h = grind (arith, nat_tests)

-- texts
abbrev IsQuote : ℕ → Type 0
IsQuote q = (q ≡ 39) ⊎ (q ≡ 34)

quote_is : (q : ℕ) → is_quote q ≡ true → IsQuote q
quote_is q h = elim (one_of (nat_eq q 39) (nat_eq q 34) h) [ inl e ↦ inl (code_is q 39 e) | inr e ↦ inr (code_is q 34 e) ]

self : (n : ℕ) → nat_eq n n ≡ true
self n = grind (arith, nat_tests)

slash_no_quote : (q : ℕ) → IsQuote q → nat_eq 92 q ≡ false
slash_no_quote q i = elim i [ inl e ↦ ap (nat_eq 92) e | inr e ↦ ap (nat_eq 92) e ]

hex_no_slash : (c : ℕ) → is_hex c ≡ true → nat_eq c 92 ≡ false
hex_no_slash c h = grind (arith, nat_tests)

hex_no_39 : (c : ℕ) → is_hex c ≡ true → nat_eq c 39 ≡ false
hex_no_39 c h = grind (arith, nat_tests)

hex_no_34 : (c : ℕ) → is_hex c ≡ true → nat_eq c 34 ≡ false
hex_no_34 c h = grind (arith, nat_tests)

hex_no_quote : (q c : ℕ) → IsQuote q → is_hex c ≡ true → nat_eq c q ≡ false
hex_no_quote q c i h = elim i [ inl e ↦ ap (nat_eq c) e ∙ hex_no_39 c h | inr e ↦ ap (nat_eq c) e ∙ hex_no_34 c h ]

-- an ordinary character doesn't end a text
plain_closed : (q c : ℕ) (rest : List ℕ) → nat_eq c q ≡ false → nat_eq c 92 ≡ false → is_closed q false (c ∷ rest) ≡ is_closed q false rest
plain_closed q c rest h i = if_false (nat_eq c q) true (is_closed q (nat_eq c 92) rest) h ∙ ap (λ b. is_closed q b rest) i

slash_closed : (q c : ℕ) (rest : List ℕ) → IsQuote q → is_closed q false (92 ∷ c ∷ rest) ≡ is_closed q false rest
slash_closed q c rest i = if_false (nat_eq 92 q) true (is_closed q true (c ∷ rest)) (slash_no_quote q i)

hex_closed : (q c : ℕ) (rest : List ℕ) → IsQuote q → is_hex c ≡ true → is_closed q false (c ∷ rest) ≡ is_closed q false rest
hex_closed q c rest i h = plain_closed q c rest (hex_no_quote q c i h) (hex_no_slash c h)

character_closed : (q d : ℕ) (us rest : List ℕ) → IsQuote q → IsCharacter q d us → is_closed q false (us ++ rest) ≡ is_closed q false rest
character_closed q d us rest i s =
    elim s [
      | inl p ↦ ap (λ xs. is_closed q false (xs ++ rest)) p.0 ∙ plain_closed q d rest p.1 p.2
      | inr p ↦
          elim p [
            | inl e ↦ ap (λ xs. is_closed q false (xs ++ rest)) e.1 ∙ slash_closed q e.0 rest i
            | inr e ↦
                ap (λ xs. is_closed q false (xs ++ rest)) e.4
                ∙ (slash_closed q 117 (e.0 ∷ e.1 ∷ e.2 ∷ e.3 ∷ rest) i
                ∙ (hex_closed q e.0 (e.1 ∷ e.2 ∷ e.3 ∷ rest) i e.5
                ∙ (hex_closed q e.1 (e.2 ∷ e.3 ∷ rest) i e.6
                ∙ (hex_closed q e.2 (e.3 ∷ rest) i e.7 ∙ hex_closed q e.3 rest i e.8))))
          ]
    ]

text_closed : (q : ℕ) (t us rest : List ℕ) → IsQuote q → IsText q t us → is_closed q false (us ++ q ∷ rest) ≡ true
text_closed q [] us rest i s = ap (λ xs. is_closed q false (xs ++ q ∷ rest)) s ∙ if_true (nat_eq q q) true (is_closed q (nat_eq q 92) rest) (self q)
text_closed q (d ∷ t) us rest i s =
    ap (λ xs. is_closed q false (xs ++ q ∷ rest)) s.2
    ∙ (ap (is_closed q false) (append_assoc s.0 s.1 (q ∷ rest))
    ∙ (character_closed q d s.0 (s.1 ++ q ∷ rest) i s.3 ∙ text_closed q t s.1 rest i s.4))

abbrev read_as : ℕ → List ℕ → Result (ℕ × List ℕ) LexFault
read_as d rest = Ok (d, rest)

hex_on : (p n c : ℕ) (rest : List ℕ) → is_hex c ≡ true → hex_step p n (c ∷ rest) ≡ Ok (16 * n + hex_value c, rest)
hex_on p n c rest h = if_true (is_hex c) (read_as (16 * n + hex_value c) rest) (Err (refusal kinds.BadEscape p)) h

unicode_on : (p d a b c e : ℕ) (rest : List ℕ) → is_hex a ≡ true → is_hex b ≡ true → is_hex c ≡ true → is_hex e ≡ true → d ≡ four_hex a b c e → is_surrogate d ≡ false → unicode p (a ∷ b ∷ c ∷ e ∷ rest) ≡ Ok (d, rest)
unicode_on p d a b c e rest ha hb hc he is low =
    rw (hex_on p 0 a (b ∷ c ∷ e ∷ rest) ha, hex_on p (16 * 0 + hex_value a) b (c ∷ e ∷ rest) hb, hex_on p (16 * (16 * 0 + hex_value a) + hex_value b) c (e ∷ rest) hc, hex_on p (16 * (16 * (16 * 0 + hex_value a) + hex_value b) + hex_value c) e rest he)
    (ap (λ m. scalar p (m, rest)) (sym is) ∙ if_false (is_surrogate d) (Err (refusal kinds.BadEscape p)) (read_as d rest) low)

-- a character begins with something else than the quote, and is read
record Taken (p q d : ℕ) (us rest : List ℕ) : Type 0 where
  c : ℕ
  w : List ℕ
  whole : us ≡ c ∷ w
  other : nat_eq c q ≡ false
  read : character p c (w ++ rest) ≡ Ok (d, rest)

taken : (p q d : ℕ) (us rest : List ℕ) → IsQuote q → IsCharacter q d us → Taken p q d us rest
taken p q d us rest i s =
    elim s [
      | inl h ↦ record { c = d; w = []; whole = h.0; other = h.1; read = if_false (nat_eq d 92) (escape p rest) (read_as d rest) h.2 }
      | inr h ↦
          elim h [
            | inl e ↦
                record {
                  c = 92;
                  w = e.0 ∷ [];
                  whole = e.1;
                  other = slash_no_quote q i;
                  read = if_false (nat_eq e.0 117) (unicode p rest) (read_as (escaped e.0) rest) e.2 ∙ ap (λ m. read_as m rest) (sym e.3);
                }
            | inr e ↦
                record {
                  c = 92;
                  w = 117 ∷ e.0 ∷ e.1 ∷ e.2 ∷ e.3 ∷ [];
                  whole = e.4;
                  other = slash_no_quote q i;
                  read = unicode_on p d e.0 e.1 e.2 e.3 rest e.5 e.6 e.7 e.8 e.9 e.10;
                }
          ]
    ]

abbrev text_answer : List ℕ → List ℕ → Result (Token × List ℕ) LexFault
text_answer t rest = Ok (token.Text t, rest)

text_run_on : (total k q : ℕ) (before t us rest : List ℕ) → IsQuote q → IsText q t us → length (us ++ q ∷ rest) < k → text_run total k q before (us ++ q ∷ rest) ≡ text_answer (before ++ t) rest
text_run_on total zero q before t us rest i s l = absurd (omega arith)
text_run_on total (suc k) q before [] us rest i s l =
    ap (λ xs. text_run total (suc k) q before (xs ++ q ∷ rest)) s
    ∙ (if_true (nat_eq q q) (text_answer before rest) _ (self q) ∙ ap (λ m. text_answer m rest) (sym (append-nil before)))
text_run_on total (suc k) q before (d ∷ t) us rest i s l =
    let vs = s.0 in let ws = s.1 in
    let tail : List ℕ = ws ++ q ∷ rest in
    let flat : us ++ q ∷ rest ≡ vs ++ tail = ap (λ xs. xs ++ q ∷ rest) s.2 ∙ append_assoc vs ws (q ∷ rest) in
    let first = taken (place total (vs ++ tail)) q d vs tail i s.3 in
    let whole : us ++ q ∷ rest ≡ first.c ∷ (first.w ++ tail) = flat ∙ ap (λ xs. xs ++ tail) first.whole in
    let at : place total (vs ++ tail) ≡ place total (first.c ∷ (first.w ++ tail)) = ap (λ xs. place total (xs ++ tail)) first.whole in
    let read : character (place total (first.c ∷ (first.w ++ tail))) first.c (first.w ++ tail) ≡ Ok (d, tail) = ap (λ p. character p first.c (first.w ++ tail)) (sym at) ∙ first.read in
    let later = text_run_on total k q (before ++ d ∷ []) t ws rest i s.4 (omega (arith, ap length whole, length-append first.w tail)) in
    ap (text_run total (suc k) q before) whole ∙ rw (first.other, read) (later ∙ ap (λ m. text_answer m rest) (append_assoc before (d ∷ []) t))

quote_no_name : (q : ℕ) → IsQuote q → begins_name q ≡ false
quote_no_name q i = elim i [ inl e ↦ ap begins_name e | inr e ↦ ap begins_name e ]

quote_no_digit : (q : ℕ) → IsQuote q → is_ascii_digit q ≡ false
quote_no_digit q i = elim i [ inl e ↦ ap is_ascii_digit e | inr e ↦ ap is_ascii_digit e ]

quote_dark : (q : ℕ) → IsQuote q → is_space q ≡ false
quote_dark q i = elim i [ inl e ↦ ap is_space e | inr e ↦ ap is_space e ]

text_begins : (total p : ℕ) (t us vs : List ℕ) → Lexeme (token.Text t) us → Begins total p (token.Text t) us vs
text_begins total p t us vs s =
    let q = s.0 in let ws = s.1 in
    let i = quote_is q s.3 in
    let flat : (ws ++ q ∷ []) ++ vs ≡ ws ++ q ∷ vs = append_assoc ws (q ∷ []) vs in
    let closed : is_closed q false (ws ++ q ∷ vs) ≡ true = text_closed q t ws vs i s.4 in
    let run : text_run total (suc (length (ws ++ q ∷ vs))) q [] (ws ++ q ∷ vs) ≡ text_answer t vs = text_run_on total (suc (length (ws ++ q ∷ vs))) q [] t ws vs i s.4 (omega arith) in
    let read : text_at total p q (ws ++ q ∷ vs) ≡ text_answer t vs = if_true (is_closed q false (ws ++ q ∷ vs)) (text_run total (suc (length (ws ++ q ∷ vs))) q [] (ws ++ q ∷ vs)) (Err (refusal kinds.OpenText p)) closed ∙ run in
    record {
      c = q;
      w = ws ++ q ∷ [];
      whole = s.2;
      dark = quote_dark q i;
      read = ap (token_at total p q) flat ∙ rw (quote_no_name q i, quote_no_digit q i, s.3) read;
    }

-- signs
next_none : (c : ℕ) (cs : List ℕ) → Stops (λ d. nat_eq d c) cs → next_is c cs ≡ None
next_none c [] h = refl
next_none c (d ∷ cs) h = if_false (nat_eq d c) (Some cs) None h

digit_not_next : (cs : List ℕ) → Stops is_ascii_digit cs → digit_next cs ≡ false
digit_not_next [] h = refl
digit_not_next (c ∷ cs) h = h

sign_begins : (total p : ℕ) (s : Sign) (us vs : List ℕ) → us ≡ spelled s → Stops (lengthens s) vs → Begins total p (token.Sign s) us vs
sign_begins total p sign.Plus us vs h f = record { c = 43; w = []; whole = h; dark = refl; read = refl }
sign_begins total p sign.Minus us vs h f = record { c = 45; w = []; whole = h; dark = refl; read = refl }
sign_begins total p sign.Star us vs h f = record { c = 42; w = []; whole = h; dark = refl; read = refl }
sign_begins total p sign.Slash us vs h f = record { c = 47; w = []; whole = h; dark = refl; read = refl }
sign_begins total p sign.Percent us vs h f = record { c = 37; w = []; whole = h; dark = refl; read = refl }
sign_begins total p sign.Assign us vs h f = record { c = 61; w = []; whole = h; dark = refl; read = rw (next_none 61 vs f) }
sign_begins total p sign.Equal us vs h f = record { c = 61; w = 61 ∷ []; whole = h; dark = refl; read = rw (next_none 61 vs f) }
sign_begins total p sign.NotEqual us vs h f = record { c = 33; w = 61 ∷ []; whole = h; dark = refl; read = rw (next_none 61 vs f) }
sign_begins total p sign.Same us vs h f = record { c = 61; w = 61 ∷ 61 ∷ []; whole = h; dark = refl; read = refl }
sign_begins total p sign.NotSame us vs h f = record { c = 33; w = 61 ∷ 61 ∷ []; whole = h; dark = refl; read = refl }
sign_begins total p sign.Less us vs h f = record { c = 60; w = []; whole = h; dark = refl; read = rw (next_none 61 vs f) }
sign_begins total p sign.Greater us vs h f = record { c = 62; w = []; whole = h; dark = refl; read = rw (next_none 61 vs f) }
sign_begins total p sign.AtMost us vs h f = record { c = 60; w = 61 ∷ []; whole = h; dark = refl; read = refl }
sign_begins total p sign.AtLeast us vs h f = record { c = 62; w = 61 ∷ []; whole = h; dark = refl; read = refl }
sign_begins total p sign.And us vs h f = record { c = 38; w = 38 ∷ []; whole = h; dark = refl; read = refl }
sign_begins total p sign.Or us vs h f = record { c = 124; w = 124 ∷ []; whole = h; dark = refl; read = refl }
sign_begins total p sign.Not us vs h f = record { c = 33; w = []; whole = h; dark = refl; read = rw (next_none 61 vs f) }
sign_begins total p sign.Bar us vs h f = record { c = 124; w = []; whole = h; dark = refl; read = rw (next_none 124 vs f) }
sign_begins total p sign.Question us vs h f = record { c = 63; w = []; whole = h; dark = refl; read = refl }
sign_begins total p sign.Colon us vs h f = record { c = 58; w = []; whole = h; dark = refl; read = refl }
sign_begins total p sign.Semicolon us vs h f = record { c = 59; w = []; whole = h; dark = refl; read = refl }
sign_begins total p sign.Comma us vs h f = record { c = 44; w = []; whole = h; dark = refl; read = refl }
sign_begins total p sign.Dot us vs h f = record { c = 46; w = []; whole = h; dark = refl; read = rw (digit_not_next vs f) }
sign_begins total p sign.OpenRound us vs h f = record { c = 40; w = []; whole = h; dark = refl; read = refl }
sign_begins total p sign.CloseRound us vs h f = record { c = 41; w = []; whole = h; dark = refl; read = refl }
sign_begins total p sign.OpenSquare us vs h f = record { c = 91; w = []; whole = h; dark = refl; read = refl }
sign_begins total p sign.CloseSquare us vs h f = record { c = 93; w = []; whole = h; dark = refl; read = refl }
sign_begins total p sign.OpenCurly us vs h f = record { c = 123; w = []; whole = h; dark = refl; read = refl }
sign_begins total p sign.CloseCurly us vs h f = record { c = 125; w = []; whole = h; dark = refl; read = refl }

begins : (total p : ℕ) (t : Token) (us vs : List ℕ) → Lexeme t us → MayFollow t vs → Begins total p t us vs
begins total p (token.Name n) us vs l f = name_begins total p n us vs l.0 l.1 f
begins total p (token.Number n) us vs l f = number_begins total p n us vs l f
begins total p (token.Text t) us vs l f = text_begins total p t us vs l
begins total p (token.Sign s) us vs l f = sign_begins total p s us vs l f

abbrev lists : List Token → List ℕ → Result (List Token × List ℕ) LexFault
lists ts ps = Ok (ts, ps)

-- white space is passed over, with room for what is left
record Passed (total k : ℕ) (ts : List Token) (ps ws cs : List ℕ) : Type 0 where
  j : ℕ
  room : length cs < j
  on : lexes total k ts ps (ws ++ cs) ≡ lexes total j ts ps cs

passed : (total k : ℕ) (ts : List Token) (ps ws cs : List ℕ) → list_all is_space ws ≡ true → length (ws ++ cs) < k → Passed total k ts ps ws cs
passed total k ts ps [] cs h l = record { j = k; room = l; on = refl }
passed total zero ts ps (c ∷ ws) cs h l = absurd (omega arith)
passed total (suc k) ts ps (c ∷ ws) cs h l =
    let b = both_true (is_space c) (list_all is_space ws) h in
    let r = passed total k ts ps ws cs b.1 (omega arith) in
    record { j = r.j; room = r.room; on = if_true (is_space c) (lexes total k ts ps (ws ++ cs)) _ b.0 ∙ r.on }

all_passed : (total k : ℕ) (ts : List Token) (ps cs : List ℕ) → list_all is_space cs ≡ true → length cs < k → lexes total k ts ps cs ≡ lists ts ps
all_passed total zero ts ps cs h l = absurd (omega arith)
all_passed total (suc k) ts ps [] h l = refl
all_passed total (suc k) ts ps (c ∷ cs) h l =
    let b = both_true (is_space c) (list_all is_space cs) h in
    if_true (is_space c) (lexes total k ts ps cs) _ b.0 ∙ all_passed total k ts ps cs b.1 (omega arith)

-- a token is read, with room for what is left
one_token : (total j : ℕ) (ts : List Token) (ps : List ℕ) (t : Token) (c : ℕ) (cs rest : List ℕ) (p : ℕ) → length (c ∷ cs) < j → place total (c ∷ cs) ≡ p → is_space c ≡ false → token_at total p c cs ≡ Ok (t, rest) →
    (i : ℕ) × (length cs < i) × (lexes total j ts ps (c ∷ cs) ≡ lexes total i (ts ++ t ∷ []) (ps ++ p ∷ []) rest)
one_token total zero ts ps t c cs rest p l at d h = absurd (omega arith)
one_token total (suc j) ts ps t c cs rest p l at d h =
    let read : token_at total (place total (c ∷ cs)) c cs ≡ Ok (t, rest) = ap (λ x. token_at total x c cs) at ∙ h in
    (j, omega arith, rw (d, read) (ap (λ x. lexes total j (ts ++ t ∷ []) (ps ++ x ∷ []) rest) at))

written_lexes : (total : ℕ) (more : List Token) (places : List ℕ) (k : ℕ) (ts : List Token) (ps cs : List ℕ) → Written total more places cs → length cs < k → lexes total k ts ps cs ≡ lists (ts ++ more) (ps ++ places)
written_lexes total [] places k ts ps cs w l =
    all_passed total k ts ps cs w.1 l ∙ (ap (λ x. lists x ps) (sym (append-nil ts)) ∙ ap (λ x. lists (ts ++ []) x) (sym (append-nil ps) ∙ ap (λ x. ps ++ x) (sym w.0)))
written_lexes total (t ∷ more) places k ts ps cs w l =
    let ws = w.0 in let us = w.1 in let vs = w.2 in let qs = w.3 in
    let r = passed total k ts ps ws (us ++ vs) w.5 (subst (λ (xs : List ℕ). length xs < k) w.4 l) in
    let p : ℕ = place total (us ++ vs) in
    let x = begins total p t us vs w.7 w.8 in
    let whole : us ++ vs ≡ x.c ∷ (x.w ++ vs) = ap (λ xs. xs ++ vs) x.whole in
    let one = one_token total r.j ts ps t x.c (x.w ++ vs) vs p (subst (λ (xs : List ℕ). length xs < r.j) whole r.room) (ap (place total) (sym whole)) x.dark x.read in
    let later = written_lexes total more qs one.0 (ts ++ t ∷ []) (ps ++ p ∷ []) vs w.9 (omega (arith, one.1, length-append x.w vs)) in
    ap (lexes total k ts ps) w.4
    ∙ (r.on
    ∙ (ap (lexes total r.j ts ps) whole
    ∙ (one.2
    ∙ (later
    ∙ (ap (λ y. lists y ((ps ++ p ∷ []) ++ qs)) (append_assoc ts (t ∷ []) more) ∙ ap (λ y. lists (ts ++ t ∷ more) y) (append_assoc ps (p ∷ []) qs ∙ ap (λ y. ps ++ y) (sym w.6)))))))

pub lexed_only : (total : ℕ) (cs : List ℕ) (ts : List Token) (ps : List ℕ) → Written total ts ps cs → lexed total cs ≡ Ok (ts, ps)
lexed_only total cs ts ps w = written_lexes total ts ps (suc (length cs)) [] [] cs w (omega arith)

-- What is read as tokens spells them.
use Rattle.std.proofs.Common.{◌≡◌, ◌≤◌, ◌<◌, ◌+◌, ◌*◌, ◌-◌, ℕ, zero, suc, Bool, true, false, ◌&&◌, ◌||◌, nat_eq, nat_le, List, [], ◌∷◌, ◌++◌, length, refl, ap, ◌∙◌, sym, subst, arith, inl, inr, append_assoc, append-nil}
use Rattle.std.proofs.lemmas.Bool.Decides.{nat_tests}
use Rattle.std.specs.Prelude.{Result, Ok, Err, if◌then◌else◌, ◌⊎◌}
use Rattle.std.specs.List.{list_all}
use Rattle.ng_base.specs.Cells.{place}
use Rattle.ng_base.specs.Meets.{◌>>=◌}
use Rattle.ng_base.proofs.Binds.{bind_ok, chosen, guarded}
use Rattle.std.specs.Char.{is_ascii_digit}
use Rattle.ng_language.specs.Letters.{begins_name, is_in_name, is_quote, goes_on, is_hex, hex_value, is_surrogate, escaped}
use Rattle.ng_language.specs.Lexing.{refusal, name_run, with_digit, digit_run, ends_number, number, is_closed, hex_step, scalar, unicode, escape, character, text_run, text_at, named}
use Rattle.ng_language.specs.Spelling.{Stops, MayFollow, value_on, four_hex, IsCharacter, IsText, Lexeme}
use Rattle.ng_language.specs.declared.syntax.Token.{Token}
use Rattle.ng_language.specs.declared.syntax.Token.TheVariants as token
use Rattle.ng_language.specs.declared.syntax.LexFault.{LexFault}
use Rattle.ng_language.specs.declared.syntax.LexKind.TheVariants as kinds

pub code_is : (c n : ℕ) → nat_eq c n ≡ true → c ≡ n
code_is c n h = grind (arith, nat_tests)

pub both : (a b : Bool) → a ≡ true → b ≡ true → (a && b) ≡ true
both true b h i = i
both false b h i = absurd (cc)

either_not : (a b : Bool) → a ≡ false → b ≡ false → (a || b) ≡ false
either_not true b h i = absurd (cc)
either_not false b h i = i

-- the front of the characters, all of one kind
pub record Run (is : ℕ → Bool) (cs rest : List ℕ) : Type 0 where
  w : List ℕ
  whole : cs ≡ w ++ rest
  all : list_all is w ≡ true
  stops : Stops is rest

abbrev no_run : (is : ℕ → Bool) (cs rest : List ℕ) → cs ≡ rest → Stops is rest → Run is cs rest
no_run is cs rest h s = record { w = []; whole = h; all = refl; stops = s }

abbrev one_run : (is : ℕ → Bool) (c : ℕ) (cs rest : List ℕ) → is c ≡ true → Run is cs rest → Run is (c ∷ cs) rest
one_run is c cs rest h r = record { w = c ∷ r.w; whole = ap (λ xs. c ∷ xs) r.whole; all = both (is c) (list_all is r.w) h r.all; stops = r.stops }

abbrev NameRun : List ℕ → List ℕ → List ℕ → List ℕ → Type 0
NameRun n m cs rest = (r : Run is_in_name cs rest) × (m ≡ n ++ r.w)

name_runs : (n m cs rest : List ℕ) → name_run n cs ≡ (m, rest) → NameRun n m cs rest
name_runs n m [] rest h = let left : [] ≡ rest = ap (λ p. p.1) h in (no_run is_in_name [] rest left (subst (Stops is_in_name) left tt), sym (ap (λ p. p.0) h) ∙ sym (append-nil n))
name_runs n m (c ∷ cs) rest h =
    elim (chosen (is_in_name c) (name_run (n ++ c ∷ []) cs) (n, c ∷ cs) (m, rest) h) [
      | inl g ↦ let r = name_runs (n ++ c ∷ []) m cs rest g.1 in (one_run is_in_name c cs rest g.0 r.0, r.1 ∙ append_assoc n (c ∷ []) r.0.w)
      | inr g ↦ let left : c ∷ cs ≡ rest = ap (λ p. p.1) g.1 in (no_run is_in_name (c ∷ cs) rest left (subst (Stops is_in_name) left g.0), sym (ap (λ p. p.0) g.1) ∙ sym (append-nil n))
    ]

-- numbers
abbrev pub capped_on : ℕ → List ℕ → ℕ
capped_on n [] = n
capped_on n (c ∷ cs) = capped_on (with_digit n c) cs

abbrev DigitRun : ℕ → ℕ → List ℕ → List ℕ → Type 0
DigitRun n m cs rest = (r : Run is_ascii_digit cs rest) × (m ≡ capped_on n r.w)

digit_runs : (n m : ℕ) (cs rest : List ℕ) → digit_run n cs ≡ (m, rest) → DigitRun n m cs rest
digit_runs n m [] rest h = let left : [] ≡ rest = ap (λ p. p.1) h in (no_run is_ascii_digit [] rest left (subst (Stops is_ascii_digit) left tt), sym (ap (λ p. p.0) h))
digit_runs n m (c ∷ cs) rest h =
    elim (chosen (is_ascii_digit c) (digit_run (with_digit n c) cs) (n, c ∷ cs) (m, rest) h) [
      | inl g ↦ let r = digit_runs (with_digit n c) m cs rest g.1 in (one_run is_ascii_digit c cs rest g.0 r.0, r.1)
      | inr g ↦ let left : c ∷ cs ≡ rest = ap (λ p. p.1) g.1 in (no_run is_ascii_digit (c ∷ cs) rest left (subst (Stops is_ascii_digit) left g.0), sym (ap (λ p. p.0) g.1))
    ]

digit_more : (n c : ℕ) → n ≤ 9007199254740991 → with_digit n c ≡ 10 * n + (c - 48)
digit_more n c h = let b : nat_le n 9007199254740991 ≡ true = grind (arith, nat_tests) in ap (λ (x : Bool). if x then 10 * n + (c - 48) else n) b

digit_stays : (n c : ℕ) → 9007199254740991 < n → with_digit n c ≡ n
digit_stays n c h = let b : nat_le n 9007199254740991 ≡ false = grind (arith, nat_tests) in ap (λ (x : Bool). if x then 10 * n + (c - 48) else n) b

pub capped_stays : (n : ℕ) (w : List ℕ) → 9007199254740991 < n → capped_on n w ≡ n
capped_stays n [] h = refl
capped_stays n (c ∷ cs) h = ap (λ m. capped_on m cs) (digit_stays n c h) ∙ capped_stays n cs h

value_grows : (n : ℕ) (w : List ℕ) → n ≤ value_on n w
value_grows n [] = omega arith
value_grows n (c ∷ cs) = omega (arith, value_grows (10 * n + (c - 48)) cs)

low_or_high : (n m : ℕ) → (n ≤ m) ⊎ (m < n)
low_or_high n m = grind arith

-- a number that is not too large is the value of its digits
pub capped_value : (n : ℕ) (w : List ℕ) → capped_on n w ≤ 9007199254740991 → capped_on n w ≡ value_on n w
capped_value n [] h = refl
capped_value n (c ∷ cs) h =
    elim (low_or_high n 9007199254740991) [
      | inl l ↦
          let e : capped_on (with_digit n c) cs ≡ capped_on (10 * n + (c - 48)) cs = ap (λ m. capped_on m cs) (digit_more n c l) in
          e ∙ capped_value (10 * n + (c - 48)) cs (omega (arith, e, h))
      | inr g ↦ let e : capped_on n (c ∷ cs) ≡ n = capped_stays n (c ∷ cs) g in absurd (omega (arith, e, h))
    ]

pub value_capped : (n : ℕ) (w : List ℕ) → value_on n w ≤ 9007199254740991 → capped_on n w ≡ value_on n w
value_capped n [] h = refl
value_capped n (c ∷ cs) h =
    let low : 10 * n + (c - 48) ≤ value_on (10 * n + (c - 48)) cs = value_grows (10 * n + (c - 48)) cs in
    ap (λ m. capped_on m cs) (digit_more n c (omega (arith, low, h))) ∙ value_capped (10 * n + (c - 48)) cs h

-- the front of the characters spells the token
pub record Lexed (t : Token) (cs rest : List ℕ) : Type 0 where
  pub c : ℕ
  pub w : List ℕ
  pub whole : cs ≡ c ∷ (w ++ rest)
  pub lexeme : Lexeme t (c ∷ w)
  pub follows : MayFollow t rest

abbrev pub answer : Token → List ℕ → Result (Token × List ℕ) LexFault
answer t rest = Ok (t, rest)

pub token_same : (t u : Token) (ts us : List ℕ) → answer t ts ≡ answer u us → t ≡ u
token_same t u ts us h = ap (λ r. token_of r) h
  where
    token_of : Result (Token × List ℕ) LexFault → Token
    token_of (Ok r) = r.0
    token_of (Err e) = t

pub rest_same : (t u : Token) (ts us : List ℕ) → answer t ts ≡ answer u us → ts ≡ us
rest_same t u ts us h = ap (λ r. rest_of r) h
  where
    rest_of : Result (Token × List ℕ) LexFault → List ℕ
    rest_of (Ok r) = r.1
    rest_of (Err e) = []

pub name_lexed : (c : ℕ) (cs rest : List ℕ) (t : Token) → begins_name c ≡ true → named (name_run (c ∷ []) cs) ≡ Ok (t, rest) → Lexed t (c ∷ cs) rest
name_lexed c cs rest t b h =
    let r = name_runs (c ∷ []) (name_run (c ∷ []) cs).0 cs (name_run (c ∷ []) cs).1 refl in
    let same : token.Name (c ∷ r.0.w) ≡ t = ap token.Name (sym r.1) ∙ token_same (token.Name (name_run (c ∷ []) cs).0) t (name_run (c ∷ []) cs).1 rest h in
    let left : (name_run (c ∷ []) cs).1 ≡ rest = rest_same (token.Name (name_run (c ∷ []) cs).0) t (name_run (c ∷ []) cs).1 rest h in
    subst (λ (x : Token). Lexed x (c ∷ cs) rest) same (record {
      c = c;
      w = r.0.w;
      whole = ap (λ xs. c ∷ xs) (r.0.whole ∙ ap (λ xs. r.0.w ++ xs) left);
      lexeme = (refl, (b, r.0.all));
      follows = subst (Stops is_in_name) left r.0.stops;
    })

ends_stops : (cs : List ℕ) → ends_number cs ≡ true → Stops is_ascii_digit cs → Stops (λ c. is_ascii_digit c || goes_on c) cs
ends_stops [] h s = tt
ends_stops (c ∷ cs) h s = either_not (is_ascii_digit c) (goes_on c) s (not_on (goes_on c) h)
  where
    not_on : (b : Bool) → (if b then false else true) ≡ true → b ≡ false
    not_on true e = absurd (cc)
    not_on false e = refl

pub number_lexed : (p c : ℕ) (cs rest : List ℕ) (t : Token) → is_ascii_digit c ≡ true → number p (digit_run (c - 48) cs) ≡ Ok (t, rest) → Lexed t (c ∷ cs) rest
number_lexed p c cs rest t d h =
    let r = digit_run (c - 48) cs in
    let g = guarded (nat_le r.0 9007199254740991) (if ends_number r.1 then answer (token.Number r.0) r.1 else Err (refusal kinds.Fraction p)) (refusal kinds.BigNumber p) (t, rest) h in
    let f = guarded (ends_number r.1) (answer (token.Number r.0) r.1) (refusal kinds.Fraction p) (t, rest) g.1 in
    let q = digit_runs (c - 48) r.0 cs r.1 refl in
    let low : r.0 ≤ 9007199254740991 = grind (arith, nat_tests) in
    let first : 10 * 0 + (c - 48) ≡ c - 48 = omega arith in
    let value : r.0 ≡ value_on 0 (c ∷ q.0.w) = q.1 ∙ (capped_value (c - 48) q.0.w (omega (arith, q.1, low)) ∙ ap (λ m. value_on m q.0.w) (sym first)) in
    let same : token.Number r.0 ≡ t = token_same (token.Number r.0) t r.1 rest f.1 in
    let left : r.1 ≡ rest = rest_same (token.Number r.0) t r.1 rest f.1 in
    subst (λ (x : Token). Lexed x (c ∷ cs) rest) same (record {
      c = c;
      w = q.0.w;
      whole = ap (λ xs. c ∷ xs) (q.0.whole ∙ ap (λ xs. q.0.w ++ xs) left);
      lexeme = (d, q.0.all, value, low);
      follows = subst (Stops (λ c. is_ascii_digit c || goes_on c)) left (ends_stops r.1 f.0 q.0.stops);
    })

-- texts
abbrev read_as : ℕ → List ℕ → Result (ℕ × List ℕ) LexFault
read_as d rest = Ok (d, rest)

number_same : (d e : ℕ) (ts us : List ℕ) → read_as d ts ≡ read_as e us → (d ≡ e) × (ts ≡ us)
number_same d e ts us h = (ap (λ r. first_of r) h, ap (λ r. rest_of r) h)
  where
    first_of : Result (ℕ × List ℕ) LexFault → ℕ
    first_of (Ok r) = r.0
    first_of (Err f) = d

    rest_of : Result (ℕ × List ℕ) LexFault → List ℕ
    rest_of (Ok r) = r.1
    rest_of (Err f) = []

hex_read : (p n m : ℕ) (cs rest : List ℕ) → hex_step p n cs ≡ Ok (m, rest) → (c : ℕ) × (cs ≡ c ∷ rest) × (is_hex c ≡ true) × (m ≡ 16 * n + hex_value c)
hex_read p n m [] rest h = absurd (cc)
hex_read p n m (c ∷ cs) rest h =
    let g = guarded (is_hex c) (read_as (16 * n + hex_value c) cs) (refusal kinds.BadEscape p) (m, rest) h in
    let s = number_same (16 * n + hex_value c) m cs rest g.1 in
    (c, ap (λ xs. c ∷ xs) s.1, g.0, sym s.0)

scalar_read : (p d : ℕ) (r : ℕ × List ℕ) (rest : List ℕ) → scalar p r ≡ Ok (d, rest) → (is_surrogate r.0 ≡ false) × (r.0 ≡ d) × (r.1 ≡ rest)
scalar_read p d r rest h =
    elim (chosen (is_surrogate r.0) (Err (refusal kinds.BadEscape p)) (read_as r.0 r.1) (Ok (d, rest)) h) [
      | inl g ↦ absurd (cc)
      | inr g ↦ let s = number_same r.0 d r.1 rest g.1 in (g.0, s.0, s.1)
    ]

-- one character of a text
record IsRead (q d : ℕ) (cs rest : List ℕ) : Type 0 where
  us : List ℕ
  whole : cs ≡ us ++ rest
  spells : IsCharacter q d us

unicode_read : (p q d : ℕ) (cs rest : List ℕ) → unicode p cs ≡ Ok (d, rest) → IsRead q d (92 ∷ 117 ∷ cs) rest
unicode_read p q d cs rest h =
    let a = bind_ok (hex_step p 0 cs) (λ a. hex_step p a.0 a.1 >>= λ b. hex_step p b.0 b.1 >>= λ c. hex_step p c.0 c.1 >>= scalar p) (d, rest) h in
    let b = bind_ok (hex_step p a.0.0 a.0.1) (λ b. hex_step p b.0 b.1 >>= λ c. hex_step p c.0 c.1 >>= scalar p) (d, rest) a.2 in
    let c = bind_ok (hex_step p b.0.0 b.0.1) (λ c. hex_step p c.0 c.1 >>= scalar p) (d, rest) b.2 in
    let e = bind_ok (hex_step p c.0.0 c.0.1) (scalar p) (d, rest) c.2 in
    let ra = hex_read p 0 a.0.0 cs a.0.1 a.1 in
    let rb = hex_read p a.0.0 b.0.0 a.0.1 b.0.1 b.1 in
    let rc = hex_read p b.0.0 c.0.0 b.0.1 c.0.1 c.1 in
    let re = hex_read p c.0.0 e.0.0 c.0.1 e.0.1 e.1 in
    let s = scalar_read p d e.0 rest e.2 in
    let value : d ≡ four_hex ra.0 rb.0 rc.0 re.0 =
    sym s.1 ∙ (re.3 ∙ ap (λ m. 16 * m + hex_value re.0) (rc.3 ∙ ap (λ m. 16 * m + hex_value rc.0) (rb.3 ∙ ap (λ m. 16 * m + hex_value rb.0) ra.3))) in
    record {
      us = 92 ∷ 117 ∷ ra.0 ∷ rb.0 ∷ rc.0 ∷ re.0 ∷ [];
      whole = ap (λ xs. 92 ∷ 117 ∷ xs) (ra.1 ∙ ap (λ xs. ra.0 ∷ xs) (rb.1 ∙ ap (λ xs. rb.0 ∷ xs) (rc.1 ∙ ap (λ xs. rc.0 ∷ xs) (re.1 ∙ ap (λ xs. re.0 ∷ xs) s.2))));
      spells = inr (inr (ra.0, rb.0, rc.0, re.0, refl, ra.2, rb.2, rc.2, re.2, value, subst (λ (m : ℕ). is_surrogate m ≡ false) s.1 s.0));
    }

escape_read : (p q d : ℕ) (cs rest : List ℕ) → escape p cs ≡ Ok (d, rest) → IsRead q d (92 ∷ cs) rest
escape_read p q d [] rest h = absurd (cc)
escape_read p q d (c ∷ cs) rest h =
    elim (chosen (nat_eq c 117) (unicode p cs) (read_as (escaped c) cs) (Ok (d, rest)) h) [
      | inl g ↦ subst (λ (x : ℕ). IsRead q d (92 ∷ x ∷ cs) rest) (sym (code_is c 117 g.0)) (unicode_read p q d cs rest g.1)
      | inr g ↦
          let s = number_same (escaped c) d cs rest g.1 in
          record { us = 92 ∷ c ∷ []; whole = ap (λ xs. 92 ∷ c ∷ xs) s.1; spells = inr (inl (c, refl, g.0, sym s.0)) }
    ]

character_read : (p q c d : ℕ) (cs rest : List ℕ) → nat_eq c q ≡ false → character p c cs ≡ Ok (d, rest) → IsRead q d (c ∷ cs) rest
character_read p q c d cs rest other h =
    elim (chosen (nat_eq c 92) (escape p cs) (read_as c cs) (Ok (d, rest)) h) [
      | inl g ↦ subst (λ (x : ℕ). IsRead q d (x ∷ cs) rest) (sym (code_is c 92 g.0)) (escape_read p q d cs rest g.1)
      | inr g ↦
          let s = number_same c d cs rest g.1 in
          subst (λ (x : ℕ). IsRead q x (c ∷ cs) rest) s.0 (record { us = c ∷ []; whole = ap (λ xs. c ∷ xs) s.1; spells = inl (refl, other, g.0) })
    ]

record IsRest (q : ℕ) (before : List ℕ) (t : Token) (cs rest : List ℕ) : Type 0 where
  more : List ℕ
  ws : List ℕ
  whole : cs ≡ ws ++ q ∷ rest
  spells : IsText q more ws
  text : t ≡ token.Text (before ++ more)

text_runs : (total k q : ℕ) (before cs rest : List ℕ) (t : Token) → text_run total k q before cs ≡ Ok (t, rest) → IsRest q before t cs rest
text_runs total zero q before cs rest t h = absurd (cc)
text_runs total (suc k) q before [] rest t h = absurd (cc)
text_runs total (suc k) q before (c ∷ cs) rest t h =
    elim (chosen (nat_eq c q) (answer (token.Text before) cs) (character (place total (c ∷ cs)) c cs >>= λ r. text_run total k q (before ++ r.0 ∷ []) r.1) (Ok (t, rest)) h) [
      | inl g ↦
          record {
            more = [];
            ws = [];
            whole = ap (λ x. x ∷ cs) (code_is c q g.0) ∙ ap (λ xs. q ∷ xs) (rest_same (token.Text before) t cs rest g.1);
            spells = refl;
            text = sym (token_same (token.Text before) t cs rest g.1) ∙ ap token.Text (sym (append-nil before));
          }
      | inr g ↦
          let b = bind_ok (character (place total (c ∷ cs)) c cs) (λ r. text_run total k q (before ++ r.0 ∷ []) r.1) (t, rest) g.1 in
          let x = character_read (place total (c ∷ cs)) q c b.0.0 cs b.0.1 g.0 b.1 in
          let y = text_runs total k q (before ++ b.0.0 ∷ []) b.0.1 rest t b.2 in
          record {
            more = b.0.0 ∷ y.more;
            ws = x.us ++ y.ws;
            whole = x.whole ∙ (ap (λ xs. x.us ++ xs) y.whole ∙ sym (append_assoc x.us y.ws (q ∷ rest)));
            spells = (x.us, y.ws, refl, x.spells, y.spells);
            text = y.text ∙ ap token.Text (append_assoc before (b.0.0 ∷ []) y.more);
          }
    ]

pub text_lexed : (total p q : ℕ) (cs rest : List ℕ) (t : Token) → is_quote q ≡ true → text_at total p q cs ≡ Ok (t, rest) → Lexed t (q ∷ cs) rest
text_lexed total p q cs rest t b h =
    let g = guarded (is_closed q false cs) (text_run total (suc (length cs)) q [] cs) (refusal kinds.OpenText p) (t, rest) h in
    let r = text_runs total (suc (length cs)) q [] cs rest t g.1 in
    subst (λ (x : Token). Lexed x (q ∷ cs) rest) (sym r.text) (record {
      c = q;
      w = r.ws ++ q ∷ [];
      whole = ap (λ xs. q ∷ xs) (r.whole ∙ sym (append_assoc r.ws (q ∷ []) rest));
      lexeme = (q, r.ws, refl, b, r.spells);
      follows = tt;
    })

-- Characters, their bytes and their cells: without zeros, and without a CR.
use Rattle.std.proofs.Common.{◌≡◌, ◌<◌, ℕ, suc, ◌+◌, ◌/◌, ◌%◌, Bool, true, false, not, ◌==◌, ◌&&◌, nat_eq, nat_lt, List, [], ◌∷◌, ◌++◌, length, refl, ap, ◌∙◌, sym, subst, arith, inl, inr}
use Rattle.std.proofs.Math.Utf8.{scalar, scalars}
use Rattle.std.proofs.lemmas.Bool.Decides.{nat_tests}
use Rattle.std.proofs.lemmas.Str.{encode_ascii, encodes-chars}
use Rattle.std.specs.Prelude.{if◌then◌else◌, encode_utf8_all}
use Rattle.std.specs.Char.{encode_utf8}
use Rattle.std.specs.List.{list_all}
use Rattle.std.specs.Str.{chars, IsUtf8}
use Rattle.ng_base.specs.Cells.{cells, place}
use Rattle.ng_base.proofs.Binds.{if_false, if_held, chosen}
use Rattle.ng_tags.specs.Spelling.{chars_of}
use Rattle.ng_html.specs.Reading.{before_zero}

abbrev pub HasNoZero : List ℕ → Type 0
HasNoZero bs = before_zero bs ≡ length bs

some_byte : (b : ℕ) (bs : List ℕ) → 0 < b → HasNoZero bs → HasNoZero (b ∷ bs)
some_byte b bs p h = if_false (b == 0) 0 (suc (before_zero bs)) (grind (arith, nat_tests, p)) ∙ ap suc h

char_bytes : (c : ℕ) (rest : List ℕ) → (c == 0) ≡ false → HasNoZero rest → HasNoZero (encode_utf8 c ++ rest)
unfolding encode_utf8
char_bytes c rest p h =
    let one : 0 < c = grind (arith, nat_tests, p) in
    let last = some_byte (128 + c % 64) rest (omega arith) h in
    let middle = some_byte (128 + (c / 64) % 64) ((128 + c % 64) ∷ rest) (omega arith) last in
    if_held (nat_lt c 128) (c ∷ []) (if nat_lt c 2048 then (192 + c / 64) ∷ (128 + c % 64) ∷ [] else if nat_lt c 65536 then (224 + c / 4096) ∷ (128 + (c / 64) % 64) ∷ (128 + c % 64) ∷ [] else (240 + c / 262144) ∷ (128 + (c / 4096) % 64) ∷ (128 + (c / 64) % 64) ∷ (128 + c % 64) ∷ [])
    (λ xs. HasNoZero (xs ++ rest))
    (λ t. some_byte c rest one h)
    (λ t. if_held (nat_lt c 2048) ((192 + c / 64) ∷ (128 + c % 64) ∷ []) (if nat_lt c 65536 then (224 + c / 4096) ∷ (128 + (c / 64) % 64) ∷ (128 + c % 64) ∷ [] else (240 + c / 262144) ∷ (128 + (c / 4096) % 64) ∷ (128 + (c / 64) % 64) ∷ (128 + c % 64) ∷ [])
    (λ xs. HasNoZero (xs ++ rest))
    (λ u. some_byte (192 + c / 64) ((128 + c % 64) ∷ rest) (omega arith) last)
    (λ u. if_held (nat_lt c 65536) ((224 + c / 4096) ∷ (128 + (c / 64) % 64) ∷ (128 + c % 64) ∷ []) ((240 + c / 262144) ∷ (128 + (c / 4096) % 64) ∷ (128 + (c / 64) % 64) ∷ (128 + c % 64) ∷ [])
    (λ xs. HasNoZero (xs ++ rest))
    (λ v. some_byte (224 + c / 4096) ((128 + (c / 64) % 64) ∷ (128 + c % 64) ∷ rest) (omega arith) middle)
    (λ v. some_byte (240 + c / 262144) ((128 + (c / 4096) % 64) ∷ (128 + (c / 64) % 64) ∷ (128 + c % 64) ∷ rest) (omega arith)
    (some_byte (128 + (c / 4096) % 64) ((128 + (c / 64) % 64) ∷ (128 + c % 64) ∷ rest) (omega arith) middle))))

abbrev pub is_some_char : ℕ → Bool
is_some_char c = not (c == 0)

both_true : (a b : Bool) → (a && b) ≡ true → (a ≡ true) × (b ≡ true)
both_true true b h = (refl, h)
both_true false b h = absurd (cc)

both : (a b : Bool) → a ≡ true → b ≡ true → (a && b) ≡ true
both true b h i = i
both false b h i = absurd (cc)

not_true : (a : Bool) → not a ≡ true → a ≡ false
not_true true h = absurd (cc)
not_true false h = refl

not_false : (a : Bool) → a ≡ false → not a ≡ true
not_false true h = absurd (cc)
not_false false h = refl

-- characters other than zero have no zero byte
pub text_bytes : (cs : List ℕ) → list_all is_some_char cs ≡ true → HasNoZero (encode_utf8_all cs)
text_bytes [] h = refl
text_bytes (c ∷ cs) h =
    let b = both_true (is_some_char c) (list_all is_some_char cs) h in
    char_bytes c (encode_utf8_all cs) (not_true (c == 0) b.0) (text_bytes cs b.1)

behind_bytes : (xs ys : List ℕ) → HasNoZero (xs ++ ys) → HasNoZero ys
behind_bytes [] ys h = h
behind_bytes (x ∷ xs) ys h =
    elim (chosen (x == 0) 0 (suc (before_zero (xs ++ ys))) (length (x ∷ (xs ++ ys))) h) [
      | inl g ↦ absurd (omega (arith, g.1))
      | inr g ↦ let e : HasNoZero (xs ++ ys) = omega (arith, g.1) in behind_bytes xs ys e
    ]

first_char : (c : ℕ) (rest : List ℕ) → HasNoZero (encode_utf8 c ++ rest) → is_some_char c ≡ true
first_char c rest h = by (c == 0) refl
  where
    by : (b : Bool) → (c == 0) ≡ b → not b ≡ true
    by false e = refl
    by true e =
        let z : c ≡ 0 = grind (arith, nat_tests, e) in
        let k : HasNoZero (0 ∷ rest) = subst (λ (xs : List ℕ). HasNoZero (xs ++ rest)) (ap encode_utf8 z ∙ encode_ascii 0 (omega arith)) h in
        absurd (omega (arith, k))

chars_of_bytes : (cs : List ℕ) → HasNoZero (encode_utf8_all cs) → list_all is_some_char cs ≡ true
chars_of_bytes [] h = refl
chars_of_bytes (c ∷ cs) h = both (is_some_char c) (list_all is_some_char cs) (first_char c (encode_utf8_all cs) h) (chars_of_bytes cs (behind_bytes (encode_utf8 c) (encode_utf8_all cs) h))

-- a text without a zero byte has no zero character
pub text_chars : (bs : List ℕ) → IsUtf8 bs → HasNoZero bs → list_all is_some_char (chars bs) ≡ true
text_chars bs u h = chars_of_bytes (chars bs) (subst HasNoZero (sym (encodes-chars bs u)) h)

-- a character that may stand in a cell
abbrev pub is_cell_char : ℕ → Bool
is_cell_char c = scalar c && not (c == 0) && not (c == 13)

cell_char : (c : ℕ) → scalar c ≡ true → is_some_char c ≡ true → nat_eq c 13 ≡ false → is_cell_char c ≡ true
cell_char c s z r = both (scalar c && not (c == 0)) (not (c == 13)) (both (scalar c) (not (c == 0)) s z) (not_false (c == 13) (grind (arith, nat_tests, r)))

-- the cells of a text have such characters
pub cells_chars : (total : ℕ) (b : Bool) (cs : List ℕ) → scalars cs ≡ true → list_all is_some_char cs ≡ true → list_all is_cell_char (chars_of (cells total b cs)) ≡ true
cells_chars total b [] s z = refl
cells_chars total b (c ∷ cs) s z =
    let x = both_true (scalar c) (scalars cs) s in
    let y = both_true (is_some_char c) (list_all is_some_char cs) z in
    if_held (nat_eq c 13) ((10, place total (c ∷ cs)) ∷ cells total true cs) (if b && nat_eq c 10 then cells total false cs else (c, place total (c ∷ cs)) ∷ cells total false cs)
    (λ us. list_all is_cell_char (chars_of us) ≡ true)
    (λ t. both (is_cell_char 10) (list_all is_cell_char (chars_of (cells total true cs))) refl (cells_chars total true cs x.1 y.1))
    (λ t. if_held (b && nat_eq c 10) (cells total false cs) ((c, place total (c ∷ cs)) ∷ cells total false cs)
    (λ us. list_all is_cell_char (chars_of us) ≡ true)
    (λ u. cells_chars total false cs x.1 y.1)
    (λ u. both (is_cell_char c) (list_all is_cell_char (chars_of (cells total false cs))) (cell_char c x.0 y.0 t) (cells_chars total false cs x.1 y.1)))

abbrev pub is_no_return : ℕ → Bool
is_no_return c = not (c == 13)

-- without a CR the cells are the characters
pub cells_same : (total : ℕ) (cs : List ℕ) → list_all is_no_return cs ≡ true → chars_of (cells total false cs) ≡ cs
cells_same total [] h = refl
cells_same total (c ∷ cs) h =
    let b = both_true (is_no_return c) (list_all is_no_return cs) h in
    let n : nat_eq c 13 ≡ false = grind (arith, nat_tests, not_true (c == 13) b.0) in
    ap chars_of (if_false (nat_eq c 13) ((10, place total (c ∷ cs)) ∷ cells total true cs) ((c, place total (c ∷ cs)) ∷ cells total false cs) n)
    ∙ ap (λ xs. c ∷ xs) (cells_same total cs b.1)

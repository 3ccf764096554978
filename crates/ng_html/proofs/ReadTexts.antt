-- Characters of texts and values that were read.
use Rattle.std.proofs.Common.{◌≡◌, ℕ, Bool, true, false, not, ◌&&◌, ◌==◌, List, [], ◌∷◌, ◌++◌, refl, ◌∙◌, sym, subst, arith, inl, inr}
use Rattle.std.proofs.Math.Utf8.{scalar}
use Rattle.std.proofs.lemmas.Bool.Decides.{nat_tests}
use Rattle.std.specs.Prelude.{Option, None, Some, if◌then◌else◌, codes}
use Rattle.std.specs.List.{list_all}
use Rattle.std.specs.Str.{bytes_eq}
use Rattle.ng_base.specs.Cells.{Cell}
use Rattle.ng_base.proofs.Binds.{chosen}
use Rattle.ng_tags.specs.References.{named_character, is_character}
use Rattle.ng_tags.specs.Spelling.{chars_of, digits_value, Names, by_name, by_number, by_hexadecimal, Reads, no_more, itself, by_reference, ampersand}
use Rattle.ng_tags.specs.declared.base.Base.TheVariants as base
use Rattle.ng_tags.specs.declared.until.Until.{Until}
use Rattle.ng_html.proofs.PlainText.{is_cell_char}

pub both_true : (a b : Bool) → (a && b) ≡ true → (a ≡ true) × (b ≡ true)
both_true true b h = (refl, h)
both_true false b h = absurd (cc)

pub both : (a b : Bool) → a ≡ true → b ≡ true → (a && b) ≡ true
both true b h i = i
both false b h i = absurd (cc)

-- all of these cells, and all of those behind them
pub parts : (P : ℕ → Bool) (us vs : List Cell) → list_all P (chars_of (us ++ vs)) ≡ true → (list_all P (chars_of us) ≡ true) × (list_all P (chars_of vs) ≡ true)
parts P [] vs h = (refl, h)
parts P (c ∷ us) vs h =
    let b = both_true (P c.0) (list_all P (chars_of (us ++ vs))) h in
    let r = parts P us vs b.1 in
    (both (P c.0) (list_all P (chars_of us)) b.0 r.0, r.1)

-- a character that may stand in a text or a value
abbrev pub is_value_char : ℕ → Bool
is_value_char c = scalar c && not (c == 0)

pub cell_value : (c : ℕ) → is_cell_char c ≡ true → is_value_char c ≡ true
cell_value c h = (both_true (is_value_char c) (not (c == 13)) h).0

-- the value of the first row of a name
abbrev row_of : List (List ℕ × ℕ) → List ℕ → Option ℕ
row_of [] n = None
row_of (r ∷ rs) n = if bytes_eq n r.0 then Some r.1 else row_of rs n

abbrev names_table : List (List ℕ × ℕ)
names_table =
    (codes "amp", 0x26) ∷ (codes "lt", 0x3C) ∷ (codes "gt", 0x3E) ∷ (codes "quot", 0x22) ∷ (codes "apos", 0x27) ∷ (codes "nbsp", 0xA0) ∷ (codes "copy", 0xA9) ∷ (codes "reg", 0xAE) ∷ (codes "deg", 0xB0) ∷ (codes "middot", 0xB7) ∷ (codes "laquo", 0xAB) ∷ (codes "raquo", 0xBB) ∷ (codes "times", 0xD7) ∷ (codes "ndash", 0x2013) ∷ (codes "mdash", 0x2014) ∷ (codes "lsquo", 0x2018) ∷ (codes "rsquo", 0x2019) ∷ (codes "ldquo", 0x201C) ∷ (codes "rdquo", 0x201D) ∷ (codes "bull", 0x2022) ∷ (codes "hellip", 0x2026) ∷ (codes "euro", 0x20AC) ∷ (codes "trade", 0x2122) ∷ (codes "larr", 0x2190) ∷ (codes "uarr", 0x2191) ∷ (codes "rarr", 0x2192) ∷ (codes "darr", 0x2193) ∷ []

by_table : (n : List ℕ) → named_character n ≡ row_of names_table n
unfolding named_character
by_table n = refl

row_value : (rs : List (List ℕ × ℕ)) (n : List ℕ) (x : ℕ) → list_all (λ r. is_value_char r.1) rs ≡ true → row_of rs n ≡ Some x → is_value_char x ≡ true
row_value [] n x a h = absurd (cc)
row_value (r ∷ rs) n x a h =
    let b = both_true (is_value_char r.1) (list_all (λ r. is_value_char r.1) rs) a in
    elim (chosen (bytes_eq n r.0) (Some r.1) (row_of rs n) (Some x) h) [
      | inl g ↦ let e : r.1 ≡ x = let k = g.1 in cc in subst (λ z. is_value_char z ≡ true) e b.0
      | inr g ↦ row_value rs n x b.1 g.1
    ]

named_value : (n : List ℕ) (x : ℕ) → named_character n ≡ Some x → is_value_char x ≡ true
named_value n x h = row_value names_table n x refl (sym (by_table n) ∙ h)

character_value : (n : ℕ) → is_character n ≡ true → is_value_char n ≡ true
character_value n h = both (scalar n) (not (n == 0)) (grind (arith, nat_tests, h)) (grind (arith, nat_tests, h))

names_value : (x : ℕ) (us : List Cell) → Names x us → is_value_char x ≡ true
names_value x us (by_name y w z l n e) = named_value (chars_of w) y n
names_value x us (by_number a d w z s l n e) = character_value (digits_value base.Decimal 0 (chars_of (d ∷ w))) n
names_value x us (by_hexadecimal a b d w z s t l n e) = character_value (digits_value base.Hexadecimal 0 (chars_of (d ∷ w))) n

-- what is read of such cells has such characters
pub reads_value : (u : Until) (rest us : List Cell) (t : List ℕ) → Reads u rest us t → list_all is_cell_char (chars_of us) ≡ true → list_all is_value_char t ≡ true
reads_value u rest us t no_more h = refl
reads_value u rest us t (itself c vs v e n r) h =
    let b = both_true (is_cell_char c.0) (list_all is_cell_char (chars_of vs)) h in
    both (is_value_char c.0) (list_all is_value_char v) (cell_value c.0 b.0) (reads_value u rest vs v r b.1)
reads_value u rest us t (by_reference c ws vs v x e n r) h =
    let b = both_true (is_cell_char c.0) (list_all is_cell_char (chars_of (ws ++ vs))) h in
    let p = parts is_cell_char ws vs b.1 in
    both (is_value_char x) (list_all is_value_char v) (names_value x ws n) (reads_value u rest vs v r p.1)
reads_value u rest us t (ampersand c vs v e n r) h =
    let b = both_true (is_cell_char c.0) (list_all is_cell_char (chars_of vs)) h in
    both (is_value_char 38) (list_all is_value_char v) refl (reads_value u rest vs v r b.1)

-- Bytes that stand for themselves, and the characters that they spell.
use Rattle.std.proofs.Common.{arith, length, get_or, ◌≡◌, ◌<◌, ℕ, Bool, true, false, nat_lt, List, [], ◌∷◌, encode_utf8, encode_utf8_all, sym, ap, ◌∙◌, refl}
use Rattle.std.proofs.lemmas.Bool.{and_parts}
pub use Rattle.std.proofs.lemmas.Bool.{and_parts as both_parts}
use Rattle.std.proofs.lemmas.Grind.{common_steps}
use Rattle.std.proofs.lemmas.List.Folds.{list_all-append}
use Rattle.std.proofs.lemmas.Str.{encodes-chars, encode_ascii, char_from_byte, length-encode, len_utf8_bounds}
use Rattle.std.specs.Str.{chars, IsUtf8}
use Rattle.std.specs.List.{list_all}
use Rattle.ng_base.specs.Runs.{is_plain, begins_plain}

plain_char_at : (c : ℕ) (ascii : Bool) → nat_lt c 128 ≡ ascii → list_all is_plain (encode_utf8 c) ≡ true → is_plain c ≡ true
plain_char_at c true l e =
    let below : c < 128 = grind (arith, common_steps) in
    let one = sym (ap (list_all is_plain) (encode_ascii c below)) ∙ e in
    (and_parts (is_plain c) true one).0
plain_char_at c false l e = grind (arith, common_steps)

plain_char : (c : ℕ) → list_all is_plain (encode_utf8 c) ≡ true → is_plain c ≡ true
plain_char c e = plain_char_at c (nat_lt c 128) refl e

plain_spelled : (cs : List ℕ) → list_all is_plain (encode_utf8_all cs) ≡ true → list_all is_plain cs ≡ true
plain_spelled [] e = refl
plain_spelled (c ∷ cs) e =
    let both = and_parts _ _ (sym (list_all-append is_plain (encode_utf8 c) (encode_utf8_all cs)) ∙ e) in
    let first = plain_char c both.0 in
    let others = plain_spelled cs both.1 in
    grind (arith, common_steps)

-- a text whose bytes stand for themselves has such characters
pub plain_chars : (bs : List ℕ) → IsUtf8 bs → list_all is_plain bs ≡ true → list_all is_plain (chars bs) ≡ true
plain_chars bs u e = plain_spelled (chars bs) (ap (list_all is_plain) (encodes-chars bs u) ∙ e)

mark_is_ascii : (b : ℕ) → is_plain b ≡ false → b < 128
mark_is_ascii b e = grind (arith, common_steps)

filled_by : (c : ℕ) (cs bs : List ℕ) → encode_utf8_all (c ∷ cs) ≡ bs → 0 < length bs
filled_by c cs bs e =
    let one = (len_utf8_bounds c).0 in
    let len = length-encode c in
    let all = ap length e in
    grind (arith, common_steps)

first_of : (cs bs : List ℕ) → encode_utf8_all cs ≡ bs → (0 < length bs → is_plain (get_or bs 0 0) ≡ false) → begins_plain cs ≡ false
first_of [] bs e f = refl
first_of (c ∷ cs) bs e f =
    let filled : 0 < length bs = filled_by c cs bs e in
    let mark = f filled in
    let same = char_from_byte bs (encode_utf8_all cs) c (sym e) (mark_is_ascii (get_or bs 0 0) mark) filled in
    ap is_plain same ∙ mark

-- a text begins with the character that its first byte spells, where that is ASCII
pub first_is_mark : (bs : List ℕ) → IsUtf8 bs → (0 < length bs → is_plain (get_or bs 0 0) ≡ false) → begins_plain (chars bs) ≡ false
first_is_mark bs u f = first_of (chars bs) bs (encodes-chars bs u) f

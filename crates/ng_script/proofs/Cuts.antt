-- Bytes up to the end of a part, and the characters that they spell.
use Rattle.std.proofs.Common.{arith, length, get_or, ◌≡◌, ◌<◌, ◌++◌, ℕ, Bool, true, false, not, nat_lt, List, [], ◌∷◌, encode_utf8, encode_utf8_all, sym, ap, ◌∙◌, refl, if◌then◌else◌}
use Rattle.std.proofs.lemmas.Bool.{and_parts}
use Rattle.std.proofs.lemmas.Grind.{common_steps}
use Rattle.std.proofs.lemmas.List.Folds.{list_all-append}
use Rattle.std.proofs.lemmas.Str.{encodes-chars, encode_ascii, char_from_byte, length-encode, len_utf8_bounds}
use Rattle.std.specs.Str.{chars, IsUtf8}
use Rattle.std.specs.List.{list_all}
use Rattle.ng_script.specs.Words.{ends, front, onward}
use Rattle.ng_script.specs.declared.cut.Part.{Part}
use Rattle.ng_script.specs.declared.cut.Part.TheVariants as part

abbrev pub goes_on : Part → ℕ → Bool
goes_on k c = not (ends k c)

abbrev pub begins_end : Part → List ℕ → Bool
begins_end k [] = true
begins_end k (c ∷ cs) = ends k c

-- what ends a part is ASCII
pub end_is_ascii : (k : Part) (c : ℕ) → ends k c ≡ true → c < 128
end_is_ascii part.Line c e = grind (arith, common_steps)
end_is_ascii part.Word c e = grind (arith, common_steps)

no_end_above : (k : Part) (c : ℕ) (b : Bool) → ends k c ≡ b → nat_lt c 128 ≡ false → not b ≡ true
no_end_above k c true e l = let low = end_is_ascii k c e in absurd (grind (arith, common_steps))
no_end_above k c false e l = refl

char_at : (k : Part) (c : ℕ) (ascii : Bool) → nat_lt c 128 ≡ ascii → list_all (goes_on k) (encode_utf8 c) ≡ true → goes_on k c ≡ true
char_at k c true l e =
    let below : c < 128 = grind (arith, common_steps) in
    let one = sym (ap (list_all (goes_on k)) (encode_ascii c below)) ∙ e in
    (and_parts (goes_on k c) true one).0
char_at k c false l e = no_end_above k c (ends k c) refl l

spelled_on : (k : Part) (cs : List ℕ) → list_all (goes_on k) (encode_utf8_all cs) ≡ true → list_all (goes_on k) cs ≡ true
spelled_on k [] e = refl
spelled_on k (c ∷ cs) e =
    let both = and_parts _ _ (sym (list_all-append (goes_on k) (encode_utf8 c) (encode_utf8_all cs)) ∙ e) in
    let first = char_at k c (nat_lt c 128) refl both.0 in
    let others = spelled_on k cs both.1 in
    grind (arith, common_steps)

pub chars_on : (k : Part) (bs : List ℕ) → IsUtf8 bs → list_all (goes_on k) bs ≡ true → list_all (goes_on k) (chars bs) ≡ true
chars_on k bs u e = spelled_on k (chars bs) (ap (list_all (goes_on k)) (encodes-chars bs u) ∙ e)

filled_by : (c : ℕ) (cs bs : List ℕ) → encode_utf8_all (c ∷ cs) ≡ bs → 0 < length bs
filled_by c cs bs e =
    let one = (len_utf8_bounds c).0 in
    let len = length-encode c in
    let all = ap length e in
    grind (arith, common_steps)

first_of : (k : Part) (cs bs : List ℕ) → encode_utf8_all cs ≡ bs → (0 < length bs → ends k (get_or bs 0 0) ≡ true) → begins_end k cs ≡ true
first_of k [] bs e f = refl
first_of k (c ∷ cs) bs e f =
    let filled : 0 < length bs = filled_by c cs bs e in
    let mark = f filled in
    let same = char_from_byte bs (encode_utf8_all cs) c (sym e) (end_is_ascii k (get_or bs 0 0) mark) filled in
    ap (ends k) same ∙ mark

pub first_ends : (k : Part) (bs : List ℕ) → IsUtf8 bs → (0 < length bs → ends k (get_or bs 0 0) ≡ true) → begins_end k (chars bs) ≡ true
first_ends k bs u f = first_of k (chars bs) bs (encodes-chars bs u) f

ended_front : (k : Part) (ys : List ℕ) → begins_end k ys ≡ true → (front (ends k) ys ≡ []) × (onward (ends k) ys ≡ ys)
ended_front k [] e = (refl, refl)
ended_front k (c ∷ cs) e = by (ends k c) e
  where
    by : (b : Bool) → b ≡ true → ((if b then [] else c ∷ front (ends k) cs) ≡ []) × ((if b then c ∷ cs else onward (ends k) cs) ≡ c ∷ cs)
    by true h = (refl, refl)
    by false h = absurd (cc)

-- a text that is cut before the first character that ends a part
pub cut_at : (k : Part) (xs ys : List ℕ) → list_all (goes_on k) xs ≡ true → begins_end k ys ≡ true → (front (ends k) (xs ++ ys) ≡ xs) × (onward (ends k) (xs ++ ys) ≡ ys)
cut_at k [] ys a e = ended_front k ys e
cut_at k (c ∷ cs) ys a e =
    let both = and_parts _ _ a in
    by (ends k c) both.0 (cut_at k cs ys both.1 e)
  where
    by : (b : Bool) → not b ≡ true → (front (ends k) (cs ++ ys) ≡ cs) × (onward (ends k) (cs ++ ys) ≡ ys)
        → ((if b then [] else c ∷ front (ends k) (cs ++ ys)) ≡ c ∷ cs) × ((if b then c ∷ (cs ++ ys) else onward (ends k) (cs ++ ys)) ≡ ys)
    by true h i = absurd (cc)
    by false h i = (ap (λ t. c ∷ t) i.0, i.1)

-- Documents that are text, and others.
use Rattle.std.proofs.Common.{◌≡◌, ◌≤◌, ◌<◌, ℕ, suc, List, [], ◌∷◌, length, take, Bool, true, false, ◌&&◌, ◌==◌, refl, ap, ◌∙◌, sym, arith}
use Rattle.std.proofs.lemmas.Bool.Decides.{nat_tests}
use Rattle.std.proofs.lemmas.List.{take_all}
use Rattle.std.proofs.lemmas.Str.{is_utf8-from_IsUtf8, IsUtf8-from_is_utf8, utf8_valid_len-IsUtf8}
use Rattle.std.specs.Prelude.{Result, Err, if◌then◌else◌}
use Rattle.std.specs.Str.{IsUtf8, is_utf8}
use Rattle.std.specs.Str.Lossy.{utf8_valid_len}
use Rattle.ng_base.proofs.Binds.{if_true, if_false}
use Rattle.ng_markup.specs.Forest.{Forest}
use Rattle.ng_tags.specs.Free.{fault}
use Rattle.ng_tags.specs.declared.fault.HtmlFault.{HtmlFault}
use Rattle.ng_tags.specs.declared.fault.HtmlKind.TheVariants as kind
use Rattle.ng_html.specs.Reading.{before_zero, sound_len, cells_of, is_plain_text, read_cells, read_bytes}
use Rattle.ng_html.specs.Grammar.{IsPlainText}

abbrev pub Answer : Type 0
Answer = Result (Forest × List ℕ) HtmlFault

abbrev pub no_answer : List ℕ → Answer
no_answer bs = Err (fault kind.Utf8 (sound_len bs))

both_true : (a b : Bool) → (a && b) ≡ true → (a ≡ true) × (b ≡ true)
both_true true b h = (refl, h)
both_true false b h = absurd (cc)

both : (a b : Bool) → a ≡ true → b ≡ true → (a && b) ≡ true
both true b h i = i
both false b h i = absurd (cc)

not_so : (b : Bool) → (b ≡ true → ⊥) → b ≡ false
not_so true h = absurd (h refl)
not_so false h = refl

pub plain_of : (bs : List ℕ) → is_plain_text bs ≡ true → IsPlainText bs
plain_of bs h =
    let b = both_true (is_utf8 bs) (before_zero bs == length bs) h in
    (IsUtf8-from_is_utf8 bs b.0, grind (arith, nat_tests, b.1))

pub of_plain : (bs : List ℕ) → IsPlainText bs → is_plain_text bs ≡ true
of_plain bs h = both (is_utf8 bs) (before_zero bs == length bs) (is_utf8-from_IsUtf8 bs h.0) (grind (arith, nat_tests, h.1))

pub not_plain : (bs : List ℕ) → is_plain_text bs ≡ false → IsPlainText bs → ⊥
not_plain bs h p = let t = of_plain bs p in cc

-- a text is read by its cells
pub plain_read : (bs : List ℕ) → IsPlainText bs → read_bytes bs ≡ read_cells (length bs) (cells_of bs)
unfolding read_bytes
plain_read bs h = if_true (is_plain_text bs) (read_cells (length bs) (cells_of bs)) (no_answer bs) (of_plain bs h)

pub no_plain_read : (bs : List ℕ) → (IsPlainText bs → ⊥) → read_bytes bs ≡ no_answer bs
unfolding read_bytes
no_plain_read bs h = if_false (is_plain_text bs) (read_cells (length bs) (cells_of bs)) (no_answer bs) (not_so (is_plain_text bs) (λ t. h (plain_of bs t)))

-- an ill-formed sequence, where zero bytes may stand before
pub ill_formed_read : (bs : List ℕ) (n : ℕ) → (IsUtf8 bs → ⊥) → n ≡ utf8_valid_len bs → read_bytes bs ≡ Err (fault kind.Utf8 (before_zero (take n bs)))
ill_formed_read bs n h e = no_plain_read bs (λ p. h p.0) ∙ ap (λ m. let q : Answer = Err (fault kind.Utf8 (before_zero (take m bs))) in q) (sym e)

pub sound_utf8 : (bs : List ℕ) → IsUtf8 bs → sound_len bs ≡ before_zero bs
sound_utf8 bs u = ap (λ n. before_zero (take n bs)) (utf8_valid_len-IsUtf8 bs u) ∙ ap before_zero (take_all (length bs) bs (omega arith))

-- a zero byte in a text
pub zero_read : (bs : List ℕ) → IsUtf8 bs → before_zero bs < length bs → read_bytes bs ≡ Err (fault kind.Utf8 (before_zero bs))
zero_read bs u h = no_plain_read bs (λ p. omega (arith, h, p.1)) ∙ ap (λ m. let q : Answer = Err (fault kind.Utf8 m) in q) (sound_utf8 bs u)

pub before_zero_le : (bs : List ℕ) → before_zero bs ≤ length bs
before_zero_le [] = omega arith
before_zero_le (b ∷ bs) = by (b == 0) (before_zero_le bs)
  where
    by : (t : Bool) → before_zero bs ≤ length bs → (if t then 0 else suc (before_zero bs)) ≤ length (b ∷ bs)
    by true h = omega arith
    by false h = omega (arith, h)

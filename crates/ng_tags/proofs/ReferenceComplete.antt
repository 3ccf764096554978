-- What spells a character is read as it.
use Rattle.std.proofs.Common.{◌≡◌, ℕ, true, false, List, [], ◌∷◌, ◌++◌, refl, ap, ◌∙◌, sym, subst, arith, append_assoc}
use Rattle.std.proofs.lemmas.Bool.Decides.{nat_tests}
use Rattle.std.specs.Prelude.{Option, None, Some, if◌then◌else◌, ◌==◌}
use Rattle.std.specs.List.{list_all}
use Rattle.ng_base.specs.Cells.{Cell}
use Rattle.ng_base.proofs.Binds.{if_true, if_false}
use Rattle.std.specs.Char.{is_ascii_alphabetic, is_ascii_digit}
use Rattle.ng_tags.specs.References.{Read, named_character, is_character, is_digit_of, digit_run, numbered, number_from, number_at, behind_sign, letter_run, read_so, named, name_from, reference, or_itself, character}
use Rattle.ng_tags.specs.Spelling.{chars_of, digits_value, BeginsNot, Names, by_name, by_number, by_hexadecimal}
use Rattle.ng_tags.specs.declared.base.Base.{Base}
use Rattle.ng_tags.specs.declared.base.Base.TheVariants as base
use Rattle.ng_tags.proofs.Runs.{code_is, both_true, past_on, letter_run_on, digit_run_on}

letter_no_sign : (c : ℕ) → is_ascii_alphabetic c ≡ true → (c == 35) ≡ false
letter_no_sign c h = grind (arith, nat_tests)

pub digit_no_x : (c : ℕ) → is_ascii_digit c ≡ true → (c == 120) ≡ false
digit_no_x c h = grind (arith, nat_tests)

semicolon_no_letter : (z : Cell) (cs : List Cell) → z.0 ≡ 59 → BeginsNot is_ascii_alphabetic (z ∷ cs)
semicolon_no_letter z cs h = subst (λ (n : ℕ). is_ascii_alphabetic n ≡ false) (sym h) refl

semicolon_no_digit : (b : Base) (z : Cell) (cs : List Cell) → z.0 ≡ 59 → BeginsNot (is_digit_of b) (z ∷ cs)
semicolon_no_digit base.Decimal z cs h = subst (λ (n : ℕ). is_digit_of base.Decimal n ≡ false) (sym h) refl
semicolon_no_digit base.Hexadecimal z cs h = subst (λ (n : ℕ). is_digit_of base.Hexadecimal n ≡ false) (sym h) refl

no_empty_name : (x : ℕ) → named_character [] ≡ Some x → ⊥
unfolding named_character
no_empty_name x h = cc (h)

number_on : (b : Base) (d : Cell) (w : List Cell) (z : Cell) (cs : List Cell) → list_all (is_digit_of b) (chars_of (d ∷ w)) ≡ true → is_character (digits_value b 0 (chars_of (d ∷ w))) ≡ true → z.0 ≡ 59 →
    number_at b (d ∷ (w ++ z ∷ cs)) ≡ Some (Some (digits_value b 0 (chars_of (d ∷ w))), cs)
number_on b d w z cs h i e =
    let n = digits_value b 0 (chars_of (d ∷ w)) in
    let t = both_true (is_digit_of b d.0) (list_all (is_digit_of b) (chars_of w)) h in
    if_true (is_digit_of b d.0) (Some (number_from (digit_run b 0 (d ∷ (w ++ z ∷ cs))))) None t.0
    ∙ (ap (λ (r : ℕ × List Cell). Some (number_from r)) (digit_run_on b 0 (d ∷ w) (z ∷ cs) h (semicolon_no_digit b z cs e))
    ∙ (ap (λ (o : Option (List Cell)). Some (numbered n (z ∷ cs) o)) (past_on 59 z cs e)
    ∙ ap (λ (o : Option ℕ). let q : Option Read = Some (o, cs) in q) (if_true (is_character n) (Some n) None i)))

pub reference_on : (x : ℕ) (us cs : List Cell) → Names x us → reference (us ++ cs) ≡ Some (Some x, cs)
reference_on x us cs (by_name y [] z h i e) = absurd (no_empty_name y i)
reference_on x us cs (by_name y (c ∷ w) z h i e) =
    let n = chars_of (c ∷ w) in
    let t = both_true (is_ascii_alphabetic c.0) (list_all is_ascii_alphabetic (chars_of w)) h in
    let whole : (w ++ z ∷ []) ++ cs ≡ w ++ z ∷ cs = append_assoc w (z ∷ []) cs in
    ap (λ xs. reference (c ∷ xs)) whole
    ∙ (if_false (c.0 == 35) (behind_sign (w ++ z ∷ cs)) (if is_ascii_alphabetic c.0 then name_from (letter_run (c.0 ∷ []) (w ++ z ∷ cs)) else None) (letter_no_sign c.0 t.0)
    ∙ (if_true (is_ascii_alphabetic c.0) (name_from (letter_run (c.0 ∷ []) (w ++ z ∷ cs))) None t.0
    ∙ (ap name_from (letter_run_on (c.0 ∷ []) w (z ∷ cs) t.1 (semicolon_no_letter z cs e))
    ∙ (ap (named n) (past_on 59 z cs e)
    ∙ ap (λ (o : Option ℕ). read_so o cs) i))))
reference_on x us cs (by_number a d w z i h k e) =
    let t = both_true (is_digit_of base.Decimal d.0) (list_all (is_digit_of base.Decimal) (chars_of w)) h in
    let more = d ∷ (w ++ z ∷ cs) in
    ap (λ xs. reference (a ∷ d ∷ xs)) (append_assoc w (z ∷ []) cs)
    ∙ (if_true (a.0 == 35) (behind_sign more) (if is_ascii_alphabetic a.0 then name_from (letter_run (a.0 ∷ []) more) else None) (code_is a.0 35 i)
    ∙ (if_false (d.0 == 120) (number_at base.Hexadecimal (w ++ z ∷ cs)) (number_at base.Decimal more) (digit_no_x d.0 t.0)
    ∙ number_on base.Decimal d w z cs h k e))
reference_on x us cs (by_hexadecimal a b d w z i j h k e) =
    let more = d ∷ (w ++ z ∷ cs) in
    ap (λ xs. reference (a ∷ b ∷ d ∷ xs)) (append_assoc w (z ∷ []) cs)
    ∙ (if_true (a.0 == 35) (behind_sign (b ∷ more)) (if is_ascii_alphabetic a.0 then name_from (letter_run (a.0 ∷ []) (b ∷ more)) else None) (code_is a.0 35 i)
    ∙ (if_true (b.0 == 120) (number_at base.Hexadecimal more) (number_at base.Decimal (b ∷ more)) (code_is b.0 120 j)
    ∙ number_on base.Hexadecimal d w z cs h k e))

pub plain_on : (c : ℕ) (cs : List Cell) → (c == 38) ≡ false → character c cs ≡ (Some c, cs)
plain_on c cs h = if_false (c == 38) (or_itself cs (reference cs)) (Some c, cs) h

pub referred_on : (c x : ℕ) (us cs : List Cell) → c ≡ 38 → Names x us → character c (us ++ cs) ≡ (Some x, cs)
referred_on c x us cs h n = if_true (c == 38) (or_itself (us ++ cs) (reference (us ++ cs))) (Some c, us ++ cs) (code_is c 38 h) ∙ ap (or_itself (us ++ cs)) (reference_on x us cs n)

pub alone_on : (c : ℕ) (cs : List Cell) → c ≡ 38 → reference cs ≡ None → character c cs ≡ (Some 38, cs)
alone_on c cs h n = if_true (c == 38) (or_itself cs (reference cs)) (Some c, cs) (code_is c 38 h) ∙ ap (or_itself cs) n

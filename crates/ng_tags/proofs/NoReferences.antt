-- An `&` that begins no reference.
use Rattle.std.proofs.Common.{◌≡◌, ℕ, true, List, [], ◌∷◌, refl, ap, ◌∙◌, sym, inl, inr}
use Rattle.std.specs.Prelude.{Option, None, Some, if◌then◌else◌, ◌==◌}
use Rattle.ng_base.specs.Cells.{Cell}
use Rattle.ng_base.proofs.Binds.{chosen, if_true, if_false}
use Rattle.std.specs.Char.{is_ascii_alphabetic}
use Rattle.ng_tags.specs.Skips.{past}
use Rattle.ng_tags.specs.References.{Read, named_character, is_digit_of, digit_run, number_from, number_at, behind_sign, letter_run, read_so, named, name_from, reference}
use Rattle.ng_tags.specs.Spelling.{BeginsNumber, with_digit_first, with_sign_first, NoReference}
use Rattle.ng_tags.specs.declared.base.Base.{Base}
use Rattle.ng_tags.specs.declared.base.Base.TheVariants as base
use Rattle.ng_tags.proofs.Runs.{is_code, code_is}
use Rattle.ng_tags.proofs.ReferenceSound.{reference_is}
use Rattle.ng_tags.proofs.ReferenceComplete.{reference_on, digit_no_x}

abbrev some_in : Option Read → Option ℕ → Option ℕ
some_in None o = o
some_in (Some r) o = r.0

no_so : (o : Option ℕ) (more rest : List Cell) → read_so o more ≡ Some (None, rest) → ⊥
no_so None more rest h = cc (h)
no_so (Some y) more rest h = let e : Some y ≡ None = ap (λ (r : Option Read). some_in r None) h in cc (e)

no_named : (n : List ℕ) (o : Option (List Cell)) (rest : List Cell) → named n o ≡ Some (None, rest) → ⊥
no_named n None rest h = cc (h)
no_named n (Some more) rest h = no_so (named_character n) more rest h

number_first : (b : Base) (c : Cell) (cs : List Cell) (r : Read) → number_at b (c ∷ cs) ≡ Some r → is_digit_of b c.0 ≡ true
number_first b c cs r h =
    elim (chosen (is_digit_of b c.0) (Some (number_from (digit_run b 0 (c ∷ cs)))) None (Some r) h) [
      | inl g ↦ g.0
      | inr g ↦ absurd (cc (g.1))
    ]

hexadecimal_first : (a b : Cell) (cs : List Cell) (r : Read) → a.0 ≡ 35 → b.0 ≡ 120 → number_at base.Hexadecimal cs ≡ Some r → BeginsNumber (a ∷ b ∷ cs)
hexadecimal_first a b [] r i k h = absurd (cc (h))
hexadecimal_first a b (d ∷ cs) r i k h = with_sign_first a b d cs i k (number_first base.Hexadecimal d cs r h)

sign_begins : (a : Cell) (cs : List Cell) (r : Read) → a.0 ≡ 35 → behind_sign cs ≡ Some r → BeginsNumber (a ∷ cs)
sign_begins a [] r i h = absurd (cc (h))
sign_begins a (c ∷ cs) r i h =
    elim (chosen (c.0 == 120) (number_at base.Hexadecimal cs) (number_at base.Decimal (c ∷ cs)) (Some r) h) [
      | inl g ↦ hexadecimal_first a c cs r i (is_code c.0 120 g.0) g.1
      | inr g ↦ with_digit_first a c cs i (number_first base.Decimal c cs r g.1)
    ]

-- a reference that is refused is a number
pub number_begins : (cs rest : List Cell) → reference cs ≡ Some (None, rest) → BeginsNumber cs
number_begins [] rest h = absurd (cc (h))
number_begins (c ∷ cs) rest h =
    let r = letter_run (c.0 ∷ []) cs in
    elim (chosen (c.0 == 35) (behind_sign cs) (if is_ascii_alphabetic c.0 then name_from r else None) (Some (None, rest)) h) [
      | inl g ↦ sign_begins c cs (None, rest) (is_code c.0 35 g.0) g.1
      | inr g ↦ elim (chosen (is_ascii_alphabetic c.0) (name_from r) None (Some (None, rest)) g.1) [
        | inl l ↦ absurd (no_named r.0 (past 59 r.1) rest l.1)
        | inr l ↦ absurd (cc (l.1))
      ]
    ]

-- what begins a number is a reference
pub number_refers : (cs : List Cell) → BeginsNumber cs → (r : Read) × (reference cs ≡ Some r)
number_refers cs (with_digit_first a d ds i k) =
    let r = number_from (digit_run base.Decimal 0 (d ∷ ds)) in (
      r,
      if_true (a.0 == 35) (behind_sign (d ∷ ds)) (if is_ascii_alphabetic a.0 then name_from (letter_run (a.0 ∷ []) (d ∷ ds)) else None) (code_is a.0 35 i)
          ∙ (if_false (d.0 == 120) (number_at base.Hexadecimal ds) (number_at base.Decimal (d ∷ ds)) (digit_no_x d.0 k)
          ∙ if_true (is_digit_of base.Decimal d.0) (Some r) None k),
    )
number_refers cs (with_sign_first a b d ds i j k) =
    let r = number_from (digit_run base.Hexadecimal 0 (d ∷ ds)) in (
      r,
      if_true (a.0 == 35) (behind_sign (b ∷ d ∷ ds)) (if is_ascii_alphabetic a.0 then name_from (letter_run (a.0 ∷ []) (b ∷ d ∷ ds)) else None) (code_is a.0 35 i)
          ∙ (if_true (b.0 == 120) (number_at base.Hexadecimal (d ∷ ds)) (number_at base.Decimal (b ∷ d ∷ ds)) (code_is b.0 120 j)
          ∙ if_true (is_digit_of base.Hexadecimal d.0) (Some r) None k),
    )

pub none_spelled : (cs : List Cell) → reference cs ≡ None → NoReference cs
none_spelled cs h = record {
  no_name = λ x vs more e n. let f : Some (Some x, more) ≡ None = sym (reference_on x vs more n) ∙ (ap reference (sym e) ∙ h) in cc (f);
  no_number = λ b. let r = number_refers cs b in let f : Some r.0 ≡ None = sym r.1 ∙ h in cc (f);
}

none_known : (cs : List Cell) (o : Option Read) → reference cs ≡ o → NoReference cs → o ≡ None
none_known cs None e n = refl
none_known cs (Some (None, rest)) e n = absurd (n.no_number (number_begins cs rest e))
none_known cs (Some (Some x, rest)) e n = let r = reference_is x cs rest e in absurd (n.no_name x r.us rest r.whole r.names)

pub none_read : (cs : List Cell) → NoReference cs → reference cs ≡ None
none_read cs n = none_known cs (reference cs) refl n

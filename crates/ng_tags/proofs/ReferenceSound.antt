-- What is read as a character is spelled so.
use Rattle.std.proofs.Common.{◌≡◌, ℕ, true, false, List, [], ◌∷◌, ◌++◌, refl, ap, ◌∙◌, sym, subst, inl, inr, append_assoc}
use Rattle.std.specs.Prelude.{Option, None, Some, if◌then◌else◌, ◌==◌}
use Rattle.std.specs.List.{list_all}
use Rattle.ng_base.specs.Cells.{Cell}
use Rattle.ng_base.proofs.Binds.{chosen, if_true}
use Rattle.std.specs.Char.{is_ascii_alphabetic}
use Rattle.ng_tags.specs.Skips.{past}
use Rattle.ng_tags.specs.References.{Read, named_character, is_character, is_digit_of, digit_value, with_digit, digit_run, numbered, number_from, number_at, behind_sign, letter_run, read_so, named, name_from, reference, or_itself, character}
use Rattle.ng_tags.specs.Spelling.{chars_of, digits_value, Names, by_name, by_number, by_hexadecimal}
use Rattle.ng_tags.specs.declared.base.Base.{Base}
use Rattle.ng_tags.specs.declared.base.Base.TheVariants as base
use Rattle.ng_tags.proofs.Runs.{is_code, both, map-same, letter_runs, digit_runs, past_is}

-- a number and its `;`
pub record Numbered (b : Base) (x : ℕ) (cs rest : List Cell) : Type 0 where
  pub d : Cell
  pub w : List Cell
  pub z : Cell
  pub whole : cs ≡ d ∷ (w ++ z ∷ rest)
  pub digits : list_all (is_digit_of b) (chars_of (d ∷ w)) ≡ true
  pub value : x ≡ digits_value b 0 (chars_of (d ∷ w))
  pub is_one : is_character (digits_value b 0 (chars_of (d ∷ w))) ≡ true
  pub ends : z.0 ≡ 59

abbrev first_of : ℕ → Option Read → Option ℕ
first_of x None = Some x
first_of x (Some r) = r.0

abbrev rest_of : Option Read → List Cell
rest_of None = []
rest_of (Some r) = r.1

abbrev or_zero : Option ℕ → ℕ
or_zero None = 0
or_zero (Some x) = x

valued : (n x : ℕ) → (if is_character n then Some n else None) ≡ Some x → (is_character n ≡ true) × (x ≡ n)
valued n x h =
    elim (chosen (is_character n) (Some n) None (Some x) h) [
      | inl g ↦ (g.0, sym (ap or_zero g.1))
      | inr g ↦ absurd (cc (g.1))
    ]

numbered_is : (n x : ℕ) (cs rest : List Cell) (o : Option (List Cell)) → past 59 cs ≡ o → numbered n cs o ≡ (Some x, rest) → (past 59 cs ≡ Some rest) × (is_character n ≡ true) × (x ≡ n)
numbered_is n x cs rest None e h = let f : None ≡ Some x = ap (λ (r : Read). r.0) h in absurd (cc (f))
numbered_is n x cs rest (Some more) e h =
    let v = valued n x (ap (λ (r : Read). r.0) h) in
    (e ∙ ap Some (ap (λ (r : Read). r.1) h), v.0, v.1)

number_is : (b : Base) (x : ℕ) (cs rest : List Cell) → number_at b cs ≡ Some (Some x, rest) → Numbered b x cs rest
number_is b x [] rest h = absurd (cc)
number_is b x (c ∷ cs) rest h =
    let r = digit_run b 0 (c ∷ cs) in
    elim (chosen (is_digit_of b c.0) (Some (number_from r)) None (Some (Some x, rest)) h) [
      | inl g ↦
          let q : number_from r ≡ (Some x, rest) = cc (g.1) in
          let n = numbered_is r.0 x r.1 rest (past 59 r.1) refl q in
          let s = past_is 59 r.1 rest n.0 in
          let step : digit_run b 0 (c ∷ cs) ≡ digit_run b (with_digit b 0 (digit_value c.0)) cs = if_true (is_digit_of b c.0) (digit_run b (with_digit b 0 (digit_value c.0)) cs) (0, c ∷ cs) g.0 in
          let d = digit_runs b (with_digit b 0 (digit_value c.0)) r.0 cs r.1 (sym step) in
          record {
            d = c;
            w = d.w;
            z = s.0;
            whole = ap (λ xs. c ∷ xs) (d.whole ∙ ap (λ xs. d.w ++ xs) s.1);
            digits = both (is_digit_of b c.0) (list_all (is_digit_of b) (chars_of d.w)) g.0 d.all;
            value = n.2 ∙ d.value;
            is_one = ap is_character (sym d.value) ∙ n.1;
            ends = s.2;
          }
      | inr g ↦ absurd (cc (g.1))
    ]

-- a reference behind its `&`
pub record Referred (x : ℕ) (cs rest : List Cell) : Type 0 where
  pub us : List Cell
  pub whole : cs ≡ us ++ rest
  pub names : Names x us

sign_is : (x : ℕ) (a : Cell) (cs rest : List Cell) → a.0 ≡ 35 → behind_sign cs ≡ Some (Some x, rest) → Referred x (a ∷ cs) rest
sign_is x a [] rest i h = absurd (cc)
sign_is x a (c ∷ cs) rest i h =
    elim (chosen (c.0 == 120) (number_at base.Hexadecimal cs) (number_at base.Decimal (c ∷ cs)) (Some (Some x, rest)) h) [
      | inl g ↦
          let n = number_is base.Hexadecimal x cs rest g.1 in
          record {
            us = a ∷ c ∷ n.d ∷ (n.w ++ n.z ∷ []);
            whole = ap (λ xs. a ∷ c ∷ xs) (n.whole ∙ ap (λ xs. n.d ∷ xs) (sym (append_assoc n.w (n.z ∷ []) rest)));
            names = subst (λ (y : ℕ). Names y (a ∷ c ∷ n.d ∷ (n.w ++ n.z ∷ []))) (sym n.value) (by_hexadecimal a c n.d n.w n.z i (is_code c.0 120 g.0) n.digits n.is_one n.ends);
          }
      | inr g ↦
          let n = number_is base.Decimal x (c ∷ cs) rest g.1 in
          record {
            us = a ∷ n.d ∷ (n.w ++ n.z ∷ []);
            whole = ap (λ xs. a ∷ xs) (n.whole ∙ ap (λ xs. n.d ∷ xs) (sym (append_assoc n.w (n.z ∷ []) rest)));
            names = subst (λ (y : ℕ). Names y (a ∷ n.d ∷ (n.w ++ n.z ∷ []))) (sym n.value) (by_number a n.d n.w n.z i n.digits n.is_one n.ends);
          }
    ]

so_is : (o : Option ℕ) (x : ℕ) (rest more : List Cell) → read_so o more ≡ Some (Some x, rest) → (o ≡ Some x) × (more ≡ rest)
so_is None x rest more h = absurd (cc)
so_is (Some y) x rest more h = (ap (first_of x) h, ap rest_of h)

named_is : (n : List ℕ) (x : ℕ) (cs rest : List Cell) (o : Option (List Cell)) → past 59 cs ≡ o → named n o ≡ Some (Some x, rest) → (past 59 cs ≡ Some rest) × (named_character n ≡ Some x)
named_is n x cs rest None e h = absurd (cc (h))
named_is n x cs rest (Some more) e h = let s = so_is (named_character n) x rest more h in (e ∙ ap Some s.1, s.0)

pub reference_is : (x : ℕ) (cs rest : List Cell) → reference cs ≡ Some (Some x, rest) → Referred x cs rest
reference_is x [] rest h = absurd (cc)
reference_is x (c ∷ cs) rest h =
    let r = letter_run (c.0 ∷ []) cs in
    elim (chosen (c.0 == 35) (behind_sign cs) (if is_ascii_alphabetic c.0 then name_from r else None) (Some (Some x, rest)) h) [
      | inl g ↦ sign_is x c cs rest (is_code c.0 35 g.0) g.1
      | inr g ↦ elim (chosen (is_ascii_alphabetic c.0) (name_from r) None (Some (Some x, rest)) g.1) [
        | inl l ↦
            let n = named_is r.0 x r.1 rest (past 59 r.1) refl l.1 in
            let s = past_is 59 r.1 rest n.0 in
            let w = letter_runs (c.0 ∷ []) r.0 cs r.1 refl in
            let name : r.0 ≡ chars_of (c ∷ w.w) = w.read ∙ ap (λ xs. c.0 ∷ xs) (map-same (chars_of w.w)) in
            record {
              us = (c ∷ w.w) ++ s.0 ∷ [];
              whole = ap (λ xs. c ∷ xs) (w.whole ∙ (ap (λ xs. w.w ++ xs) s.1 ∙ sym (append_assoc w.w (s.0 ∷ []) rest)));
              names = by_name x (c ∷ w.w) s.0 (both (is_ascii_alphabetic c.0) (list_all is_ascii_alphabetic (chars_of w.w)) l.0 w.all) (ap named_character (sym name) ∙ n.1) s.2;
            }
        | inr l ↦ absurd (cc (l.1))
      ]
    ]

-- one character of a text
pub data CharacterRead (c : Cell) (cs : List Cell) : ℕ → List Cell → Type 0 where
  plain : (c.0 == 38) ≡ false → CharacterRead c cs c.0 cs
  referred : (x : ℕ) (rest : List Cell) → c.0 ≡ 38 → Referred x cs rest → CharacterRead c cs x rest
  alone : c.0 ≡ 38 → reference cs ≡ None → CharacterRead c cs 38 cs

itself_is : (c : Cell) (cs : List Cell) (x : ℕ) (rest : List Cell) (o : Option Read) → c.0 ≡ 38 → reference cs ≡ o → or_itself cs o ≡ (Some x, rest) → CharacterRead c cs x rest
itself_is c cs x rest None i e h =
    let y : x ≡ 38 = sym (ap or_zero (ap (λ (r : Read). r.0) h)) in
    let r : cs ≡ rest = ap (λ (r : Read). r.1) h in
    subst (λ (q : List Cell). CharacterRead c cs x q) r (subst (λ (n : ℕ). CharacterRead c cs n cs) (sym y) (alone i e))
itself_is c cs x rest (Some r) i e h = referred x rest i (reference_is x cs rest (e ∙ ap Some h))

pub character_is : (c : Cell) (cs : List Cell) (x : ℕ) (rest : List Cell) → character c.0 cs ≡ (Some x, rest) → CharacterRead c cs x rest
character_is c cs x rest h =
    elim (chosen (c.0 == 38) (or_itself cs (reference cs)) (Some c.0, cs) (Some x, rest) h) [
      | inl g ↦ itself_is c cs x rest (reference cs) (is_code c.0 38 g.0) refl g.1
      | inr g ↦
          let y : c.0 ≡ x = ap or_zero (ap (λ (r : Read). r.0) g.1) in
          let r : cs ≡ rest = ap (λ (r : Read). r.1) g.1 in
          subst (λ (q : List Cell). CharacterRead c cs x q) r (subst (λ (n : ℕ). CharacterRead c cs n cs) y (plain g.0))
    ]

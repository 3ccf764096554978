-- The front of the cells, all of one kind.
use Rattle.std.proofs.Common.{◌≡◌, ℕ, Bool, true, false, not, ◌&&◌, ◌||◌, List, [], ◌∷◌, ◌++◌, map, refl, ap, ◌∙◌, sym, subst, arith, inl, inr, append_assoc, append-nil}
use Rattle.std.proofs.lemmas.Bool.Decides.{nat_tests}
use Rattle.std.specs.Prelude.{None, Some, ◌==◌}
use Rattle.std.specs.List.{list_all}
use Rattle.ng_base.specs.Cells.{Cell}
use Rattle.ng_base.proofs.Binds.{chosen, if_true, if_false}
use Rattle.std.specs.Char.{is_ascii_alphabetic}
use Rattle.ng_tags.specs.Letters.{is_in_name, is_space, is_in_attribute, lower}
use Rattle.ng_tags.specs.Skips.{past_spaces, past, name_run}
use Rattle.ng_tags.specs.References.{letter_run, digit_run, with_digit, digit_value, is_digit_of}
use Rattle.ng_tags.specs.Attributes.{attribute_run}
use Rattle.ng_tags.specs.Spelling.{chars_of, digits_value, BeginsNot, AreSpaces}
use Rattle.ng_tags.specs.declared.base.Base.{Base}

pub is_code : (c n : ℕ) → (c == n) ≡ true → c ≡ n
is_code c n h = grind (arith, nat_tests)

pub code_is : (c n : ℕ) → c ≡ n → (c == n) ≡ true
code_is c n h = grind (arith, nat_tests)

pub both : (a b : Bool) → a ≡ true → b ≡ true → (a && b) ≡ true
both true b h i = i
both false b h i = absurd (cc)

pub both_true : (a b : Bool) → (a && b) ≡ true → (a ≡ true) × (b ≡ true)
both_true true b h = (refl, h)
both_true false b h = absurd (cc)

pub neither : (a b : Bool) → (a || b) ≡ false → (a ≡ false) × (b ≡ false)
neither true b h = absurd (cc)
neither false b h = (refl, h)

pub none : (a b : Bool) → a ≡ false → b ≡ false → (a || b) ≡ false
none true b h i = absurd (cc)
none false b h i = i

pub not_true : (b : Bool) → b ≡ false → not b ≡ true
not_true true h = absurd (cc)
not_true false h = refl

pub not_false : (b : Bool) → not b ≡ true → b ≡ false
not_false true h = absurd (cc)
not_false false h = refl

-- a front of characters of one kind, as far as they go
pub record Run (is : ℕ → Bool) (f : ℕ → ℕ) (before after : List ℕ) (cs rest : List Cell) : Type 0 where
  pub w : List Cell
  pub whole : cs ≡ w ++ rest
  pub all : list_all is (chars_of w) ≡ true
  pub read : after ≡ before ++ map f (chars_of w)
  pub stops : BeginsNot is rest

no_more : (is : ℕ → Bool) (f : ℕ → ℕ) (n m : List ℕ) (cs rest : List Cell) → n ≡ m → cs ≡ rest → BeginsNot is cs → Run is f n m cs rest
no_more is f n m cs rest h i s = record { w = []; whole = i; all = refl; read = sym h ∙ sym (append-nil n); stops = subst (BeginsNot is) i s }

one_more : (is : ℕ → Bool) (f : ℕ → ℕ) (n m : List ℕ) (c : Cell) (cs rest : List Cell) → is c.0 ≡ true → Run is f (n ++ f c.0 ∷ []) m cs rest → Run is f n m (c ∷ cs) rest
one_more is f n m c cs rest h r = record {
  w = c ∷ r.w;
  whole = ap (λ xs. c ∷ xs) r.whole;
  all = both (is c.0) (list_all is (chars_of r.w)) h r.all;
  read = r.read ∙ append_assoc n (f c.0 ∷ []) (map f (chars_of r.w));
  stops = r.stops;
}

pub name_runs : (n m : List ℕ) (cs rest : List Cell) → name_run n cs ≡ (m, rest) → Run is_in_name lower n m cs rest
name_runs n m [] rest h = no_more is_in_name lower n m [] rest (ap (λ p. p.0) h) (ap (λ p. p.1) h) tt
name_runs n m (c ∷ cs) rest h =
    elim (chosen (is_in_name c.0) (name_run (n ++ lower c.0 ∷ []) cs) (n, c ∷ cs) (m, rest) h) [
      | inl g ↦ one_more is_in_name lower n m c cs rest g.0 (name_runs (n ++ lower c.0 ∷ []) m cs rest g.1)
      | inr g ↦ no_more is_in_name lower n m (c ∷ cs) rest (ap (λ p. p.0) g.1) (ap (λ p. p.1) g.1) g.0
    ]

pub attribute_runs : (n m : List ℕ) (cs rest : List Cell) → attribute_run n cs ≡ (m, rest) → Run is_in_attribute lower n m cs rest
attribute_runs n m [] rest h = no_more is_in_attribute lower n m [] rest (ap (λ p. p.0) h) (ap (λ p. p.1) h) tt
attribute_runs n m (c ∷ cs) rest h =
    elim (chosen (is_in_attribute c.0) (attribute_run (n ++ lower c.0 ∷ []) cs) (n, c ∷ cs) (m, rest) h) [
      | inl g ↦ one_more is_in_attribute lower n m c cs rest g.0 (attribute_runs (n ++ lower c.0 ∷ []) m cs rest g.1)
      | inr g ↦ no_more is_in_attribute lower n m (c ∷ cs) rest (ap (λ p. p.0) g.1) (ap (λ p. p.1) g.1) g.0
    ]

abbrev pub same : ℕ → ℕ
same c = c

pub map-same : (cs : List ℕ) → map same cs ≡ cs
map-same [] = refl
map-same (c ∷ cs) = ap (λ xs. c ∷ xs) (map-same cs)

pub letter_runs : (n m : List ℕ) (cs rest : List Cell) → letter_run n cs ≡ (m, rest) → Run is_ascii_alphabetic same n m cs rest
letter_runs n m [] rest h = no_more is_ascii_alphabetic same n m [] rest (ap (λ p. p.0) h) (ap (λ p. p.1) h) tt
letter_runs n m (c ∷ cs) rest h =
    elim (chosen (is_ascii_alphabetic c.0) (letter_run (n ++ c.0 ∷ []) cs) (n, c ∷ cs) (m, rest) h) [
      | inl g ↦ one_more is_ascii_alphabetic same n m c cs rest g.0 (letter_runs (n ++ c.0 ∷ []) m cs rest g.1)
      | inr g ↦ no_more is_ascii_alphabetic same n m (c ∷ cs) rest (ap (λ p. p.0) g.1) (ap (λ p. p.1) g.1) g.0
    ]

-- digits, as far as they go
pub record Digits (b : Base) (n m : ℕ) (cs rest : List Cell) : Type 0 where
  pub w : List Cell
  pub whole : cs ≡ w ++ rest
  pub all : list_all (is_digit_of b) (chars_of w) ≡ true
  pub value : m ≡ digits_value b n (chars_of w)

pub digit_runs : (b : Base) (n m : ℕ) (cs rest : List Cell) → digit_run b n cs ≡ (m, rest) → Digits b n m cs rest
digit_runs b n m [] rest h = record { w = []; whole = ap (λ p. p.1) h; all = refl; value = sym (ap (λ p. p.0) h) }
digit_runs b n m (c ∷ cs) rest h =
    elim (chosen (is_digit_of b c.0) (digit_run b (with_digit b n (digit_value c.0)) cs) (n, c ∷ cs) (m, rest) h) [
      | inl g ↦ let r = digit_runs b (with_digit b n (digit_value c.0)) m cs rest g.1 in
          record { w = c ∷ r.w; whole = ap (λ xs. c ∷ xs) r.whole; all = both (is_digit_of b c.0) (list_all (is_digit_of b) (chars_of r.w)) g.0 r.all; value = r.value }
      | inr g ↦ record { w = []; whole = ap (λ p. p.1) g.1; all = refl; value = sym (ap (λ p. p.0) g.1) }
    ]

-- white space, as far as it goes
pub record Spaces (cs rest : List Cell) : Type 0 where
  pub s : List Cell
  pub whole : cs ≡ s ++ rest
  pub are : AreSpaces s
  pub stops : BeginsNot is_space rest

pub spaces_are : (cs rest : List Cell) → past_spaces cs ≡ rest → Spaces cs rest
spaces_are [] rest h = record { s = []; whole = h; are = refl; stops = subst (BeginsNot is_space) h tt }
spaces_are (c ∷ cs) rest h =
    elim (chosen (is_space c.0) (past_spaces cs) (c ∷ cs) rest h) [
      | inl g ↦ let r = spaces_are cs rest g.1 in
          record { s = c ∷ r.s; whole = ap (λ xs. c ∷ xs) r.whole; are = both (is_space c.0) (list_all is_space (chars_of r.s)) g.0 r.are; stops = r.stops }
      | inr g ↦ record { s = []; whole = g.1; are = refl; stops = subst (BeginsNot is_space) g.1 g.0 }
    ]

pub past_is : (d : ℕ) (cs rest : List Cell) → past d cs ≡ Some rest → (z : Cell) × (cs ≡ z ∷ rest) × (z.0 ≡ d)
past_is d [] rest h = absurd (cc)
past_is d (c ∷ cs) rest h =
    elim (chosen (c.0 == d) (Some cs) None (Some rest) h) [
      | inl g ↦ let e : cs ≡ rest = cc (g.1) in (c, ap (λ xs. c ∷ xs) e, is_code c.0 d g.0)
      | inr g ↦ absurd (cc (g.1))
    ]

-- the other way round

pub past_on : (d : ℕ) (z : Cell) (cs : List Cell) → z.0 ≡ d → past d (z ∷ cs) ≡ Some cs
past_on d z cs h = if_true (z.0 == d) (Some cs) None (code_is z.0 d h)

pub name_run_on : (n : List ℕ) (w rest : List Cell) → list_all is_in_name (chars_of w) ≡ true → BeginsNot is_in_name rest → name_run n (w ++ rest) ≡ (n ++ map lower (chars_of w), rest)
name_run_on n [] [] h s = ap (λ m. let q : List ℕ × List Cell = (m, []) in q) (sym (append-nil n))
name_run_on n [] (c ∷ cs) h s = if_false (is_in_name c.0) (name_run (n ++ lower c.0 ∷ []) cs) (n, c ∷ cs) s ∙ ap (λ m. let q : List ℕ × List Cell = (m, c ∷ cs) in q) (sym (append-nil n))
name_run_on n (c ∷ w) rest h s =
    let b = both_true (is_in_name c.0) (list_all is_in_name (chars_of w)) h in
    if_true (is_in_name c.0) (name_run (n ++ lower c.0 ∷ []) (w ++ rest)) (n, c ∷ (w ++ rest)) b.0
    ∙ (name_run_on (n ++ lower c.0 ∷ []) w rest b.1 s
    ∙ ap (λ m. let q : List ℕ × List Cell = (m, rest) in q) (append_assoc n (lower c.0 ∷ []) (map lower (chars_of w))))

pub attribute_run_on : (n : List ℕ) (w rest : List Cell) → list_all is_in_attribute (chars_of w) ≡ true → BeginsNot is_in_attribute rest → attribute_run n (w ++ rest) ≡ (n ++ map lower (chars_of w), rest)
attribute_run_on n [] [] h s = ap (λ m. let q : List ℕ × List Cell = (m, []) in q) (sym (append-nil n))
attribute_run_on n [] (c ∷ cs) h s = if_false (is_in_attribute c.0) (attribute_run (n ++ lower c.0 ∷ []) cs) (n, c ∷ cs) s ∙ ap (λ m. let q : List ℕ × List Cell = (m, c ∷ cs) in q) (sym (append-nil n))
attribute_run_on n (c ∷ w) rest h s =
    let b = both_true (is_in_attribute c.0) (list_all is_in_attribute (chars_of w)) h in
    if_true (is_in_attribute c.0) (attribute_run (n ++ lower c.0 ∷ []) (w ++ rest)) (n, c ∷ (w ++ rest)) b.0
    ∙ (attribute_run_on (n ++ lower c.0 ∷ []) w rest b.1 s
    ∙ ap (λ m. let q : List ℕ × List Cell = (m, rest) in q) (append_assoc n (lower c.0 ∷ []) (map lower (chars_of w))))

pub letter_run_on : (n : List ℕ) (w rest : List Cell) → list_all is_ascii_alphabetic (chars_of w) ≡ true → BeginsNot is_ascii_alphabetic rest → letter_run n (w ++ rest) ≡ (n ++ chars_of w, rest)
letter_run_on n [] [] h s = ap (λ m. let q : List ℕ × List Cell = (m, []) in q) (sym (append-nil n))
letter_run_on n [] (c ∷ cs) h s = if_false (is_ascii_alphabetic c.0) (letter_run (n ++ c.0 ∷ []) cs) (n, c ∷ cs) s ∙ ap (λ m. let q : List ℕ × List Cell = (m, c ∷ cs) in q) (sym (append-nil n))
letter_run_on n (c ∷ w) rest h s =
    let b = both_true (is_ascii_alphabetic c.0) (list_all is_ascii_alphabetic (chars_of w)) h in
    if_true (is_ascii_alphabetic c.0) (letter_run (n ++ c.0 ∷ []) (w ++ rest)) (n, c ∷ (w ++ rest)) b.0
    ∙ (letter_run_on (n ++ c.0 ∷ []) w rest b.1 s
    ∙ ap (λ m. let q : List ℕ × List Cell = (m, rest) in q) (append_assoc n (c.0 ∷ []) (chars_of w)))

pub digit_run_on : (b : Base) (n : ℕ) (w rest : List Cell) → list_all (is_digit_of b) (chars_of w) ≡ true → BeginsNot (is_digit_of b) rest → digit_run b n (w ++ rest) ≡ (digits_value b n (chars_of w), rest)
digit_run_on b n [] [] h s = refl
digit_run_on b n [] (c ∷ cs) h s = if_false (is_digit_of b c.0) (digit_run b (with_digit b n (digit_value c.0)) cs) (n, c ∷ cs) s
digit_run_on b n (c ∷ w) rest h s =
    let t = both_true (is_digit_of b c.0) (list_all (is_digit_of b) (chars_of w)) h in
    if_true (is_digit_of b c.0) (digit_run b (with_digit b n (digit_value c.0)) (w ++ rest)) (n, c ∷ (w ++ rest)) t.0
    ∙ digit_run_on b (with_digit b n (digit_value c.0)) w rest t.1 s

pub spaces_on : (s rest : List Cell) → AreSpaces s → BeginsNot is_space rest → past_spaces (s ++ rest) ≡ rest
spaces_on [] [] h i = refl
spaces_on [] (c ∷ cs) h i = if_false (is_space c.0) (past_spaces cs) (c ∷ cs) i
spaces_on (c ∷ s) rest h i =
    let b = both_true (is_space c.0) (list_all is_space (chars_of s)) h in
    if_true (is_space c.0) (past_spaces (s ++ rest)) (c ∷ (s ++ rest)) b.0 ∙ spaces_on s rest b.1 i

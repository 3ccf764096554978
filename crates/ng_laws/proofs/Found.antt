-- Where the first pair of marks of a text stands, and so its words and holes.
use Rattle.std.proofs.Common.{◌≡◌, ◌<◌, ◌⊎◌, ℕ, zero, suc, Bool, true, false, List, [], ◌∷◌, ◌++◌, length, refl, ap, sym, ◌∙◌, inl, inr, arith, length-append}
use Rattle.std.specs.List.{AllByRecursion, flat_map}
use Rattle.ng_interp.specs.Cutting.{is_pair}
use Rattle.ng_laws.specs.Turns.{HasNoPair, Turn, IsTurn, IsEnd, turn_text, EachTextHasTurns}
use Rattle.ng_laws.proofs.Cutting.{mark, front}

both_marks : (b : Bool) (c d : ℕ) → is_pair b c d ≡ true → (c ≡ mark b) × (d ≡ mark b)
both_marks true c d e = grind arith
both_marks false c d e = grind arith

-- the first pair: what stands before it has none, also with its first mark
abbrev First : Bool → List ℕ → Type 0
First b x = (w : List ℕ) × (rest : List ℕ) × (x ≡ w ++ mark b ∷ mark b ∷ rest) × HasNoPair b (w ++ mark b ∷ [])

head_of : (c d : ℕ) (xs ys : List ℕ) → c ∷ xs ≡ d ∷ ys → d ≡ c
head_of c d xs ys e = cc

one_before : (b : Bool) (c d : ℕ) (cs w rest : List ℕ) → is_pair b c d ≡ false → d ∷ cs ≡ w ++ mark b ∷ mark b ∷ rest → HasNoPair b (w ++ mark b ∷ []) → HasNoPair b (c ∷ (w ++ mark b ∷ []))
one_before b c d cs [] rest n e h = (ap (is_pair b c) (head_of d (mark b) cs (mark b ∷ rest) e) ∙ n, tt)
one_before b c d cs (x ∷ w) rest n e h = (ap (is_pair b c) (head_of d x cs (w ++ mark b ∷ mark b ∷ rest) e) ∙ n, h)

one_more : (b : Bool) (c d : ℕ) (cs : List ℕ) → is_pair b c d ≡ false → HasNoPair b (d ∷ cs) ⊎ First b (d ∷ cs) → HasNoPair b (c ∷ d ∷ cs) ⊎ First b (c ∷ d ∷ cs)
one_more b c d cs n (inl h) = inl (n, h)
one_more b c d cs n (inr (w, rest, e, h)) = inr (c ∷ w, rest, ap (λ x. c ∷ x) e, one_before b c d cs w rest n e h)

here : (b : Bool) (c d : ℕ) (cs : List ℕ) → is_pair b c d ≡ true → First b (c ∷ d ∷ cs)
here b c d cs e =
    let m = both_marks b c d e in
    ([], cs, ap (λ x. x ∷ d ∷ cs) m.0 ∙ ap (λ x. mark b ∷ x ∷ cs) m.1, tt)

at_pair : (b : Bool) (c d : ℕ) (cs : List ℕ) (v : Bool) → is_pair b c d ≡ v → HasNoPair b (d ∷ cs) ⊎ First b (d ∷ cs) → HasNoPair b (c ∷ d ∷ cs) ⊎ First b (c ∷ d ∷ cs)
at_pair b c d cs true e f = inr (here b c d cs e)
at_pair b c d cs false e f = one_more b c d cs e f

first_pair : (b : Bool) (x : List ℕ) → HasNoPair b x ⊎ First b x
first_pair b [] = inl tt
first_pair b (c ∷ []) = inl tt
first_pair b (c ∷ d ∷ cs) = at_pair b c d cs (is_pair b c d) refl (first_pair b (d ∷ cs))

abbrev HasTurns : List ℕ → Type 0
HasTurns x = (ps : List Turn) × (t : List ℕ) × AllByRecursion IsTurn ps × IsEnd t × (x ≡ flat_map turn_text ps ++ t)

with_turn : (x w r v rest : List ℕ) → x ≡ w ++ 123 ∷ 123 ∷ r → HasNoPair false (w ++ 123 ∷ []) → r ≡ v ++ 125 ∷ 125 ∷ rest → HasNoPair true (v ++ 125 ∷ []) → HasTurns rest → HasTurns x
with_turn x w r v rest e h f i (ps, t, hs, ht, g) = (
  (w, v) ∷ ps,
  t,
  ((h, i), hs),
  ht,
  e ∙ (ap (λ y. w ++ 123 ∷ 123 ∷ y) f ∙ (ap (λ y. w ++ 123 ∷ 123 ∷ (v ++ 125 ∷ 125 ∷ y)) g ∙ sym (front (w, v) (flat_map turn_text ps) t))),
)

shorter : (x w r v rest : List ℕ) (n : ℕ) → x ≡ w ++ 123 ∷ 123 ∷ r → r ≡ v ++ 125 ∷ 125 ∷ rest → length x < suc n → length rest < n
shorter x w r v rest n e f l =
    let a = ap length e ∙ length-append w (123 ∷ 123 ∷ r) in
    let b = ap length f ∙ length-append v (125 ∷ 125 ∷ rest) in
    omega (arith, a, b, l)

abbrev AllHave : ℕ → Type 0
AllHave n = (x : List ℕ) → length x < n → HasTurns x

in_hole : (n : ℕ) → AllHave n → (x : List ℕ) → length x < suc n → (w r : List ℕ) → x ≡ w ++ 123 ∷ 123 ∷ r → HasNoPair false (w ++ 123 ∷ []) → HasNoPair true r ⊎ First true r → HasTurns x
in_hole n all x l w r e h (inl i) = ([], x, tt, inr (w, r, e, h, i), refl)
in_hole n all x l w r e h (inr (v, rest, f, i)) = with_turn x w r v rest e h f i (all rest (shorter x w r v rest n e f l))

from_first : (n : ℕ) → AllHave n → (x : List ℕ) → length x < suc n → HasNoPair false x ⊎ First false x → HasTurns x
from_first n all x l (inl h) = ([], x, tt, inl h, refl)
from_first n all x l (inr (w, r, e, h)) = in_hole n all x l w r e h (first_pair true r)

all_have : (n : ℕ) → AllHave n
all_have zero x l = absurd (omega (arith, l))
all_have (suc n) x l = from_first n (all_have n) x l (first_pair false x)

pub each_has_turns : EachTextHasTurns
each_has_turns x = all_have (suc (length x)) x (omega arith)

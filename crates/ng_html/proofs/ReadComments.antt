-- A comment goes on up to its end.
use Rattle.std.proofs.Common.{◌≡◌, ◌≤◌, ℕ, Bool, true, false, ◌==◌, List, [], ◌∷◌, ◌++◌, map, length, refl, ap, ◌∙◌, sym, arith, append_assoc}
use Rattle.std.proofs.lemmas.Bool.Decides.{nat_tests}
use Rattle.std.proofs.lemmas.List.{map-append}
use Rattle.std.specs.Prelude.{None, is_some, ⊤, if◌then◌else◌, codes}
use Rattle.ng_base.specs.Cells.{Cell}
use Rattle.ng_base.proofs.Binds.{if_held}
use Rattle.ng_tags.specs.Letters.{lower}
use Rattle.ng_tags.specs.Skips.{past_word}
use Rattle.ng_tags.specs.Lexing.{as_space, ends_comment}
use Rattle.ng_tags.specs.Spelling.{chars_of, GoesOn}

-- whether a word stands first
abbrev begins : List ℕ → List ℕ → Bool
begins [] cs = true
begins (w ∷ ws) [] = false
begins (w ∷ ws) (c ∷ cs) = if lower c == w then begins ws cs else false

-- with its end sign behind it no other stands before
abbrev pub NeverEnds : List ℕ → Type 0
NeverEnds [] = ⊤
NeverEnds (c ∷ t) = (begins (codes "-->") ((c ∷ t) ++ codes "-->") ≡ false) × NeverEnds t

past_begins : (w : List ℕ) (cs : List Cell) → is_some (past_word w cs) ≡ begins w (chars_of cs)
past_begins [] cs = refl
past_begins (w ∷ ws) [] = refl
past_begins (w ∷ ws) (c ∷ cs) = by (lower c.0 == w) (past_begins ws cs)
  where
    by : (b : Bool) → is_some (past_word ws cs) ≡ begins ws (chars_of cs) → is_some (if b then past_word ws cs else None) ≡ (if b then begins ws (chars_of cs) else false)
    by true h = h
    by false h = refl

begins_front : (w xs ys : List ℕ) → length w ≤ length xs → begins w (xs ++ ys) ≡ begins w xs
begins_front [] xs ys h = refl
begins_front (w ∷ ws) [] ys h = absurd (omega (arith, h))
begins_front (w ∷ ws) (x ∷ xs) ys h = ap (λ b. if lower x == w then b else false) (begins_front ws xs ys (omega (arith, h)))

pub chars-append : (us vs : List Cell) → chars_of (us ++ vs) ≡ chars_of us ++ chars_of vs
chars-append [] vs = refl
chars-append (c ∷ us) vs = ap (λ xs. c.0 ∷ xs) (chars-append us vs)

longer : (xs ys : List ℕ) → length ys ≤ length (xs ++ ys)
longer [] ys = omega arith
longer (x ∷ xs) ys = omega (arith, longer xs ys)

-- whether a comment ends is seen in its characters
ends_is : (us closing rest : List Cell) → chars_of closing ≡ codes "-->" → ends_comment (us ++ (closing ++ rest)) ≡ begins (codes "-->") (chars_of us ++ codes "-->")
ends_is us closing rest h =
    past_begins (codes "-->") (us ++ (closing ++ rest))
    ∙ (ap (begins (codes "-->")) (chars-append us (closing ++ rest) ∙ (ap (λ xs. chars_of us ++ xs) (chars-append closing rest ∙ ap (λ xs. xs ++ chars_of rest) h) ∙ sym (append_assoc (chars_of us) (codes "-->") (chars_of rest))))
    ∙ begins_front (codes "-->") (chars_of us ++ codes "-->") (chars_of rest) (longer (chars_of us) (codes "-->")))

is_code : (c n : ℕ) → (c == n) ≡ true → c ≡ n
is_code c n h = grind (arith, nat_tests, h)

dash_same : (c : ℕ) → (lower (as_space c) == 45) ≡ (lower c == 45)
dash_same c = if_held (c == 10) 32 c (λ x. (lower x == 45) ≡ (lower c == 45)) (λ e. ap (λ z. lower z == 45) (sym (is_code c 10 e))) (λ e. refl)

sign_same : (c : ℕ) → (lower (as_space c) == 62) ≡ (lower c == 62)
sign_same c = if_held (c == 10) 32 c (λ x. (lower x == 62) ≡ (lower c == 62)) (λ e. ap (λ z. lower z == 62) (sym (is_code c 10 e))) (λ e. refl)

-- a line feed that reads as a space ends no comment
spaced : (xs : List ℕ) → begins (codes "-->") (map as_space xs) ≡ begins (codes "-->") xs
spaced [] = refl
spaced (a ∷ []) = ap (λ b. if b then false else false) (dash_same a)
spaced (a ∷ b ∷ []) = ap (λ x. if x then (if lower (as_space b) == 45 then false else false) else false) (dash_same a) ∙ ap (λ x. if lower a == 45 then (if x then false else false) else false) (dash_same b)
spaced (a ∷ b ∷ c ∷ xs) =
    ap (λ x. if x then (if lower (as_space b) == 45 then (if lower (as_space c) == 62 then true else false) else false) else false) (dash_same a)
    ∙ (ap (λ x. if lower a == 45 then (if x then (if lower (as_space c) == 62 then true else false) else false) else false) (dash_same b)
    ∙ ap (λ x. if lower a == 45 then (if lower b == 45 then (if x then true else false) else false) else false) (sign_same c))

-- the text of a comment never ends it
pub goes_never : (inner closing rest : List Cell) → chars_of closing ≡ codes "-->" → GoesOn inner (closing ++ rest) → NeverEnds (map as_space (chars_of inner))
goes_never [] closing rest h g = tt
goes_never (c ∷ us) closing rest h g = (
  ap (begins (codes "-->")) (sym (map-append as_space (chars_of (c ∷ us)) (codes "-->")))
      ∙ (spaced (chars_of (c ∷ us) ++ codes "-->") ∙ (sym (ends_is (c ∷ us) closing rest h) ∙ g.0)),
  goes_never us closing rest h g.1,
)

-- a text that never ends it goes on
pub never_goes : (inner closing rest : List Cell) → chars_of closing ≡ codes "-->" → NeverEnds (chars_of inner) → GoesOn inner (closing ++ rest)
never_goes [] closing rest h n = tt
never_goes (c ∷ us) closing rest h n = (ends_is (c ∷ us) closing rest h ∙ n.0, never_goes us closing rest h n.1)

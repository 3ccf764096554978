-- How numbers compare, and what an ordering chooses.
use Rattle.std.proofs.Common.{◌≡◌, ◌≢◌, ◌∙◌, ◌+◌, ◌<◌, ◌≤◌, [], ◌∷◌, ℕ, true, false, List, map, refl, sym, ap, arith, Ordering, Less, Equal, Greater, length, get_or, drop, min}
use Rattle.std.proofs.lemmas.Cmp.{ranked}
use Rattle.std.proofs.lemmas.List.{drop_more, length-drop}
use Rattle.std.specs.Cmp.{nat_cmp_is}
use Rattle.std.specs.Ordering.{nat_cmp, is_lt, match_ordering, ordering_then}
use Rattle.ng_base.specs.Order.{path_cmp}

pub is_less : (r : Ordering) → is_lt r ≡ true → r ≡ Less
is_less Less e = refl
is_less Equal e = absurd (cc)
is_less Greater e = absurd (cc)

pub less : (a b : ℕ) → a < b → nat_cmp a b ≡ Less
less a b h = sym (nat_cmp_is a b Less h)

pub not_less : (a b : ℕ) → b ≤ a → is_lt (nat_cmp a b) ≡ false
not_less a b h = grind arith

-- where two lists have the same number their order is that of what follows
pub at_same : (xs ys : List ℕ) (i : ℕ) → i < length xs → i < length ys → get_or xs i 0 ≡ get_or ys i 0 → path_cmp (drop i xs) (drop i ys) ≡ path_cmp (drop (i + 1) xs) (drop (i + 1) ys)
at_same xs ys i p q h =
    (λ j. path_cmp (drop_more xs i 0 p j) (drop_more ys i 0 q j))
    ∙ ap (λ (o : Ordering). ordering_then o (path_cmp (drop (i + 1) xs) (drop (i + 1) ys))) (sym (nat_cmp_is (get_or xs i 0) (get_or ys i 0) Equal h))

chosen : (o z : Ordering) → o ≢ Equal → ordering_then o z ≡ o
chosen Less z n = refl
chosen Equal z n = absurd (n refl)
chosen Greater z n = refl

-- where they have not the two numbers decide
pub at_unequal : (xs ys : List ℕ) (i : ℕ) → i < length xs → i < length ys → get_or xs i 0 ≢ get_or ys i 0 → path_cmp (drop i xs) (drop i ys) ≡ nat_cmp (get_or xs i 0) (get_or ys i 0)
at_unequal xs ys i p q n =
    let m : nat_cmp (get_or xs i 0) (get_or ys i 0) ≢ Equal = λ e. n (ranked (get_or xs i 0) (get_or ys i 0) Equal (sym e)) in
    (λ j. path_cmp (drop_more xs i 0 p j) (drop_more ys i 0 q j)) ∙ chosen (nat_cmp (get_or xs i 0) (get_or ys i 0)) _ m

-- where one list has no more the lengths decide
one_ends : (xs ys : List ℕ) (n a b : ℕ) → length xs + n ≡ a → length ys + n ≡ b → n ≡ min a b → path_cmp xs ys ≡ nat_cmp a b
one_ends [] [] n a b e f h = nat_cmp_is a b Equal (omega arith)
one_ends [] (y ∷ ys) n a b e f h = nat_cmp_is a b Less (omega arith)
one_ends (x ∷ xs) [] n a b e f h = nat_cmp_is a b Greater (omega arith)
one_ends (x ∷ xs) (y ∷ ys) n a b e f h = absurd (omega arith)

pub at_end : (xs ys : List ℕ) (n : ℕ) → n ≡ min (length xs) (length ys) → path_cmp (drop n xs) (drop n ys) ≡ nat_cmp (length xs) (length ys)
at_end xs ys n e =
    one_ends (drop n xs) (drop n ys) n (length xs) (length ys) (omega (arith, length-drop n xs)) (omega (arith, length-drop n ys)) e

-- a map goes into each of the three lists
pub ordered-map : {A B : Type 0} (g : A → B) (o : Ordering) (xs ys zs : List A) → map g (match_ordering o xs ys zs) ≡ match_ordering o (map g xs) (map g ys) (map g zs)
ordered-map g Less xs ys zs = refl
ordered-map g Equal xs ys zs = refl
ordered-map g Greater xs ys zs = refl

-- A stable sort gives one list, which is that of the definition.
use Rattle.std.proofs.Common.{◌≡◌, ◌∙◌, ◌+◌, ◌<◌, ℕ, zero, suc, Bool, true, false, not, ◌&&◌, cond, if◌then◌else◌, List, [], ◌∷◌, filter, length, get_or, refl, sym, ap, subst, arith}
use Rattle.std.specs.Cmp.{IsStrictWeakOrder}
use Rattle.std.specs.List.{AllByRecursion}
use Rattle.std.specs.List.Sorted.{IsPermutation, IsSortedBy, IsStableBy, ties}
use Rattle.std.proofs.lemmas.List.Sorted.{sorted_far, IsPermutation-refl, IsPermutation-cons, IsPermutation-trans, IsPermutation-middle}
use Rattle.ng_collect.specs.Sorted.{put_in, in_order}

-- no later item is before an earlier one
abbrev pub Rises : {X : Type 0} → (X → X → Bool) → List X → Type 0
Rises lt [] = Unit {0}
Rises lt (x ∷ xs) = AllByRecursion (λ y. lt y x ≡ false) xs × Rises lt xs

all_at : {X : Type 0} (P : X → Type 0) (xs : List X) → ((j : ℕ) (d : X) → j < length xs → P (get_or xs j d)) → AllByRecursion P xs
all_at P [] h = tt
all_at P (x ∷ xs) h = (h 0 x (omega arith), all_at P xs (λ j d l. h (suc j) d (omega arith)))

sorted_rest : {X : Type 0} (lt : X → X → Bool) (x : X) (xs : List X) → IsSortedBy lt (x ∷ xs) → IsSortedBy lt xs
sorted_rest lt x xs s k d a b =
    let e : suc k + 1 ≡ suc (k + 1) = omega arith in
    rw e at (s (suc k) d (omega arith) (omega arith))

pub rises : {X : Type 0} (lt : X → X → Bool) → IsStrictWeakOrder lt → (xs : List X) → IsSortedBy lt xs → Rises lt xs
rises lt o [] s = tt
rises lt o (x ∷ xs) s =
    (all_at (λ y. lt y x ≡ false) xs (λ j d l. sorted_far lt o (x ∷ xs) s 0 (suc j) d (omega arith) (omega arith)), rises lt o xs (sorted_rest lt x xs s))

pub rising_sorted : {X : Type 0} (lt : X → X → Bool) (xs : List X) → Rises lt xs → IsSortedBy lt xs
rising_sorted lt [] r k d a b = absurd (omega arith)
rising_sorted lt (x ∷ []) r k d a b = absurd (omega arith)
rising_sorted lt (x ∷ y ∷ ys) r zero d a b = r.0.0
rising_sorted lt (x ∷ y ∷ ys) r (suc k) d a b =
    let e : suc k + 1 ≡ suc (k + 1) = omega arith in
    rw e (rising_sorted lt (y ∷ ys) r.1 k d (omega arith) (omega arith))

all_put : {X : Type 0} (P : X → Type 0) (lt : X → X → Bool) (x : X) (ys : List X) → P x → AllByRecursion P ys → AllByRecursion P (put_in lt x ys)
all_put P lt x [] p a = (p, tt)
all_put P lt x (y ∷ ys) p a = by (lt y x) (all_put P lt x ys p a.1)
  where
    by : (b : Bool) → AllByRecursion P (put_in lt x ys) → AllByRecursion P (if b then y ∷ put_in lt x ys else x ∷ (y ∷ ys))
    by true more = (a.0, more)
    by false more = (p, a)

pub all_in_order : {X : Type 0} (P : X → Type 0) (lt : X → X → Bool) (xs : List X) → AllByRecursion P xs → AllByRecursion P (in_order lt xs)
all_in_order P lt [] a = tt
all_in_order P lt (x ∷ xs) a = all_put P lt x (in_order lt xs) a.0 (all_in_order P lt xs a.1)

all_through : {X : Type 0} (P Q : X → Type 0) → ((x : X) → P x → Q x) → (xs : List X) → AllByRecursion P xs → AllByRecursion Q xs
all_through P Q f [] a = tt
all_through P Q f (x ∷ xs) a = (f x a.0, all_through P Q f xs a.1)

put_rises : {X : Type 0} (lt : X → X → Bool) → IsStrictWeakOrder lt → (x : X) (ys : List X) → Rises lt ys → Rises lt (put_in lt x ys)
put_rises lt o x [] r = (tt, tt)
put_rises lt o x (y ∷ ys) r = by (lt y x) refl (put_rises lt o x ys r.1)
  where
    by : (b : Bool) → lt y x ≡ b → Rises lt (put_in lt x ys) → Rises lt (if b then y ∷ put_in lt x ys else x ∷ (y ∷ ys))
    by true e more = (all_put (λ z. lt z y ≡ false) lt x ys (o.one_way y x e) r.0, more)
    by false e more = ((e, all_through (λ z. lt z y ≡ false) (λ z. lt z x ≡ false) (λ z h. o.chain z y x h e) ys r.0), r)

pub in_order_rises : {X : Type 0} (lt : X → X → Bool) → IsStrictWeakOrder lt → (xs : List X) → Rises lt (in_order lt xs)
in_order_rises lt o [] = tt
in_order_rises lt o (x ∷ xs) = put_rises lt o x (in_order lt xs) (in_order_rises lt o xs)

-- of two that tie with a third neither is before the other
record Tie {X : Type 0} (lt : X → X → Bool) (x y : X) : Type 0 where
  pub right : lt x y ≡ false
  pub left : lt y x ≡ false

tie : {X : Type 0} (lt : X → X → Bool) (x y : X) → ties lt x y ≡ true → Tie lt x y
tie lt x y h = by (lt x y) (lt y x) refl refl h
  where
    by : (a b : Bool) → lt x y ≡ a → lt y x ≡ b → (not a && not b) ≡ true → Tie lt x y
    by true b e f k = absurd (cc)
    by false true e f k = absurd (cc)
    by false false e f k = record { right = e; left = f }

tied : {X : Type 0} (lt : X → X → Bool) (x y : X) → lt x y ≡ false → lt y x ≡ false → ties lt x y ≡ true
tied lt x y e f = rw (e, f) refl

put_stable : {X : Type 0} (lt : X → X → Bool) → IsStrictWeakOrder lt → (a x : X) (ys : List X) → filter (ties lt a) (put_in lt x ys) ≡ filter (ties lt a) (x ∷ ys)
put_stable lt o a x [] = refl
put_stable {X} lt o a x (y ∷ ys) = by (lt y x) refl (put_stable lt o a x ys)
  where
    t : X → Bool
    t = ties lt a

    pass : lt y x ≡ true → (b c : Bool) → t x ≡ b → t y ≡ c → cond c (y ∷ cond b (x ∷ filter t ys) (filter t ys)) (cond b (x ∷ filter t ys) (filter t ys)) ≡ cond b (x ∷ cond c (y ∷ filter t ys) (filter t ys)) (cond c (y ∷ filter t ys) (filter t ys))
    pass e true true f g =
        let p = tie lt a x f in
        let q = tie lt a y g in
        let h : lt y x ≡ false = o.chain y a x q.left p.right in
        absurd (cc)
    pass e true false f g = refl
    pass e false true f g = refl
    pass e false false f g = refl

    by : (b : Bool) → lt y x ≡ b → filter t (put_in lt x ys) ≡ filter t (x ∷ ys) → filter t (if b then y ∷ put_in lt x ys else x ∷ (y ∷ ys)) ≡ filter t (x ∷ (y ∷ ys))
    by true e more = ap (λ zs. cond (t y) (y ∷ zs) zs) more ∙ pass e (t x) (t y) refl refl
    by false e more = refl

pub in_order_stable : {X : Type 0} (lt : X → X → Bool) → IsStrictWeakOrder lt → (xs : List X) → IsStableBy lt xs (in_order lt xs)
in_order_stable lt o [] a = refl
in_order_stable lt o (x ∷ xs) a =
    put_stable lt o a x (in_order lt xs) ∙ ap (λ zs. cond (ties lt a x) (x ∷ zs) zs) (in_order_stable lt o xs a)

put_permutes : {X : Type 0} (lt : X → X → Bool) (x : X) (ys : List X) → IsPermutation (x ∷ ys) (put_in lt x ys)
put_permutes lt x [] = IsPermutation-refl (x ∷ [])
put_permutes lt x (y ∷ ys) = by (lt y x) (put_permutes lt x ys)
  where
    by : (b : Bool) → IsPermutation (x ∷ ys) (put_in lt x ys) → IsPermutation (x ∷ (y ∷ ys)) (if b then y ∷ put_in lt x ys else x ∷ (y ∷ ys))
    by true more = IsPermutation-trans (x ∷ (y ∷ ys)) (y ∷ (x ∷ ys)) (y ∷ put_in lt x ys) (IsPermutation-middle (x ∷ []) y ys) (IsPermutation-cons y (x ∷ ys) (put_in lt x ys) more)
    by false more = IsPermutation-refl (x ∷ (y ∷ ys))

pub in_order_permutes : {X : Type 0} (lt : X → X → Bool) (xs : List X) → IsPermutation xs (in_order lt xs)
in_order_permutes lt [] = IsPermutation-refl []
in_order_permutes lt (x ∷ xs) =
    IsPermutation-trans (x ∷ xs) (x ∷ in_order lt xs) (put_in lt x (in_order lt xs)) (IsPermutation-cons x xs (in_order lt xs) (in_order_permutes lt xs)) (put_permutes lt x (in_order lt xs))

never_before_itself : {X : Type 0} (lt : X → X → Bool) → IsStrictWeakOrder lt → (x : X) → lt x x ≡ false
never_before_itself lt o x = by (lt x x) refl
  where
    by : (b : Bool) → lt x x ≡ b → lt x x ≡ false
    by true e = o.one_way x x e
    by false e = e

-- the first of those that tie with an item is not above any that is above nothing
not_above : {X : Type 0} (lt : X → X → Bool) → IsStrictWeakOrder lt → (z y : X) (xs rest : List X) → AllByRecursion (λ w. lt w y ≡ false) xs → filter (ties lt z) xs ≡ z ∷ rest → lt z y ≡ false
not_above lt o z y [] rest a h = absurd (cc)
not_above lt o z y (w ∷ ws) rest a h = by (ties lt z w) refl (λ k. not_above lt o z y ws rest a.1 k) h
  where
    by : (b : Bool) → ties lt z w ≡ b → (filter (ties lt z) ws ≡ z ∷ rest → lt z y ≡ false) → cond b (w ∷ filter (ties lt z) ws) (filter (ties lt z) ws) ≡ z ∷ rest → lt z y ≡ false
    by true e more k = o.chain z w y (tie lt z w e).right a.0
    by false e more k = more k

with_itself : {X : Type 0} (lt : X → X → Bool) → IsStrictWeakOrder lt → (x : X) (xs : List X) → filter (ties lt x) (x ∷ xs) ≡ x ∷ filter (ties lt x) xs
with_itself lt o x xs = let e = never_before_itself lt o x in rw (tied lt x x e e) refl

with_tied : {X : Type 0} (lt : X → X → Bool) (x z : X) (zs : List X) → ties lt x z ≡ true → filter (ties lt x) (z ∷ zs) ≡ z ∷ filter (ties lt x) zs
with_tied lt x z zs e = rw e refl

first_same : {X : Type 0} (x y : X) (xs ys : List X) → x ∷ xs ≡ y ∷ ys → x ≡ y
first_same x y xs ys h = cc

rest_same : {X : Type 0} (x y : X) (xs ys : List X) → x ∷ xs ≡ y ∷ ys → xs ≡ ys
rest_same x y xs ys h = cc

behind_first : {X : Type 0} (x : X) (b : Bool) (xs ys : List X) → cond b (x ∷ xs) xs ≡ cond b (x ∷ ys) ys → xs ≡ ys
behind_first x true xs ys h = rest_same x x xs ys h
behind_first x false xs ys h = h

-- two lists in order whose ties stand in the same order are the same
pub only_order : {X : Type 0} (lt : X → X → Bool) → IsStrictWeakOrder lt → (ys zs : List X) → Rises lt ys → Rises lt zs → IsStableBy lt zs ys → ys ≡ zs
only_order lt o [] [] r s h = refl
only_order lt o [] (z ∷ zs) r s h = let e : [] ≡ z ∷ filter (ties lt z) zs = h z ∙ with_itself lt o z zs in absurd (cc)
only_order lt o (y ∷ ys) [] r s h = let e : y ∷ filter (ties lt y) ys ≡ [] = sym (with_itself lt o y ys) ∙ h y in absurd (cc)
only_order {X} lt o (y ∷ ys) (z ∷ zs) r s h =
    let self = never_before_itself lt o in
    let up : lt z y ≡ false = not_above lt o z y (y ∷ ys) (filter (ties lt z) zs) (self y, r.0) (h z ∙ with_itself lt o z zs) in
    let down : lt y z ≡ false = not_above lt o y z (z ∷ zs) (filter (ties lt y) ys) (self z, s.0) (sym (h y) ∙ with_itself lt o y ys) in
    let same : y ≡ z = first_same y z (filter (ties lt y) ys) (filter (ties lt y) zs) (sym (with_itself lt o y ys) ∙ (h y ∙ with_tied lt y z zs (tied lt y z down up))) in
    let kin : IsStableBy lt (y ∷ zs) (y ∷ ys) = subst (λ w. IsStableBy lt (w ∷ zs) (y ∷ ys)) (sym same) h in
    let rest : ys ≡ zs = only_order lt o ys zs r.1 s.1 (λ a. behind_first y (ties lt a y) (filter (ties lt a) ys) (filter (ties lt a) zs) (kin a)) in
    ap (λ w. w ∷ ys) same ∙ ap (λ ws. z ∷ ws) rest

-- what std's stable sort gives
pub sorted_is : {X : Type 0} (lt : X → X → Bool) → IsStrictWeakOrder lt → (xs ys : List X) → IsSortedBy lt ys → IsStableBy lt xs ys → ys ≡ in_order lt xs
sorted_is lt o xs ys s t =
    only_order lt o ys (in_order lt xs) (rises lt o ys s) (in_order_rises lt o xs) (λ a. t a ∙ sym (in_order_stable lt o xs a))

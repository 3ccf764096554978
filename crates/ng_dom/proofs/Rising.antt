-- Lists in order of their numbers, and what stands under a number.
use Rattle.std.proofs.Common.{◌≡◌, ◌<◌, ◌≤◌, ◌+◌, ℕ, suc, zero, Bool, true, false, List, [], ◌∷◌, ◌++◌, Some, None, refl, ap, sym, subst, ◌∙◌, length, get_or, cond, arith}
use Rattle.std.specs.Prelude.{◌==◌, nat_lt, is_some, slice_get, slice_set}
use Rattle.std.specs.List.{AllByRecursion, AllWithin, remove}
use Rattle.std.specs.List.Sorted.{IsNonDecreasingBy}
use Rattle.std.specs.Map.{set_value}
use Rattle.std.proofs.Math.Nat.{lt_of_not-le}
use Rattle.std.proofs.lemmas.Bool.{eqb-true, eq-eqb, ne_eqb}
use Rattle.std.proofs.lemmas.Bool.Decides.{nat_tests}
use Rattle.ng_dom.specs.Records.{under, name_in, row_set, AllAbove, AllBelow, Rises}

pub all_get : {X : Type 0} (P : X → Type 0) (es : List X) (i : ℕ) (e : X) → AllByRecursion P es → slice_get es i ≡ Some e → P e
all_get P [] i e a h = absurd (cc)
all_get P (x ∷ es) zero e a h = let same : x ≡ e = cc in subst P same a.0
all_get P (x ∷ es) (suc i) e a h = all_get P es i e a.1 h

pub get_within : {X : Type 0} (es : List X) (i : ℕ) (e : X) → slice_get es i ≡ Some e → i < length es
get_within [] i e h = absurd (cc)
get_within (x ∷ es) zero e h = omega arith
get_within (x ∷ es) (suc i) e h = omega (arith, get_within es i e h)

pub get_is : {X : Type 0} (es : List X) (i : ℕ) (e d : X) → slice_get es i ≡ Some e → get_or es i d ≡ e
get_is [] i e d h = absurd (cc)
get_is (x ∷ es) zero e d h = let same : x ≡ e = cc in same
get_is (x ∷ es) (suc i) e d h = get_is es i e d h

-- ---- nothing stands under a number that is below or above all

pub above_none : {X : Type 0} (q : ℕ) (es : List (ℕ × X)) → AllAbove q es → under q es ≡ None
above_none q [] a = refl
above_none q (e ∷ es) a = rw (ne_eqb q e.0 (λ s. omega (arith, a.0))) (above_none q es a.1)

pub below_none : {X : Type 0} (q : ℕ) (es : List (ℕ × X)) → AllBelow q es → under q es ≡ None
below_none q [] a = refl
below_none q (e ∷ es) a = rw (ne_eqb q e.0 (λ s. omega (arith, a.0))) (below_none q es a.1)

pub above_more : {X : Type 0} (m n : ℕ) (es : List (ℕ × X)) → m < n → AllAbove n es → AllAbove m es
above_more m n [] l a = tt
above_more m n (e ∷ es) l a = (omega (arith, a.0), above_more m n es l a.1)

-- what stands at a place
pub under_here : {X : Type 0} (es : List (ℕ × X)) (i n : ℕ) (e : ℕ × X) → Rises es → slice_get es i ≡ Some e → e.0 ≡ n → under n es ≡ Some e.1
under_here [] i n e r g s = absurd (cc)
under_here {X} (d ∷ es) zero n e r g s =
    let same : d ≡ e = cc in
    rw (eq-eqb n d.0 (sym s ∙ ap (λ (x : ℕ × X). x.0) (sym same))) (ap (λ (x : ℕ × X). Some x.1) same)
under_here (d ∷ es) (suc i) n e r g s =
    let more : d.0 < e.0 = all_get (λ x. d.0 < x.0) es i e r.0 g in
    rw (ne_eqb n d.0 (λ t. omega (arith, more, s))) (under_here es i n e r.1 g s)

-- ---- a change at a place

row_set_is : {X : Type 0} (es : List (ℕ × X)) (i : ℕ) (d : ℕ × X) (x : X) → row_set es i x ≡ slice_set es i ((get_or es i d).0, x)
row_set_is [] i d x = refl
row_set_is (e ∷ es) zero d x = refl
row_set_is (e ∷ es) (suc i) d x = ap (λ ys. e ∷ ys) (row_set_is es i d x)

pub row_written : {X : Type 0} (es : List (ℕ × X)) (i : ℕ) (e : ℕ × X) (x : X) → e ≡ get_or es i e → slice_set es i (e.0, x) ≡ row_set es i x
row_written {X} es i e x is = ap (λ (d : ℕ × X). slice_set es i (d.0, x)) is ∙ sym (row_set_is es i e x)

pub value_set_is : {X : Type 0} (es : List (ℕ × X)) (i n : ℕ) (e : ℕ × X) (x : X) → Rises es → slice_get es i ≡ Some e → e.0 ≡ n → set_value (λ k. n == k) es x ≡ row_set es i x
value_set_is [] i n e x r g s = absurd (cc)
value_set_is {X} (d ∷ es) zero n e x r g s =
    let same : d ≡ e = cc in
    rw (eq-eqb n d.0 (sym s ∙ ap (λ (x : ℕ × X). x.0) (sym same))) refl
value_set_is (d ∷ es) (suc i) n e x r g s =
    let more : d.0 < e.0 = all_get (λ x. d.0 < x.0) es i e r.0 g in
    rw (ne_eqb n d.0 (λ t. omega (arith, more, s))) (ap (λ ys. d ∷ ys) (value_set_is es i n e x r.1 g s))

pub all_set : {X : Type 0} (P : ℕ → Type 0) (es : List (ℕ × X)) (i : ℕ) (x : X) → AllByRecursion (λ e. P e.0) es → AllByRecursion (λ e. P e.0) (row_set es i x)
all_set P [] i x a = tt
all_set P (e ∷ es) zero x a = (a.0, a.1)
all_set P (e ∷ es) (suc i) x a = (a.0, all_set P es i x a.1)

pub rises_set : {X : Type 0} (es : List (ℕ × X)) (i : ℕ) (x : X) → Rises es → Rises (row_set es i x)
rises_set [] i x r = tt
rises_set (e ∷ es) zero x r = (r.0, r.1)
rises_set (e ∷ es) (suc i) x r = (all_set (λ n. e.0 < n) es i x r.0, rises_set es i x r.1)

pub length_set : {X : Type 0} (es : List (ℕ × X)) (i : ℕ) (x : X) → length (row_set es i x) ≡ length es
length_set [] i x = refl
length_set (e ∷ es) zero x = refl
length_set (e ∷ es) (suc i) x = ap suc (length_set es i x)

pub under_set : {X : Type 0} (es : List (ℕ × X)) (n q : ℕ) (x : X) → is_some (under n es) ≡ true → under q (set_value (λ k. n == k) es x) ≡ cond (q == n) (Some x) (under q es)
under_set [] n q x h = absurd (cc)
under_set {X} (e ∷ es) n q x h = by_name (n == e.0) refl (under_set es n q x)
  where
    at_it : n ≡ e.0 → (b : Bool) → (q == e.0) ≡ b → cond b (Some x) (under q es) ≡ cond (q == n) (Some x) (cond b (Some e.1) (under q es))
    at_it s true t = rw (eq-eqb q n (eqb-true q e.0 t ∙ sym s)) refl
    at_it s false t = rw (ap (λ (m : ℕ). q == m) s ∙ t) refl

    past_it : (n == e.0) ≡ false → under q (set_value (λ k. n == k) es x) ≡ cond (q == n) (Some x) (under q es) → (b : Bool) → (q == e.0) ≡ b → cond b (Some e.1) (under q (set_value (λ k. n == k) es x)) ≡ cond (q == n) (Some x) (cond b (Some e.1) (under q es))
    past_it f rest true t =
        let apart : (q == n) ≡ false = ap (λ (m : ℕ). m == n) (eqb-true q e.0 t) ∙ ne_eqb e.0 n (λ s. absurd (let two : true ≡ false = sym (eq-eqb n e.0 (sym s)) ∙ f in cc)) in
        rw apart refl
    past_it f rest false t = rest

    by_name : (b : Bool) → (n == e.0) ≡ b → (is_some (under n es) ≡ true → under q (set_value (λ k. n == k) es x) ≡ cond (q == n) (Some x) (under q es)) → under q (cond b ((e.0, x) ∷ es) (e ∷ set_value (λ k. n == k) es x)) ≡ cond (q == n) (Some x) (under q (e ∷ es))
    by_name true t rest = at_it (eqb-true n e.0 t) (q == e.0) refl
    by_name false t rest = past_it t (rest (ap (λ (b : Bool). is_some (cond b (Some e.1) (under n es))) (sym t) ∙ h)) (q == e.0) refl

-- ---- what stands at a place is taken out

pub all_removed : {X : Type 0} (P : X → Type 0) (es : List X) (i : ℕ) → AllByRecursion P es → AllByRecursion P (remove es i)
all_removed P [] zero a = tt
all_removed P [] (suc i) a = tt
all_removed P (e ∷ es) zero a = a.1
all_removed P (e ∷ es) (suc i) a = (a.0, all_removed P es i a.1)

pub rises_removed : {X : Type 0} (es : List (ℕ × X)) (i : ℕ) → Rises es → Rises (remove es i)
rises_removed [] zero r = tt
rises_removed [] (suc i) r = tt
rises_removed (e ∷ es) zero r = r.1
rises_removed (e ∷ es) (suc i) r = (all_removed (λ x. e.0 < x.0) es i r.0, rises_removed es i r.1)

pub length_removed : {X : Type 0} (es : List X) (i : ℕ) (e : X) → slice_get es i ≡ Some e → length (remove es i) + 1 ≡ length es
length_removed [] i e g = absurd (cc)
length_removed (x ∷ es) zero e g = omega arith
length_removed (x ∷ es) (suc i) e g = omega (arith, length_removed es i e g)

pub under_removed : {X : Type 0} (es : List (ℕ × X)) (i n q : ℕ) (e : ℕ × X) → Rises es → slice_get es i ≡ Some e → e.0 ≡ n → under q (remove es i) ≡ cond (q == n) None (under q es)
under_removed [] i n q e r g s = absurd (cc)
under_removed {X} (d ∷ es) zero n q e r g s =
    let same : d ≡ e = cc in
    by_test (ap (λ (x : ℕ × X). x.0) same ∙ s) (q == d.0) refl
  where
    by_test : d.0 ≡ n → (b : Bool) → (q == d.0) ≡ b → under q es ≡ cond (q == n) None (cond b (Some d.1) (under q es))
    by_test is true t = rw (eq-eqb q n (eqb-true q d.0 t ∙ is)) (above_none q es (subst (λ (m : ℕ). AllAbove m es) (sym (eqb-true q d.0 t)) r.0))
    by_test is false t = rw (ap (λ (m : ℕ). q == m) (sym is) ∙ t) refl
under_removed (d ∷ es) (suc i) n q e r g s = by_test (under_removed es i n q e r.1 g s) (q == d.0) refl
  where
    by_test : under q (remove es i) ≡ cond (q == n) None (under q es) → (b : Bool) → (q == d.0) ≡ b → cond b (Some d.1) (under q (remove es i)) ≡ cond (q == n) None (cond b (Some d.1) (under q es))
    by_test rest true t =
        let more : d.0 < e.0 = all_get (λ x. d.0 < x.0) es i e r.0 g in
        let same : q ≡ d.0 = eqb-true q d.0 t in
        rw (ne_eqb q n (λ u. omega (arith, more, s, same))) refl
    by_test rest false t = rest

-- ---- something is put after all others

pub all_pushed : {X : Type 0} (P : X → Type 0) (es : List X) (e : X) → AllByRecursion P es → P e → AllByRecursion P (es ++ e ∷ [])
all_pushed P [] e a p = (p, tt)
all_pushed P (x ∷ es) e a p = (a.0, all_pushed P es e a.1 p)

pub rises_pushed : {X : Type 0} (es : List (ℕ × X)) (n : ℕ) (x : X) → Rises es → AllBelow n es → Rises (es ++ (n, x) ∷ [])
rises_pushed [] n x r a = (tt, tt)
rises_pushed (e ∷ es) n x r a = (all_pushed (λ y. e.0 < y.0) es (n, x) r.0 a.0, rises_pushed es n x r.1 a.1)

pub length_pushed : {X : Type 0} (es : List X) (e : X) → length (es ++ e ∷ []) ≡ length es + 1
length_pushed [] e = refl
length_pushed (x ∷ es) e = omega (arith, length_pushed es e)

pub under_pushed : {X : Type 0} (es : List (ℕ × X)) (n q : ℕ) (x : X) → under n es ≡ None → under q (es ++ (n, x) ∷ []) ≡ cond (q == n) (Some x) (under q es)
under_pushed [] n q x h = refl
under_pushed (e ∷ es) n q x h = by_name (n == e.0) refl (under_pushed es n q x)
  where
    by_test : (n == e.0) ≡ false → under q (es ++ (n, x) ∷ []) ≡ cond (q == n) (Some x) (under q es) → (b : Bool) → (q == e.0) ≡ b → cond b (Some e.1) (under q (es ++ (n, x) ∷ [])) ≡ cond (q == n) (Some x) (cond b (Some e.1) (under q es))
    by_test f rest true t =
        let apart : (q == n) ≡ false = ap (λ (m : ℕ). m == n) (eqb-true q e.0 t) ∙ ne_eqb e.0 n (λ s. absurd (let two : true ≡ false = sym (eq-eqb n e.0 (sym s)) ∙ f in cc)) in
        rw apart refl
    by_test f rest false t = rest

    by_name : (b : Bool) → (n == e.0) ≡ b → (under n es ≡ None → under q (es ++ (n, x) ∷ []) ≡ cond (q == n) (Some x) (under q es)) → under q ((e ∷ es) ++ (n, x) ∷ []) ≡ cond (q == n) (Some x) (under q (e ∷ es))
    by_name true t rest = absurd (let two : Some e.1 ≡ None = ap (λ (b : Bool). cond b (Some e.1) (under n es)) (sym t) ∙ h in cc)
    by_name false t rest = by_test t (rest (ap (λ (b : Bool). cond b (Some e.1) (under n es)) (sym t) ∙ h)) (q == e.0) refl

-- where nothing stands from a number on, all are below it
pub below_all : {X : Type 0} (es : List (ℕ × X)) (n : ℕ) → ((q : ℕ) → n ≤ q → under q es ≡ None) → AllBelow n es
below_all [] n h = tt
below_all (e ∷ es) n h = (lt_of_not-le first, below_all es n (λ q le. past q (q == e.0) refl (h q le)))
  where
    first : n ≤ e.0 → ⊥
    first le = let two : Some e.1 ≡ None = ap (λ (b : Bool). cond b (Some e.1) (under e.0 es)) (sym (eq-eqb e.0 e.0 refl)) ∙ h e.0 le in absurd (cc)

    past : (q : ℕ) (b : Bool) → (q == e.0) ≡ b → under q (e ∷ es) ≡ None → under q es ≡ None
    past q true t none = absurd (let two : Some e.1 ≡ None = ap (λ (b : Bool). cond b (Some e.1) (under q es)) (sym t) ∙ none in cc)
    past q false t none = ap (λ (b : Bool). cond b (Some e.1) (under q es)) (sym t) ∙ none

-- ---- a search

get_above : {X : Type 0} (n : ℕ) (es : List (ℕ × X)) (j : ℕ) (d : ℕ × X) → AllAbove n es → j < length es → n < (get_or es j d).0
get_above n [] j d a l = absurd (omega arith)
get_above n (e ∷ es) zero d a l = a.0
get_above n (e ∷ es) (suc j) d a l = get_above n es j d a.1 (omega arith)

pub in_order : {X : Type 0} (es : List (ℕ × X)) → Rises es → IsNonDecreasingBy (λ e. e.0) es
in_order [] r i j d le l = absurd (omega arith)
in_order (e ∷ es) r zero zero d le l = omega arith
in_order (e ∷ es) r zero (suc j) d le l = omega (arith, get_above e.0 es j d r.0 (omega arith))
in_order (e ∷ es) r (suc i) zero d le l = absurd (omega arith)
in_order (e ∷ es) r (suc i) (suc j) d le l = in_order es r.1 i j d (omega arith) (omega arith)

pub absent : {X : Type 0} (es : List (ℕ × X)) (n i : ℕ) → Rises es → AllWithin (λ e. nat_lt e.0 n ≡ true) es 0 i → AllWithin (λ e. nat_lt e.0 n ≡ false) es i (length es) → (name_in (slice_get es i) ≡ Some n → ⊥) → under n es ≡ None
absent [] n i r low high other = refl
absent (e ∷ es) n zero r low high other =
    let up : nat_lt e.0 n ≡ false = high 0 e (omega arith) (omega arith) in
    let apart : e.0 ≡ n → ⊥ = λ s. other (ap Some s) in
    let more : n < e.0 = grind (arith, nat_tests) in
    above_none n (e ∷ es) (more, above_more n e.0 es more r.0)
absent (e ∷ es) n (suc i) r low high other =
    let down : nat_lt e.0 n ≡ true = low 0 e (omega arith) (omega arith) in
    let less : e.0 < n = grind (arith, nat_tests) in
    rw (ne_eqb n e.0 (λ s. omega arith)) (absent es n i r.1 (λ k d l h. low (suc k) d (omega arith) (omega arith)) (λ k d l h. high (suc k) d (omega arith) (omega arith)) other)

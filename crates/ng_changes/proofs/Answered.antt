-- What is known of a call that answered Ok, and of what is there.
use Rattle.std.proofs.Common.{◌≡◌, ◌∙◌, ◌<◌, ◌+◌, ℕ, zero, suc, List, [], ◌∷◌, length, drop, get_or, Option, Some, None, refl, ap, sym, subst, arith}
use Rattle.std.specs.Prelude.{Result, Ok, Err, IfOk, IfSome, IsSome, OnOk}

pub on_ok : {T E : Type 0} {A : Type 0} (r : Result T E) (v : T) → r ≡ Ok v → OnOk r A → A
on_ok (Ok x) v e a = a
on_ok (Err f) v e a = absurd (cc)

pub there : {T : Type 0} (o : Option T) → IsSome o → (x : T) × (o ≡ Some x)
there None h = absurd (cc)
there (Some x) h = (x, refl)

pub ok_then : {T E : Type 0} {A B : Type 0} (r : Result T E) → OnOk r A → (A → B) → OnOk r B
ok_then (Ok x) a f = f a
ok_then (Err e) a f = tt

pub some_is : {T : Type 0} (P : T → Type 0) (o : Option T) (x : T) → IfSome o P → o ≡ Some x → P x
some_is P None x h e = absurd (cc)
some_is P (Some y) x h e = let same : y ≡ x = cc in subst P same h

-- the rest of a list from a place on
dropped_more : {X : Type 0} (xs : List X) (k : ℕ) (x : X) → k < length xs → x ≡ get_or xs k x → drop k xs ≡ x ∷ drop (suc k) xs
dropped_more [] k x l e = absurd (omega (arith, l))
dropped_more (y ∷ ys) zero x l e = ap (λ z. z ∷ ys) (sym e)
dropped_more (y ∷ ys) (suc k) x l e = dropped_more ys k x (omega (arith, l)) e

pub dropped : {X : Type 0} (xs : List X) (k : ℕ) (x : X) → k < length xs → x ≡ get_or xs k x → drop k xs ≡ x ∷ drop (k + 1) xs
dropped xs k x l e = dropped_more xs k x l e ∙ ap (λ (n : ℕ). x ∷ drop n xs) (let one : suc k ≡ k + 1 = omega arith in one)

pub ok_has : {T E : Type 0} (P : T → Type 0) (r : Result T E) (v : T) → IfOk r P → r ≡ Ok v → P v
ok_has P (Ok x) v h e = let same : x ≡ v = cc in subst P same h
ok_has P (Err f) v h e = absurd (cc)

pub if_both : {T E : Type 0} {P Q R : T → Type 0} (r : Result T E) → IfOk r P → IfOk r Q → ((v : T) → P v → Q v → R v) → IfOk r R
if_both (Ok v) h k f = f v h k
if_both (Err e) h k f = tt

pub if_on : {T E : Type 0} {P Q : T → Type 0} {A : Type 0} (r : Result T E) → IfOk r P → OnOk r A → ((v : T) → P v → A → Q v) → IfOk r Q
if_on (Ok v) h a f = f v h a
if_on (Err e) h a f = tt

pub on_all : {T E X : Type 0} (A : X → Type 0) (r : Result T E) → ((x : X) → OnOk r (A x)) → OnOk r ((x : X) → A x)
on_all A (Ok v) f = f
on_all A (Err e) f = tt

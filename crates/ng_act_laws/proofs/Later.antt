-- What is gone from a list of listeners never comes back.
use Rattle.std.proofs.Common.{◌≡◌, ◌≤◌, ◌+◌, ℕ, zero, suc, Bool, true, false, not, eqb, if◌then◌else◌, List, [], ◌∷◌, ◌++◌, map, Option, Some, None, refl, sym, ◌∙◌, arith, inl, inr}
use Rattle.std.specs.List.{filter}
use Rattle.std.proofs.lemmas.Bool.{ne_eqb}
use Rattle.std.proofs.lemmas.Bool.Decides.{eqb_tells}
use Rattle.ng_behaviour.specs.Listeners.{Listener, Heard, stands_at, heard_at, hear_at, nobody, listened, listened_at, without_listener, without_listeners_of, dropped, is_called, quiet}

pub record Later (xs ys : List Heard) : Type 0 where
  pub lasts : (i : ℕ) → (heard_at xs i).last ≤ (heard_at ys i).last
  pub gone : (i k : ℕ) → k ≤ (heard_at xs i).last → stands_at (heard_at xs i).entries k ≡ None → stands_at (heard_at ys i).entries k ≡ None

pub later-refl : (xs : List Heard) → Later xs xs
later-refl xs = record { lasts = λ i. omega arith; gone = λ i k h e. e }

pub later-trans : (xs ys zs : List Heard) → Later xs ys → Later ys zs → Later xs zs
later-trans xs ys zs a b = record {
  lasts = λ i. let m : (heard_at xs i).last ≤ (heard_at ys i).last = a.lasts i in let n : (heard_at ys i).last ≤ (heard_at zs i).last = b.lasts i in omega arith;
  gone = λ i k h e. let m : (heard_at xs i).last ≤ (heard_at ys i).last = a.lasts i in b.gone i k (omega arith) (a.gone i k h e);
}

-- fewer entries
pub stands-filter : (p : ℕ × Listener → Bool) (es : List (ℕ × Listener)) (r : ℕ) → stands_at es r ≡ None → stands_at (filter p es) r ≡ None
stands-filter p [] r h = refl
stands-filter p (e ∷ es) r h = elim (eqb_tells r e.0) [
  | inl t ↦ absurd (let n : stands_at (e ∷ es) r ≡ Some e.1 = rw t.0 refl in cc)
  | inr t ↦
      let q : stands_at (e ∷ es) r ≡ stands_at es r = rw t.0 refl in
      kept (p e) e r t.0 (filter p es) (stands-filter p es r (sym q ∙ h))
]
  where
    kept : (b : Bool) (e : ℕ × Listener) (r : ℕ) → eqb r e.0 ≡ false → (fs : List (ℕ × Listener)) → stands_at fs r ≡ None → stands_at (if b then (e ∷ fs) else fs) r ≡ None
    kept true e r t fs h = rw t h
    kept false e r t fs h = h

stands-added : (es : List (ℕ × Listener)) (k r : ℕ) (l : Listener) → (r ≡ k → ⊥) → stands_at es r ≡ None → stands_at (es ++ (k, l) ∷ []) r ≡ None
stands-added [] k r l n h = rw (ne_eqb r k n) refl
stands-added (e ∷ es) k r l n h = elim (eqb_tells r e.0) [
  | inl t ↦ absurd (let m : stands_at (e ∷ es) r ≡ Some e.1 = rw t.0 refl in cc)
  | inr t ↦
      let q : stands_at (e ∷ es) r ≡ stands_at es r = rw t.0 refl in
      rw t.0 (stands-added es k r l n (sym q ∙ h))
]

-- one list is changed so that its last serial does not fall, and nothing comes back
record Thins (f : Heard → Heard) : Type 0 where
  last : (x : Heard) → x.last ≤ (f x).last
  gone : (x : Heard) (k : ℕ) → k ≤ x.last → stands_at x.entries k ≡ None → stands_at (f x).entries k ≡ None

hear-lasts : (xs : List Heard) (j : ℕ) (f : Heard → Heard) → Thins f → (i : ℕ) → (heard_at xs i).last ≤ (heard_at (hear_at xs j f) i).last
hear-lasts [] j f t i = omega arith
hear-lasts (x ∷ xs) zero f t zero = t.last x
hear-lasts (x ∷ xs) zero f t (suc i) = omega arith
hear-lasts (x ∷ xs) (suc j) f t zero = omega arith
hear-lasts (x ∷ xs) (suc j) f t (suc i) = hear-lasts xs j f t i

hear-gone : (xs : List Heard) (j : ℕ) (f : Heard → Heard) → Thins f → (i k : ℕ) → k ≤ (heard_at xs i).last → stands_at (heard_at xs i).entries k ≡ None → stands_at (heard_at (hear_at xs j f) i).entries k ≡ None
hear-gone [] j f t i k h e = refl
hear-gone (x ∷ xs) zero f t zero k h e = t.gone x k h e
hear-gone (x ∷ xs) zero f t (suc i) k h e = e
hear-gone (x ∷ xs) (suc j) f t zero k h e = e
hear-gone (x ∷ xs) (suc j) f t (suc i) k h e = hear-gone xs j f t i k h e

-- each list is changed so
map-lasts : (xs : List Heard) (f : Heard → Heard) → Thins f → (i : ℕ) → (heard_at xs i).last ≤ (heard_at (map f xs) i).last
map-lasts [] f t i = omega arith
map-lasts (x ∷ xs) f t zero = t.last x
map-lasts (x ∷ xs) f t (suc i) = map-lasts xs f t i

map-gone : (xs : List Heard) (f : Heard → Heard) → Thins f → (i k : ℕ) → k ≤ (heard_at xs i).last → stands_at (heard_at xs i).entries k ≡ None → stands_at (heard_at (map f xs) i).entries k ≡ None
map-gone [] f t i k h e = refl
map-gone (x ∷ xs) f t zero k h e = t.gone x k h e
map-gone (x ∷ xs) f t (suc i) k h e = map-gone xs f t i k h e

pub later-off : (xs : List Heard) (id : ℕ) → Later xs (without_listener xs id)
later-off xs id =
    let t : Thins (dropped id) = record { last = λ x. omega arith; gone = λ x r h e. stands-filter (λ e. not (is_called id e)) x.entries r e } in
    record { lasts = map-lasts xs (dropped id) t; gone = map-gone xs (dropped id) t }

quiet-gone : (b : Bool) (es : List (ℕ × Listener)) (k : ℕ) → stands_at es k ≡ None → stands_at (if b then [] else es) k ≡ None
quiet-gone true es k h = refl
quiet-gone false es k h = h

pub later-quiet : (xs : List Heard) (s : ℕ) → Later xs (without_listeners_of xs s)
later-quiet xs s =
    let t : Thins (quiet s) = record { last = λ x. omega arith; gone = λ x r h e. quiet-gone (eqb s x.scope) x.entries r e } in
    record { lasts = map-lasts xs (quiet s) t; gone = map-gone xs (quiet s) t }

added-lasts : (xs : List Heard) (y : Heard) (i : ℕ) → (heard_at xs i).last ≤ (heard_at (xs ++ y ∷ []) i).last
added-lasts [] y i = omega arith
added-lasts (x ∷ xs) y zero = omega arith
added-lasts (x ∷ xs) y (suc i) = added-lasts xs y i

added-gone : (xs : List Heard) (s : ℕ) (n : List ℕ) (l : Listener) (i k : ℕ) → k ≤ (heard_at xs i).last → stands_at (heard_at xs i).entries k ≡ None → stands_at (heard_at (xs ++ listened l (nobody s n) ∷ []) i).entries k ≡ None
added-gone [] s n l zero k h e = stands-added [] (0 + 1) k l (λ q. omega arith) refl
added-gone [] s n l (suc i) k h e = refl
added-gone (x ∷ xs) s n l zero k h e = e
added-gone (x ∷ xs) s n l (suc i) k h e = added-gone xs s n l i k h e

pub later-on_at : (o : Option ℕ) (xs : List Heard) (s : ℕ) (n : List ℕ) (l : Listener) → Later xs (listened_at o xs s n l)
later-on_at (Some j) xs s n l =
    let t : Thins (listened l) = record { last = λ x. omega arith; gone = λ x r h e. stands-added x.entries (x.last + 1) r l (λ q. omega arith) e } in
    record { lasts = hear-lasts xs j (listened l) t; gone = hear-gone xs j (listened l) t }
later-on_at None xs s n l = record { lasts = added-lasts xs (listened l (nobody s n)); gone = added-gone xs s n l }

-- What a tree of scopes keeps as it grows and dies.
use Rattle.std.proofs.Common.{ℕ, zero, suc, ◌<◌, ◌≤◌, ◌≡◌, List, [], ◌∷◌, ◌++◌, length, Option, Some, None, refl, ap, sym, ◌∙◌, arith, inl, inr, ◌⊎◌, append_assoc, length-append}
use Rattle.std.specs.Prelude.{option_and_then, slice_get}
use Rattle.std.proofs.lemmas.List.{get_or_push}
use Rattle.std.proofs.Math.ListN.{get_or-append, get_or-eq_default}
use Rattle.ng_behaviour.specs.Scopes.{Scope, no_scope, scope_at, path_at, children_at, down, change_at, adopting, child_of, with_child}

pub near : (a b : ℕ) → (a < b) ⊎ (b ≤ a)
near a b = grind arith

pub and-then-some : {A B : Type 0} (o : Option A) (f : A → Option B) (r : B) → option_and_then f o ≡ Some r → (a : A) × (o ≡ Some a) × (f a ≡ Some r)
and-then-some None f r h = absurd (cc)
and-then-some (Some a) f r h = (a, refl, h)

-- one scope is changed
pub change-length : (t : List Scope) (s : ℕ) (f : Scope → Scope) → length (change_at t s f) ≡ length t
change-length [] s f = refl
change-length (x ∷ t) zero f = refl
change-length (x ∷ t) (suc s) f = ap suc (change-length t s f)

pub change-same : (t : List Scope) (s : ℕ) (f : Scope → Scope) → s < length t → scope_at (change_at t s f) s ≡ f (scope_at t s)
change-same [] s f h = absurd (omega arith)
change-same (x ∷ t) zero f h = refl
change-same (x ∷ t) (suc s) f h = change-same t s f (omega arith)

pub change-other : (t : List Scope) (s r : ℕ) (f : Scope → Scope) → (r ≡ s → ⊥) → scope_at (change_at t s f) r ≡ scope_at t r
change-other [] s r f h = refl
change-other (x ∷ t) zero zero f h = absurd (h refl)
change-other (x ∷ t) zero (suc r) f h = refl
change-other (x ∷ t) (suc s) zero f h = refl
change-other (x ∷ t) (suc s) (suc r) f h = change-other t s r f (λ e. h (ap suc e))

pub change-keeps : {A : Type 0} (g : Scope → A) (t : List Scope) (s r : ℕ) (f : Scope → Scope) → ((x : Scope) → g (f x) ≡ g x) → g (scope_at (change_at t s f) r) ≡ g (scope_at t r)
change-keeps g [] s r f h = refl
change-keeps g (x ∷ t) zero zero f h = h x
change-keeps g (x ∷ t) zero (suc r) f h = refl
change-keeps g (x ∷ t) (suc s) zero f h = refl
change-keeps g (x ∷ t) (suc s) (suc r) f h = change-keeps g t s r f h

-- a scope more
pub grown-length : (t : List Scope) (c o : ℕ) → length (with_child t c o) ≡ suc (length t)
grown-length t c o = length-append (change_at t c (adopting (length t))) (child_of t c o ∷ []) ∙ (let e = change-length t c (adopting (length t)) in omega arith)

pub grown-new : (t : List Scope) (c o s : ℕ) → s ≡ length t → scope_at (with_child t c o) s ≡ child_of t c o
grown-new t c o s e = get_or_push (change_at t c (adopting (length t))) (child_of t c o) no_scope s (change-length t c (adopting (length t)) ∙ sym e)

pub grown-old : (t : List Scope) (c o r : ℕ) → r < length t → scope_at (with_child t c o) r ≡ scope_at (change_at t c (adopting (length t))) r
grown-old t c o r h = get_or-append (change_at t c (adopting (length t))) (child_of t c o ∷ []) no_scope r (rw (change-length t c (adopting (length t))) h)

pub grown-keeps : {A : Type 0} (g : Scope → A) (t : List Scope) (c o r : ℕ) → ((x : Scope) → g (adopting (length t) x) ≡ g x) → r < length t → g (scope_at (with_child t c o) r) ≡ g (scope_at t r)
grown-keeps g t c o r k h = ap g (grown-old t c o r h) ∙ change-keeps g t c r (adopting (length t)) k

pub grown-children : (t : List Scope) (c o : ℕ) → c < length t → children_at (with_child t c o) c ≡ children_at t c ++ length t ∷ []
grown-children t c o h = ap (λ x. x.children) (grown-old t c o c h ∙ change-same t c (adopting (length t)) h)

pub grown-children_other : (t : List Scope) (c o s : ℕ) → s < length t → (s ≡ c → ⊥) → children_at (with_child t c o) s ≡ children_at t s
grown-children_other t c o s h n = ap (λ x. x.children) (grown-old t c o s h ∙ change-other t c s (adopting (length t)) n)

pub scope-past : (t : List Scope) (s : ℕ) → length t ≤ s → scope_at t s ≡ no_scope
scope-past t s h = get_or-eq_default t no_scope {n = s} h

pub get-kept : {A : Type 0} (xs : List A) (y v : A) (k : ℕ) → slice_get xs k ≡ Some v → slice_get (xs ++ y ∷ []) k ≡ Some v
get-kept [] y v k h = absurd (cc)
get-kept (x ∷ xs) y v zero h = h
get-kept (x ∷ xs) y v (suc k) h = get-kept xs y v k h

pub get-last : {A : Type 0} (xs : List A) (y : A) → slice_get (xs ++ y ∷ []) (length xs) ≡ Some y
get-last [] y = refl
get-last (x ∷ xs) y = get-last xs y

pub get-back : {A : Type 0} (xs : List A) (y v : A) (k : ℕ) → slice_get (xs ++ y ∷ []) k ≡ Some v → (slice_get xs k ≡ Some v) ⊎ ((k ≡ length xs) × (v ≡ y))
get-back [] y v zero h = inr (refl, cc)
get-back [] y v (suc k) h = absurd (cc)
get-back (x ∷ xs) y v zero h = inl h
get-back (x ∷ xs) y v (suc k) h = elim (get-back xs y v k h) [ inl e ↦ inl e | inr e ↦ inr (ap suc e.0, e.1) ]

then-append : (t : List Scope) (o : Option ℕ) (p q : List ℕ) → ((c : ℕ) → down t c (p ++ q) ≡ option_and_then (λ r. down t r q) (down t c p)) → option_and_then (λ c. down t c (p ++ q)) o ≡ option_and_then (λ r. down t r q) (option_and_then (λ c. down t c p) o)
then-append t None p q go = refl
then-append t (Some c) p q go = go c

-- down a path and further
pub down-append : (t : List Scope) (s : ℕ) (p q : List ℕ) → down t s (p ++ q) ≡ option_and_then (λ r. down t r q) (down t s p)
down-append t s [] q = refl
down-append t s (k ∷ p) q = then-append t (slice_get (children_at t s) k) p q (λ c. down-append t c p q)

abbrev pub IsNumbered : List Scope → Type 0
IsNumbered t = (s k c : ℕ) → slice_get (children_at t s) k ≡ Some c → (c < length t) × (path_at t c ≡ path_at t s ++ k ∷ [])

append-none : (p : List ℕ) → p ++ [] ≡ p
append-none [] = refl
append-none (x ∷ p) = ap (λ q. x ∷ q) (append-none p)

pub down-path : (t : List Scope) → IsNumbered t → (s : ℕ) (p : List ℕ) (r : ℕ) → s < length t → down t s p ≡ Some r → (r < length t) × (path_at t r ≡ path_at t s ++ p)
down-path t n s [] r h e = let i : s ≡ r = cc in (rw (← i) h, ap (path_at t) (sym i) ∙ sym (append-none (path_at t s)))
down-path t n s (k ∷ p) r h e =
    let a = and-then-some (slice_get (children_at t s) k) (λ c. down t c p) r e in
    let b = n s k a.0 a.1 in
    let d = down-path t n a.0 p r b.0 a.2 in
    (d.0, d.1 ∙ ap (λ q. q ++ p) b.1 ∙ append_assoc (path_at t s) (k ∷ []) p)

pub down-grows : (t u : List Scope) → ((s k c : ℕ) → slice_get (children_at t s) k ≡ Some c → slice_get (children_at u s) k ≡ Some c) → (s : ℕ) (p : List ℕ) (r : ℕ) → down t s p ≡ Some r → down u s p ≡ Some r
down-grows t u g s [] r e = e
down-grows t u g s (k ∷ p) r e =
    let a = and-then-some (slice_get (children_at t s) k) (λ c. down t c p) r e in
    rw (g s k a.0 a.1) (down-grows t u g a.0 p r a.2)

then-same : (t u : List Scope) (o : Option ℕ) (p : List ℕ) → ((c : ℕ) → down u c p ≡ down t c p) → option_and_then (λ c. down u c p) o ≡ option_and_then (λ c. down t c p) o
then-same t u None p go = refl
then-same t u (Some c) p go = go c

pub down-same : (t u : List Scope) → ((s : ℕ) → children_at u s ≡ children_at t s) → (s : ℕ) (p : List ℕ) → down u s p ≡ down t s p
down-same t u g s [] = refl
down-same t u g s (k ∷ p) = rw (g s) (then-same t u (slice_get (children_at t s) k) p (λ c. down-same t u g c p))

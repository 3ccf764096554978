-- The entries of a chain, as the listeners that they stand for.
use Rattle.std.proofs.Common.{◌≡◌, ◌<◌, ◌≤◌, ℕ, zero, suc, Bool, true, false, not, cond, eqb, List, [], ◌∷◌, ◌++◌, Option, Some, None, IsSome, refl, ap, sym, ◌∙◌, arith, inl, inr}
use Rattle.std.specs.Prelude.{option_map, option_and_then, slice_get}
use Rattle.std.specs.List.{filter}
use Rattle.std.proofs.lemmas.Bool.{ne_eqb, eq-eqb}
use Rattle.std.proofs.lemmas.Bool.Decides.{eqb_tells}
use Rattle.ng_base.specs.declared.name.Serial.{Serial}
use Rattle.ng_chain.specs.declared.chain.Token.{Token}
use Rattle.ng_chain.specs.declared.chain.Span.{Span}
use Rattle.ng_chain.specs.Walked.{found, value_of, same_token, serial_of, without, IsRising, IsNext, Steps}
use Rattle.ng_behaviour.specs.Listeners.{Listener, stands_at, called_in, is_called, RiseTo, IsNextListener}
use Rattle.ng_events.specs.declared.stands.Listener.{Listener as Registered}
use Rattle.ng_events.specs.Stands.{entries_of, seen, Hears}

pub found-seen : (es : List (Token × Registered)) (s : ℕ) → stands_at (entries_of es) s ≡ option_map seen (found es s)
found-seen [] s = refl
found-seen (e ∷ es) s = elim (eqb_tells s (serial_of e.0)) [ inl y ↦ rw y.0 refl | inr z ↦ rw z.0 (found-seen es s) ]

pub entries-append : (es fs : List (Token × Registered)) → entries_of (es ++ fs) ≡ entries_of es ++ entries_of fs
entries-append [] fs = refl
entries-append (e ∷ es) fs = ap (λ xs. (serial_of e.0, seen e.1) ∷ xs) (entries-append es fs)

pub rising-seen : (es : List (Token × Registered)) (k n : ℕ) → IsRising k n es → RiseTo k n (entries_of es)
rising-seen [] k n r = tt
rising-seen (e ∷ es) k n r = (r.0, r.1, rising-seen es (serial_of e.0) n r.2)

rising-above : (es : List (Token × Registered)) (k n i : ℕ) (e : Token × Registered) → IsRising k n es → slice_get es i ≡ Some e → k < serial_of e.0
rising-above [] k n i e r g = absurd (cc)
rising-above (x ∷ es) k n zero e r g = let q : x ≡ e = cc in rw (← q) r.0
rising-above (x ∷ es) k n (suc i) e r g = let a = rising-above es (serial_of x.0) n i e r.2 g in let b : k < serial_of x.0 = r.0 in omega arith

-- an entry is found under its serial
pub get-found : (es : List (Token × Registered)) (k n i : ℕ) (e : Token × Registered) → IsRising k n es → slice_get es i ≡ Some e → found es (serial_of e.0) ≡ Some e.1
get-found [] k n i e r g = absurd (cc)
get-found (x ∷ es) k n zero e r g = let q : x ≡ e = cc in rw (← q, eq-eqb (serial_of x.0) (serial_of x.0) refl) refl
get-found (x ∷ es) k n (suc i) e r g =
    let a = rising-above es (serial_of x.0) n i e r.2 g in
    rw (ne_eqb (serial_of e.0) (serial_of x.0) (λ q. omega arith)) (get-found es (serial_of x.0) n i e r.2 g)

value-above : (es : List (Token × Registered)) (k n : ℕ) (t : Token) (v : Registered) → IsRising k n es → value_of es t ≡ Some v → k < serial_of t
value-above [] k n t v r h = absurd (cc)
value-above (x ∷ es) k n t v r h = elim (eqb_tells (serial_of t) (serial_of x.0)) [
  | inl y ↦ let b : k < serial_of x.0 = r.0 in rw y.1 b
  | inr z ↦ let a = value-above es (serial_of x.0) n t v r.2 (rw z.0 at h) in let b : k < serial_of x.0 = r.0 in omega arith
]

-- a token's value is found under its serial
pub value-serial : (es : List (Token × Registered)) (k n : ℕ) (t : Token) (v : Registered) → IsRising k n es → value_of es t ≡ Some v → found es (serial_of t) ≡ Some v
value-serial [] k n t v r h = absurd (cc)
value-serial (x ∷ es) k n t v r h = elim (eqb_tells (serial_of t) (serial_of x.0)) [
  | inl y ↦ head (eqb t.slot x.0.slot) refl y.0 y.1
  | inr z ↦ rw z.0 (value-serial es (serial_of x.0) n t v r.2 (rw z.0 at h))
]
  where
    head : (b : Bool) → eqb t.slot x.0.slot ≡ b → eqb (serial_of t) (serial_of x.0) ≡ true → serial_of t ≡ serial_of x.0 → found (x ∷ es) (serial_of t) ≡ Some v
    head true e y q = rw y (rw (y, e) at h)
    head false e y q = absurd (let a = value-above es (serial_of x.0) n t v r.2 (rw (y, e) at h) in omega arith)

pub value-append : (es fs : List (Token × Registered)) (t : Token) (v : Registered) → value_of es t ≡ Some v → value_of (es ++ fs) t ≡ Some v
value-append [] fs t v h = absurd (cc)
value-append (x ∷ es) fs t v h = step (same_token t x.0) refl (λ g. value-append es fs t v g)
  where
    step : (b : Bool) → same_token t x.0 ≡ b → (value_of es t ≡ Some v → value_of (es ++ fs) t ≡ Some v) → value_of ((x ∷ es) ++ fs) t ≡ Some v
    step true e go = rw e (rw e at h)
    step false e go = rw e (go (rw e at h))

same-itself : (t : Token) → same_token t t ≡ true
same-itself t = rw (eq-eqb (serial_of t) (serial_of t) refl, eq-eqb t.slot t.slot refl) refl

other-serial : (t u : Token) → (serial_of t ≡ serial_of u → ⊥) → same_token t u ≡ false
other-serial t u n = rw (ne_eqb (serial_of t) (serial_of u) n) refl

-- a token that was given now is that of the last entry
pub value-last : (es : List (Token × Registered)) (k n : ℕ) (t : Token) (v : Registered) → IsRising k n es → n < serial_of t → value_of (es ++ (t, v) ∷ []) t ≡ Some v
value-last [] k n t v r h = rw (same-itself t) refl
value-last (x ∷ es) k n t v r h = let b : serial_of x.0 ≤ n = r.1 in rw (other-serial t x.0 (λ q. omega arith)) (value-last es (serial_of x.0) n t v r.2 h)

-- and it leaves the others when it is taken out again
pub without-last : (es : List (Token × Registered)) (k n : ℕ) (t : Token) (v : Registered) → IsRising k n es → n < serial_of t → without (serial_of t) (es ++ (t, v) ∷ []) ≡ es
without-last [] k n t v r h = rw (eq-eqb (serial_of t) (serial_of t) refl) refl
without-last (x ∷ es) k n t v r h = let b : serial_of x.0 ≤ n = r.1 in rw (ne_eqb (serial_of t) (serial_of x.0) (λ q. omega arith)) (ap (λ ys. x ∷ ys) (without-last es (serial_of x.0) n t v r.2 h))

pub value-without : (es : List (Token × Registered)) (s : ℕ) (t : Token) → (serial_of t ≡ s → ⊥) → value_of (without s es) t ≡ value_of es t
value-without [] s t n = refl
value-without (x ∷ es) s t n = elim (eqb_tells s (serial_of x.0)) [
  | inl y ↦ rw (y.0, other-serial t x.0 (λ q. n (q ∙ sym y.1))) (value-without es s t n)
  | inr z ↦ rw z.0 (ap (cond (same_token t x.0) (Some x.1)) (value-without es s t n))
]

-- an entry of those that are left was there
pub get-without : (es : List (Token × Registered)) (s i : ℕ) (e : Token × Registered) → slice_get (without s es) i ≡ Some e → (j : ℕ) × (slice_get es j ≡ Some e) × (s ≡ serial_of e.0 → ⊥)
get-without [] s i e g = absurd (cc)
get-without (x ∷ es) s i e g = elim (eqb_tells s (serial_of x.0)) [
  | inl y ↦ let r = get-without es s i e (rw y.0 at g) in (suc r.0, r.1, r.2)
  | inr z ↦ kept i (rw z.0 at g) z.1 (λ k. get-without es s k e)
]
  where
    kept : (i : ℕ) → slice_get (x ∷ without s es) i ≡ Some e → (s ≡ serial_of x.0 → ⊥) → ((k : ℕ) → slice_get (without s es) k ≡ Some e → (j : ℕ) × (slice_get es j ≡ Some e) × (s ≡ serial_of e.0 → ⊥)) → (j : ℕ) × (slice_get (x ∷ es) j ≡ Some e) × (s ≡ serial_of e.0 → ⊥)
    kept zero g n go = let q : x ≡ e = cc in (0, g, λ p. n (p ∙ ap (λ (y : Token × Registered). serial_of y.0) (sym q)))
    kept (suc i) g n go = let r = go i g in (suc r.0, r.1, r.2)

-- those of a name are gone where that of a serial is
pub filter-called : (es : List (Token × Registered)) (id s : ℕ) → ((i : ℕ) (e : Token × Registered) → slice_get es i ≡ Some e → (id ≡ e.1.id.0 → s ≡ serial_of e.0) × (s ≡ serial_of e.0 → id ≡ e.1.id.0)) → filter (λ e. not (is_called id e)) (entries_of es) ≡ entries_of (without s es)
filter-called [] id s h = refl
filter-called (x ∷ es) id s h = elim (eqb_tells s (serial_of x.0)) [
  | inl y ↦ rw (y.0, eq-eqb id x.1.id.0 ((h 0 x refl).1 y.1)) (filter-called es id s (λ i e. h (suc i) e))
  | inr z ↦ rw (z.0, ne_eqb id x.1.id.0 (λ q. z.1 ((h 0 x refl).0 q))) (ap (λ ys. (serial_of x.0, seen x.1) ∷ ys) (filter-called es id s (λ i e. h (suc i) e)))
]

-- none of a name is gone where there is none
pub filter-none : (es : List (Token × Registered)) (id : ℕ) → ((i : ℕ) (e : Token × Registered) → slice_get es i ≡ Some e → id ≡ e.1.id.0 → ⊥) → filter (λ e. not (is_called id e)) (entries_of es) ≡ entries_of es
filter-none [] id h = refl
filter-none (x ∷ es) id h = rw (ne_eqb id x.1.id.0 (h 0 x refl)) (ap (λ ys. (serial_of x.0, seen x.1) ∷ ys) (filter-none es id (λ i e. h (suc i) e)))

pub called-none : (es : List (Token × Registered)) (id : ℕ) → ((i : ℕ) (e : Token × Registered) → slice_get es i ≡ Some e → id ≡ e.1.id.0 → ⊥) → called_in (entries_of es) id ≡ None
called-none [] id h = refl
called-none (x ∷ es) id h = rw (ne_eqb id x.1.id.0 (h 0 x refl)) (called-none es id (λ i e. h (suc i) e))

pub called-value : (es : List (Token × Registered)) (id : ℕ) (t : Token) (v : Registered) → ((i : ℕ) (e : Token × Registered) → slice_get es i ≡ Some e → id ≡ e.1.id.0 → t ≡ e.0) → value_of es t ≡ Some v → id ≡ v.id.0 → called_in (entries_of es) id ≡ Some (seen v)
called-value [] id t v h e q = absurd (cc)
called-value (x ∷ es) id t v h e q = elim (eqb_tells id x.1.id.0) [
  | inl y ↦ let same : same_token t x.0 ≡ true = ap (same_token t) (sym (h 0 x refl y.1)) ∙ same-itself t in let z : Some x.1 ≡ Some v = rw same at e in rw y.0 (ap (option_map seen) z)
  | inr n ↦ rw n.0 (called-value es id t v (λ i d. h (suc i) d) (skipped (same_token t x.0) refl n.1) q)
]
  where
    skipped : (b : Bool) → same_token t x.0 ≡ b → (id ≡ x.1.id.0 → ⊥) → value_of es t ≡ Some v
    skipped true s n = absurd (let z : Some x.1 ≡ Some v = rw s at e in let w : x.1 ≡ v = cc in n (q ∙ ap (λ (l : Registered). l.id.0) (sym w)))
    skipped false s n = rw s at e

next-seen : (es : List (Token × Registered)) (p e s : ℕ) → IsNext es p e s → IsNextListener (entries_of es) p e s
next-seen es p e s n = record {
  above = n.above;
  within = n.within;
  stands = rw (found-seen es s) (some (found es s) n.stands);
  least = λ r h l. found-seen es r ∙ ap (option_map seen) (n.least r h l);
}
  where
    some : (o : Option Registered) → IsSome o → IsSome (option_map seen o)
    some None h = absurd (cc)
    some (Some l) h = refl

-- a step that met nobody
pub hears-none : (es : List (Token × Registered)) (w new : Option Span) → Steps es w None new → Hears (entries_of es) w None new
hears-none es None new h = tt
hears-none es (Some w) new h = (λ s a b. found-seen es s ∙ ap (option_map seen) (h.0 s a b), h.1)

-- a step that met a listener
pub hears-some : (es : List (Token × Registered)) (w new : Option Span) (s : Serial) (l : Registered) → IsSome w → Steps es w (Some s) new → option_and_then (λ v. found es v.place) new ≡ Some l → Hears (entries_of es) w (Some l.id) new
hears-some es None new s l o h f = absurd (cc)
hears-some es (Some w) None s l o h f = absurd (cc)
hears-some es (Some w) (Some v) s l o h f =
    let q : v ≡ record { place = s.0; end = w.end } = (let e = h.1 in cc) in
    let p : v.place ≡ s.0 = ap (λ (x : Span). x.place) q in (
      rw p (next-seen es w.place w.end s.0 h.0),
      ap (λ (x : Span). x.end) q,
      ap (option_map (λ (x : Listener). x.id)) (found-seen es v.place) ∙ ap (λ o. option_map (λ (x : Listener). x.id) (option_map seen o)) f,
    )

pub ruleset hears = (hears-none, hears-some)

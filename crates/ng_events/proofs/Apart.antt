-- Walks that stay open beside one that is begun, goes on or ends.
use Rattle.std.proofs.Common.{◌≡◌, ℕ, zero, suc, Bool, true, false, ◌&&◌, eqb, List, [], ◌∷◌, Option, None, IsSome, refl, ap, sym, arith, eqb-true, if◌then◌else◌}
use Rattle.std.specs.Prelude.{slice_set}
use Rattle.ng_chain.specs.Walked.{walk_at}
use Rattle.ng_chain.specs.declared.chain.Span.{Span}
use Rattle.ng_chain.specs.declared.chain.Walk.{Walk}
use Rattle.ng_base.specs.declared.name.FunId.{FunId}
use Rattle.ng_behaviour.specs.Listeners.{heard_at}
use Rattle.ng_events.specs.declared.stands.EventWalk.{EventWalk}
use Rattle.ng_events.specs.declared.stands.EventWalk.TheVariants.{Bare, On}
use Rattle.ng_events.specs.Stands.{Table, IsOpen, Begins, Goes, Ends, lists_of, walks_at, is_at}
use Rattle.ng_events.specs.Apart.{AreApart, StayOpen}
use Rattle.ng_events.proofs.Walks.{hears-open}

other : (k n : ℕ) → eqb (suc k) (suc n) ≡ false → eqb k n ≡ false
other k n e = grind arith

set-other : (ws : List (Option Span)) (k n : ℕ) (w : Option Span) → eqb k n ≡ false → IsSome (walk_at ws n) → IsSome (walk_at (slice_set ws k w) n)
set-other [] k n w e o = o
set-other (x ∷ xs) zero zero w e o = absurd (cc)
set-other (x ∷ xs) zero (suc n) w e o = o
set-other (x ∷ xs) (suc k) zero w e o = o
set-other (x ∷ xs) (suc k) (suc n) w e o = set-other xs k n w (other k n e) o

set-some : (ws : List (Option Span)) (k n : ℕ) (w : Option Span) → IsSome w → IsSome (walk_at ws n) → IsSome (walk_at (slice_set ws k w) n)
set-some [] k n w s o = o
set-some (x ∷ xs) zero zero w s o = s
set-some (x ∷ xs) zero (suc n) w s o = o
set-some (x ∷ xs) (suc k) zero w s o = o
set-some (x ∷ xs) (suc k) (suc n) w s o = set-some xs k n w s o

if-other : (b c : Bool) (ws : List (Option Span)) (k n : ℕ) (w : Option Span) → eqb k n ≡ c → (b && c) ≡ false → IsSome (walk_at ws n) → IsSome (walk_at (if b then slice_set ws k w else ws) n)
if-other true true ws k n w q e o = absurd (cc)
if-other true false ws k n w q e o = set-other ws k n w q o
if-other false c ws k n w q e o = o

if-some : (b : Bool) (ws : List (Option Span)) (k n : ℕ) (w : Option Span) → IsSome w → IsSome (walk_at ws n) → IsSome (walk_at (if b then slice_set ws k w else ws) n)
if-some true ws k n w s o = set-some ws k n w s o
if-some false ws k n w s o = o

same_place : (i j : ℕ) → is_at i j ≡ true → i ≡ j
same_place zero zero e = refl
same_place zero (suc j) e = absurd (cc)
same_place (suc i) zero e = absurd (cc)
same_place (suc i) (suc j) e = ap suc (same_place i j e)

not_both : (b c : Bool) → (b ≡ true → c ≡ true → ⊥) → (b && c) ≡ false
not_both true true h = absurd (h refl refl)
not_both true false h = refl
not_both false c h = refl

apart : (i j k n : ℕ) → (i ≡ j → k ≡ n → ⊥) → (is_at i j && eqb k n) ≡ false
apart i j k n h = not_both (is_at i j) (eqb k n) (λ e f. h (same_place i j e) (eqb-true k n f))

-- walks that are left alone stay open
pub open-left : (t u : Table) → walks_at u ≡ walks_at t → u.bare ≡ t.bare → StayOpen t u
open-left t u e b Bare o = rw b o
open-left t u e b (On i w) o = rw (ap (λ f. f i) e) o

-- and so do those beside one that goes on
pub open-gone_on : (t u : Table) (a : EventWalk) (r : Option FunId) → IsOpen t a → Goes t a r u → u.bare ≡ t.bare → StayOpen t u
open-gone_on t u Bare r p g b v o = open-left t u g.1 b v o
open-gone_on t u (On i w) r p g b Bare o = rw b o
open-gone_on t u (On i w) r p g b (On j v) o =
    rw (ap (λ f. f j) g.1) (if-some (is_at i j) (walks_at t j) w.slot v.slot (walk_at (walks_at u i) w.slot) (hears-open (heard_at (lists_of t) i).entries (walk_at (walks_at t i) w.slot) (walk_at (walks_at u i) w.slot) r p g.0) o)

-- those beside one that ends
pub open-ended_other : (t u : Table) (w v : EventWalk) → Ends t w u → IsOpen t v → AreApart v w → IsOpen u v
open-ended_other t u Bare Bare e o a = absurd a
open-ended_other t u Bare (On j v) e o a = rw (ap (λ f. f j) e.1) o
open-ended_other t u (On i w) Bare e o a = rw e.0 o
open-ended_other t u (On i w) (On j v) e o a =
    rw (ap (λ f. f j) e.1) (if-other (is_at i j) (eqb w.slot v.slot) (walks_at t j) w.slot v.slot None refl (apart i j w.slot v.slot (λ p q. a (sym p) (sym q))) o)

-- an open walk is not where none is
taken : (ws : ℕ → List (Option Span)) (i j k n : ℕ) → walk_at (ws i) k ≡ None → IsSome (walk_at (ws j) n) → j ≡ i → n ≡ k → ⊥
taken ws i j k n e o p q = let h : walk_at (ws j) n ≡ None = rw (p, q) e in cc

-- those beside one that is begun, which is none of them
pub open-begun_other : (t u : Table) (s : ℕ) (n : List ℕ) (i : ℕ) (w : Walk) (v : EventWalk) → Begins t s n (On i w) u → IsOpen t v → IsOpen u v × AreApart v (On i w)
open-begun_other t u s n i w Bare b o = (rw b.2 o, tt)
open-begun_other t u s n i w (On j v) b o =
    let h = taken (walks_at t) i j w.slot v.slot b.3 o in
    (rw (ap (λ f. f j) b.5) (if-other (is_at i j) (eqb w.slot v.slot) (walks_at t j) w.slot v.slot _ refl (apart i j w.slot v.slot (λ p q. h (sym p) (sym q))) o), h)

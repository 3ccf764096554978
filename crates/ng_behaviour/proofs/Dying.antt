-- A tree in which a scope and all below it die is a tree; one dies at a time, and its path leaves the index of the live ones.
use Rattle.std.proofs.Common.{ℕ, zero, suc, ◌<◌, ◌≡◌, Bool, true, false, cond, List, [], ◌∷◌, ◌++◌, length, Option, Some, None, refl, ap, sym, ◌∙◌, arith, inl, inr, ◌⊎◌}
use Rattle.std.specs.Prelude.{option_and_then, bytes_eq}
use Rattle.std.specs.Ordering.{is_eq}
use Rattle.std.proofs.lemmas.Slice.Eq.{bytes_eq-Decides}
use Rattle.ng_base.specs.Order.{path_cmp, path_cmp-eq}
use Rattle.ng_behaviour.specs.Scopes.{Scope, scope_at, path_at, live_at, children_at, begins, at, change_at, dead, dying_under, dead_under, live_scope, IsLed, IsScopeTree}
use Rattle.ng_behaviour.proofs.Paths.{begins-through}
use Rattle.ng_behaviour.proofs.ScopeTree.{and-then-some, change-length, change-same, change-other, change-keeps, down-same, down-path}

abbrev pub kill : List Scope → ℕ → List Scope
kill t s = change_at t s dead

dying-keeps : {A : Type 0} (g : Scope → A) (u : List ℕ) (x : Scope) → ((y : Scope) → g (dead y) ≡ g y) → g (dying_under u x) ≡ g x
dying-keeps g u x k = elim (begins u x.path) as (λ b. g (cond b (dead x) x) ≡ g x) [ true ↦ k x | false ↦ refl ]

pub dead-keeps : {A : Type 0} (g : Scope → A) (u : List ℕ) (t : List Scope) (s : ℕ) → ((x : Scope) → g (dead x) ≡ g x) → g (scope_at (dead_under u t) s) ≡ g (scope_at t s)
dead-keeps g u [] s k = refl
dead-keeps g u (x ∷ t) zero k = dying-keeps g u x k
dead-keeps g u (x ∷ t) (suc s) k = dead-keeps g u t s k

pub dead-live : (u : List ℕ) (t : List Scope) (s : ℕ) → live_at (dead_under u t) s ≡ cond (begins u (path_at t s)) false (live_at t s)
dead-live u [] s = elim (begins u []) as (λ b. false ≡ cond b false false) [ true ↦ refl | false ↦ refl ]
dead-live u (x ∷ t) zero = elim (begins u x.path) as (λ b. (cond b (dead x) x).live ≡ cond b false x.live) [ true ↦ refl | false ↦ refl ]
dead-live u (x ∷ t) (suc s) = dead-live u t s

pub dead-length : (u : List ℕ) (t : List Scope) → length (dead_under u t) ≡ length t
dead-length u [] = refl
dead-length u (x ∷ t) = ap suc (dead-length u t)

pub dead-path : (u : List ℕ) (t : List Scope) (s : ℕ) → path_at (dead_under u t) s ≡ path_at t s
dead-path u t s = dead-keeps (λ x. x.path) u t s (λ x. refl)

dead-children : (u : List ℕ) (t : List Scope) (s : ℕ) → children_at (dead_under u t) s ≡ children_at t s
dead-children u t s = dead-keeps (λ x. x.children) u t s (λ x. refl)

dead-at : (u : List ℕ) (t : List Scope) (p : List ℕ) → at (dead_under u t) p ≡ at t p
dead-at u t p = down-same t (dead_under u t) (dead-children u t) 0 p

live-split : (a b : Bool) → cond a false b ≡ true → (a ≡ false) × (b ≡ true)
live-split true b h = absurd (cc)
live-split false b h = (refl, h)

lively-dead : (u : List ℕ) (t : List Scope) (s r : ℕ) → (live_at t r ≡ true → live_at t s ≡ true) → begins (path_at t s) (path_at t r) ≡ true → live_at (dead_under u t) r ≡ true → (b : Bool) → begins u (path_at t s) ≡ b → cond b false (live_at t s) ≡ true
lively-dead u t s r k b v true e =
    let q = live-split (begins u (path_at t r)) (live_at t r) (sym (dead-live u t r) ∙ v) in
    absurd (let z = begins-through u (path_at t s) (path_at t r) e b in cc)
lively-dead u t s r k b v false e = k (live-split (begins u (path_at t r)) (live_at t r) (sym (dead-live u t r) ∙ v)).1

pub tree-dies : (t : List Scope) (u : List ℕ) → IsScopeTree t → IsScopeTree (dead_under u t)
tree-dies t u i = record {
  root = rw (dead-length u t) i.root;
  top = dead-path u t 0 ∙ i.top;
  leads = λ s h. rw (dead-path u t s, dead-at u t (path_at t s)) (i.leads s (rw (dead-length u t) at h));
  numbered = λ s k c h. let a = i.numbered s k c (rw (dead-children u t s) at h) in (rw (dead-length u t) a.0, dead-path u t c ∙ a.1 ∙ ap (λ p. p ++ k ∷ []) (sym (dead-path u t s)));
  lively = λ s r h l b v. rw (dead-live u t s) (lively-dead u t s r (λ w. i.lively s r (rw (dead-length u t) at h) (rw (dead-length u t) at l) (rw (dead-path u t s, dead-path u t r) at b) w) (rw (dead-path u t s, dead-path u t r) at b) v (begins u (path_at t s)) refl);
}

-- one that dies of those that are to die
pub kill-end : (u : List ℕ) (t : List Scope) (s : ℕ) → begins u (path_at t s) ≡ true → dead_under u (kill t s) ≡ dead_under u t
kill-end u [] s h = refl
kill-end u (x ∷ t) zero h = ap (λ y. y ∷ dead_under u t) (rw h refl)
kill-end u (x ∷ t) (suc s) h = ap (λ ys. dying_under u x ∷ ys) (kill-end u t s h)

dead-same : (x : Scope) → x.live ≡ false → dead x ≡ x
dead-same x h = ap (λ (b : Bool). record { path = x.path; parent = x.parent; object = x.object; live = b; children = x.children }) (sym h)

dying-same : (u : List ℕ) (x : Scope) (b : Bool) → (b ≡ true → x.live ≡ false) → cond b (dead x) x ≡ x
dying-same u x true h = dead-same x (h refl)
dying-same u x false h = refl

-- where none of them is live, all is done
pub kill-done : (u : List ℕ) (t : List Scope) → ((r : ℕ) → r < length t → begins u (path_at t r) ≡ true → live_at t r ≡ false) → dead_under u t ≡ t
kill-done u [] h = refl
kill-done u (x ∷ t) h = ap (λ y. y ∷ dead_under u t) (dying-same u x (begins u x.path) (h 0 (omega arith))) ∙ ap (λ ys. x ∷ ys) (kill-done u t (λ r l. h (suc r) (omega arith)))

pub led-tree : (t : List Scope) → IsScopeTree t → IsLed t
led-tree t i = record {
  leads = i.leads;
  back = λ p r e. let a = down-path t i.numbered 0 p r i.root e in (a.0, a.1 ∙ ap (λ q. q ++ p) i.top);
}

kill-at : (t : List Scope) (s : ℕ) (p : List ℕ) → at (kill t s) p ≡ at t p
kill-at t s p = down-same t (kill t s) (λ r. change-keeps (λ x. x.children) t s r dead (λ x. refl)) 0 p

kill-path : (t : List Scope) (s r : ℕ) → path_at (kill t s) r ≡ path_at t r
kill-path t s r = change-keeps (λ x. x.path) t s r dead (λ x. refl)

pub led-kill : (t : List Scope) (s : ℕ) → IsLed t → IsLed (kill t s)
led-kill t s i = record {
  leads = λ r h. rw (kill-path t s r, kill-at t s (path_at t r)) (i.leads r (rw (change-length t s dead) at h));
  back = λ p r e. let a = i.back p r (sym (kill-at t s p) ∙ e) in (rw (change-length t s dead) a.0, kill-path t s r ∙ a.1);
}

pub path-tells : (p q : List ℕ) → ((is_eq (path_cmp p q) ≡ true) × (p ≡ q)) ⊎ ((is_eq (path_cmp p q) ≡ false) × (p ≡ q → ⊥))
path-tells p q = tells (bytes_eq p q) refl
  where
    tells : (b : Bool) → bytes_eq p q ≡ b → ((is_eq (path_cmp p q) ≡ true) × (p ≡ q)) ⊎ ((is_eq (path_cmp p q) ≡ false) × (p ≡ q → ⊥))
    tells true e = inl (sym (path_cmp-eq p q) ∙ e, (bytes_eq-Decides p q).0 e)
    tells false e = inr (sym (path_cmp-eq p q) ∙ e, λ h. let z = (bytes_eq-Decides p q).1 h in cc)

live-killed : (t : List Scope) (s : ℕ) (p : List ℕ) → IsLed t → s < length t → (p ≡ path_at t s → ⊥) → (o : Option ℕ) → at t p ≡ o → option_and_then (λ r. cond (live_at (kill t s) r) (Some r) None) o ≡ option_and_then (λ r. cond (live_at t r) (Some r) None) o
live-killed t s p i h n None e = refl
live-killed t s p i h n (Some r) e =
    let a = i.back p r e in
    let other : r ≡ s → ⊥ = λ q. n (sym a.1 ∙ ap (path_at t) q) in
    ap (λ b. cond b (Some r) None) (ap (λ x. x.live) (change-other t s r dead other))

-- its path leads to no live scope, and every other as before
pub kill-index : (t : List Scope) (s : ℕ) (p : List ℕ) → IsLed t → s < length t → live_scope (kill t s) p ≡ cond (is_eq (path_cmp (path_at t s) p)) None (live_scope t p)
kill-index t s p i h = elim (path-tells (path_at t s) p) [
  | inl y ↦ rw y.0 (ap (option_and_then (λ r. cond (live_at (kill t s) r) (Some r) None)) (kill-at t s p ∙ ap (at t) (sym y.1) ∙ i.leads s h) ∙ ap (λ b. cond b (Some s) None) (ap (λ x. x.live) (change-same t s dead h)))
  | inr n ↦ rw n.0 (ap (option_and_then (λ r. cond (live_at (kill t s) r) (Some r) None)) (kill-at t s p) ∙ live-killed t s p i h (λ e. n.1 (sym e)) (at t p) refl)
]

live-is : (b : Bool) (r s : ℕ) → cond b (Some r) None ≡ Some s → (b ≡ true) × (r ≡ s)
live-is true r s h = (refl, cc)
live-is false r s h = absurd (cc)

-- a live scope that a path leads to
pub live-found : (t : List Scope) (p : List ℕ) (s : ℕ) → IsLed t → live_scope t p ≡ Some s → (s < length t) × (path_at t s ≡ p) × (live_at t s ≡ true) × (at t p ≡ Some s)
live-found t p s i h =
    let a = and-then-some (at t p) (λ r. cond (live_at t r) (Some r) None) s h in
    let b = live-is (live_at t a.0) a.0 s a.2 in
    let e : at t p ≡ Some s = a.1 ∙ ap Some b.1 in
    let c = i.back p s e in
    (c.0, c.1, ap (live_at t) (sym b.1) ∙ b.0, e)

pub live-scope : (t : List Scope) (s : ℕ) → IsLed t → s < length t → live_scope t (path_at t s) ≡ cond (live_at t s) (Some s) None
live-scope t s i h = rw (i.leads s h) refl

pub not-live : (t : List Scope) (s : ℕ) → IsLed t → s < length t → live_scope t (path_at t s) ≡ None → live_at t s ≡ false
not-live t s i h e = is-none (live_at t s) (sym (live-scope t s i h) ∙ e)
  where
    is-none : (b : Bool) → cond b (Some s) None ≡ None → b ≡ false
    is-none true e = absurd (cc)
    is-none false e = refl

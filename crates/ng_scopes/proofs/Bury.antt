-- One live scope dies after another.
use Rattle.std.proofs.Common.{◌≡◌, ◌<◌, ℕ, true, cond, List, length, Option, None, refl, ap, sym, ◌∙◌}
use Rattle.std.specs.Ordering.{is_eq}
use Rattle.std.specs.declared.ops.Bound.TheVariants.{Included}
use Rattle.ng_base.specs.Order.{path_cmp}
use Rattle.ng_behaviour.specs.Scopes.{Scope, path_at, live_at, begins, change_at, dead, dead_under, live_scope, IsLed}
use Rattle.ng_behaviour.proofs.Paths.{begins-after}
use Rattle.ng_behaviour.proofs.ScopeTree.{change-keeps}
use Rattle.ng_behaviour.proofs.Dying.{kill-end, kill-done, kill-index, led-kill, live-found, not-live}
use Rattle.ng_scopes.specs.Index.{IsFirst, NoneFrom}

-- the scope that a search gave
pub record IsToDie (t : List Scope) (u : List ℕ) (s : ℕ) : Type 0 where
  pub within : s < length t
  pub under : begins u (path_at t s) ≡ true
  pub live : live_at t s ≡ true

pub to-die : (t : List Scope) (find : List ℕ → Option ℕ) (u : List ℕ) (s : ℕ) → IsLed t → ((p : List ℕ) → find p ≡ live_scope t p) → IsFirst find (Included u) u s → IsToDie t u s
to-die t find u s i k f =
    let a = live-found t f.path s i (sym (k f.path) ∙ f.found) in
    record { within = a.0; under = ap (begins u) a.1 ∙ f.under; live = a.2 }

pub die-end : (t : List Scope) (u : List ℕ) (s : ℕ) → IsToDie t u s → dead_under u (change_at t s dead) ≡ dead_under u t
die-end t u s d = kill-end u t s d.under

pub die-path : (t : List Scope) (s r : ℕ) → path_at (change_at t s dead) r ≡ path_at t r
die-path t s r = change-keeps (λ x. x.path) t s r dead (λ x. refl)

pub die-led : (t : List Scope) (s : ℕ) → IsLed t → IsLed (change_at t s dead)
die-led t s i = led-kill t s i

pub die-done : (t : List Scope) (find : List ℕ → Option ℕ) (u : List ℕ) → IsLed t → ((p : List ℕ) → find p ≡ live_scope t p) → NoneFrom find (Included u) u → dead_under u t ≡ t
die-done t find u i k n = kill-done u t (λ r h b. not-live t r i h (sym (k (path_at t r)) ∙ n (path_at t r) (begins-after u (path_at t r) b) b))

pub die-index : (t : List Scope) (s : ℕ) (find new : List ℕ → Option ℕ) → IsLed t → s < length t → ((p : List ℕ) → find p ≡ live_scope t p) → ((p : List ℕ) → new p ≡ cond (is_eq (path_cmp (path_at t s) p)) None (find p)) → (p : List ℕ) → new p ≡ live_scope (change_at t s dead) p
die-index t s find new i h k u p = u p ∙ (ap (λ o. cond (is_eq (path_cmp (path_at t s) p)) None o) (k p) ∙ sym (kill-index t s p i h))

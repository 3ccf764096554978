-- The first live path ahead of a place, of those that begin with another, is the next scope's.
use Rattle.std.proofs.Common.{◌≡◌, ◌<◌, ℕ, Bool, true, false, ◌&&◌, List, length, Option, Some, None, refl, ap, sym, ◌∙◌}
use Rattle.std.specs.Prelude.{MatchOption}
use Rattle.std.specs.Ordering.{is_lt, is_gt, ordering_reverse}
use Rattle.std.specs.declared.cmp.Ordering.{Ordering}
use Rattle.std.specs.declared.cmp.Ordering.TheVariants.{Less, Equal, Greater}
use Rattle.std.specs.declared.ops.Bound.TheVariants.{Included, Excluded}
use Rattle.std.specs.Cmp.{first_so, second_so}
use Rattle.std.proofs.lemmas.Cmp.{alike_right}
use Rattle.ng_base.specs.Order.{path_cmp, path_cmp_total}
use Rattle.ng_behaviour.specs.Scopes.{Scope, scope_at, path_at, live_at, begins, live_scope, is_ahead, next_scope, NoneAhead, IsNextScope, IsLed}
use Rattle.ng_behaviour.proofs.Paths.{begins-after}
use Rattle.ng_behaviour.proofs.Dying.{live-found}
use Rattle.ng_behaviour.proofs.NextScope.{IsLeastAhead, next-is, next-none}
use Rattle.ng_scopes.specs.Index.{IsFirst, NoneFrom, IsFirstAhead, NoneAbove}

less-upto : (p u q : List ℕ) → path_cmp p u ≡ Less → is_gt (path_cmp u q) ≡ false → path_cmp p q ≡ Less
less-upto p u q l m = by-order (path_cmp u q) refl m
  where
    by-order : (o : Ordering) → path_cmp u q ≡ o → is_gt o ≡ false → path_cmp p q ≡ Less
    by-order Less e h = path_cmp_total.trans p u q l e
    by-order Equal e h = sym (alike_right path_cmp_total u q p e) ∙ l
    by-order Greater e h = absurd (cc)

pub not-less : (p u : List ℕ) → is_lt (path_cmp p u) ≡ false → is_gt (path_cmp u p) ≡ false
not-less p u h = ap is_gt (path_cmp_total.antisymm u p) ∙ reversed (path_cmp p u) h
  where
    reversed : (o : Ordering) → is_lt o ≡ false → is_gt (ordering_reverse o) ≡ false
    reversed Less h = absurd (cc)
    reversed Equal h = refl
    reversed Greater h = refl

pub from-below : (find : List ℕ → Option ℕ) (p u : List ℕ) (o : Option ℕ) → path_cmp p u ≡ Less → MatchOption o (NoneFrom find (Included u) u) (IsFirst find (Included u) u) → MatchOption o (NoneAbove find p u) (IsFirstAhead find p u)
from-below find p u None l n = λ q a b. n q (begins-after u q b) b
from-below find p u (Some s) l n = record {
  path = n.path;
  above = less-upto p u n.path l n.from;
  under = n.under;
  found = n.found;
  least = λ q a b c. n.least q (begins-after u q b) c;
}

pub from-above : (find : List ℕ → Option ℕ) (p u : List ℕ) (o : Option ℕ) → MatchOption o (NoneFrom find (Excluded p) u) (IsFirst find (Excluded p) u) → MatchOption o (NoneAbove find p u) (IsFirstAhead find p u)
from-above find p u None n = n
from-above find p u (Some s) n = record { path = n.path; above = n.from; under = n.under; found = n.found; least = λ q a b c. n.least q a c }

pub less-is : (o : Ordering) → is_lt o ≡ true → o ≡ Less
less-is Less h = refl
less-is Equal h = absurd (cc)
less-is Greater h = absurd (cc)

both : (a b c : Bool) → a ≡ true → b ≡ true → c ≡ true → (a && (b && c)) ≡ true
both a b c x y z = rw (x, y, z) refl

-- a scope that is ahead is found by its path
ahead-found : (t : List Scope) (find : List ℕ → Option ℕ) (p u : List ℕ) (r : ℕ) → IsLed t → ((q : List ℕ) → find q ≡ live_scope t q) → r < length t → is_ahead p u (scope_at t r) ≡ true → (path_cmp p (path_at t r) ≡ Less) × (begins u (path_at t r) ≡ true) × (find (path_at t r) ≡ Some r)
ahead-found t find p u r i k h a =
    let live = first_so (live_at t r) _ a in
    let rest = second_so (live_at t r) _ a in (
      less-is _ (first_so (is_lt (path_cmp p (path_at t r))) _ rest),
      second_so (is_lt (path_cmp p (path_at t r))) _ rest,
      k (path_at t r) ∙ rw (i.leads r h, live) refl,
    )

pub found-ahead : (t : List Scope) (find : List ℕ → Option ℕ) (p u : List ℕ) (s : ℕ) → IsLed t → ((q : List ℕ) → find q ≡ live_scope t q) → IsFirstAhead find p u s → (next_scope t p u ≡ Some s) × IsNextScope t p u s
found-ahead t find p u s i k f =
    let a = live-found t f.path s i (sym (k f.path) ∙ f.found) in
    let ahead : is_ahead p u (scope_at t s) ≡ true = both (live_at t s) (is_lt (path_cmp p (path_at t s))) (begins u (path_at t s)) a.2 (ap is_lt (ap (path_cmp p) a.1 ∙ f.above)) (ap (begins u) a.1 ∙ f.under) in
    let least = λ (r : ℕ) (h : r < length t) (b : is_ahead p u (scope_at t r) ≡ true). let c = ahead-found t find p u r i k h b in f.least (path_at t r) c.0 c.1 (rw c.2 refl) in
    let is : IsLeastAhead t p u f.path = record { scope = s; stands = a.0; ahead = ahead; path = a.1; least = least } in (
      rw (next-is t p u f.path is) a.3,
      record { stands = a.0; ahead = ahead; least = λ r h b. ap (λ q. is_gt (path_cmp q (path_at t r))) a.1 ∙ least r h b },
    )

ahead-none : (t : List Scope) (find : List ℕ → Option ℕ) (p u : List ℕ) → IsLed t → ((q : List ℕ) → find q ≡ live_scope t q) → NoneAbove find p u → NoneAhead t p u
ahead-none t find p u i k n r h = by-test (is_ahead p u (scope_at t r)) refl
  where
    by-test : (b : Bool) → is_ahead p u (scope_at t r) ≡ b → is_ahead p u (scope_at t r) ≡ false
    by-test false e = e
    by-test true e = absurd (let c = ahead-found t find p u r i k h e in let z = n (path_at t r) c.0 c.1 in let y = c.2 in cc)

pub none-ahead : (t : List Scope) (find : List ℕ → Option ℕ) (p u : List ℕ) → IsLed t → ((q : List ℕ) → find q ≡ live_scope t q) → NoneAbove find p u → (next_scope t p u ≡ None) × NoneAhead t p u
none-ahead t find p u i k n =
    let a = ahead-none t find p u i k n in
    (rw (next-none t p u a) refl, a)

pub ruleset bounds = (not-less, from-below, from-above, less-is)

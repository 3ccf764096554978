-- The next scope is the least of those ahead.
use Rattle.std.proofs.Common.{ℕ, zero, suc, ◌<◌, ◌≡◌, Bool, true, false, cond, ◌&&◌, List, [], ◌∷◌, length, Option, Some, None, refl, ap, sym, ◌∙◌, arith}
use Rattle.std.specs.Prelude.{MatchOption}
use Rattle.std.specs.Ordering.{is_lt, is_gt, ordering_reverse}
use Rattle.std.specs.declared.cmp.Ordering.{Ordering}
use Rattle.std.specs.declared.cmp.Ordering.TheVariants.{Less, Equal, Greater}
use Rattle.std.proofs.lemmas.Cmp.{upto, tied_itself}
use Rattle.ng_base.specs.Order.{path_cmp, path_cmp_total}
use Rattle.ng_behaviour.specs.Scopes.{Scope, scope_at, path_at, is_ahead, nearer, next_path, NoneAhead}
use Rattle.ng_behaviour.proofs.Paths.{path-same}

pub record IsLeastAhead (t : List Scope) (p u b : List ℕ) : Type 0 where
  pub scope : ℕ
  pub stands : scope < length t
  pub ahead : is_ahead p u (scope_at t scope) ≡ true
  pub path : path_at t scope ≡ b
  pub least : (r : ℕ) → r < length t → is_ahead p u (scope_at t r) ≡ true → is_gt (path_cmp b (path_at t r)) ≡ false

abbrev pub Nearest : List Scope → List ℕ → List ℕ → Option (List ℕ) → Type 0
Nearest t p u o = MatchOption o (NoneAhead t p u) (IsLeastAhead t p u)

less-not_above : (o : Ordering) → is_lt o ≡ true → is_gt o ≡ false
less-not_above Less h = refl
less-not_above Equal h = absurd (cc)
less-not_above Greater h = absurd (cc)

not_less-above : (o : Ordering) → is_lt o ≡ false → is_gt (ordering_reverse o) ≡ false
not_less-above Less h = absurd (cc)
not_less-above Equal h = refl
not_less-above Greater h = refl

at-itself : (p : List ℕ) → is_gt (path_cmp p p) ≡ false
at-itself p = ap is_gt (tied_itself path_cmp_total p)

-- the first is not ahead
skipped : (x : Scope) (t : List Scope) (p u : List ℕ) (o : Option (List ℕ)) → is_ahead p u x ≡ false → Nearest t p u o → Nearest (x ∷ t) p u o
skipped x t p u None e n = none
  where
    none : NoneAhead (x ∷ t) p u
    none zero h = e
    none (suc r) h = n r (omega arith)
skipped x t p u (Some b) e n = record { scope = suc n.scope; stands = let z = n.stands in omega arith; ahead = n.ahead; path = n.path; least = least }
  where
    least : (r : ℕ) → r < length (x ∷ t) → is_ahead p u (scope_at (x ∷ t) r) ≡ true → is_gt (path_cmp b (path_at (x ∷ t) r)) ≡ false
    least zero h a = absurd (cc)
    least (suc r) h a = n.least r (omega arith) a

-- the first is ahead, and none of the others
alone : (x : Scope) (t : List Scope) (p u : List ℕ) → is_ahead p u x ≡ true → NoneAhead t p u → IsLeastAhead (x ∷ t) p u x.path
alone x t p u e n = record { scope = 0; stands = omega arith; ahead = e; path = refl; least = least }
  where
    least : (r : ℕ) → r < length (x ∷ t) → is_ahead p u (scope_at (x ∷ t) r) ≡ true → is_gt (path_cmp x.path (path_at (x ∷ t) r)) ≡ false
    least zero h a = at-itself x.path
    least (suc r) h a = absurd (let z = n r (omega arith) in cc)

-- the first is ahead of the best of the others
before : (x : Scope) (t : List Scope) (p u b : List ℕ) → is_ahead p u x ≡ true → is_lt (path_cmp x.path b) ≡ true → IsLeastAhead t p u b → IsLeastAhead (x ∷ t) p u x.path
before x t p u b e l n = record { scope = 0; stands = omega arith; ahead = e; path = refl; least = least }
  where
    least : (r : ℕ) → r < length (x ∷ t) → is_ahead p u (scope_at (x ∷ t) r) ≡ true → is_gt (path_cmp x.path (path_at (x ∷ t) r)) ≡ false
    least zero h a = at-itself x.path
    least (suc r) h a = upto path_cmp_total x.path b (path_at t r) (less-not_above (path_cmp x.path b) l) (n.least r (omega arith) a)

-- the best of the others stays
behind : (x : Scope) (t : List Scope) (p u b : List ℕ) → is_lt (path_cmp x.path b) ≡ false → IsLeastAhead t p u b → IsLeastAhead (x ∷ t) p u b
behind x t p u b l n = record { scope = suc n.scope; stands = let z = n.stands in omega arith; ahead = n.ahead; path = n.path; least = least }
  where
    least : (r : ℕ) → r < length (x ∷ t) → is_ahead p u (scope_at (x ∷ t) r) ≡ true → is_gt (path_cmp b (path_at (x ∷ t) r)) ≡ false
    least zero h a = ap is_gt (path_cmp_total.antisymm b x.path) ∙ not_less-above (path_cmp x.path b) l
    least (suc r) h a = n.least r (omega arith) a

nearest-step : (x : Scope) (t : List Scope) (p u : List ℕ) (a : Bool) (o : Option (List ℕ)) → is_ahead p u x ≡ a → Nearest t p u o → Nearest (x ∷ t) p u (cond (a && nearer x.path o) (Some x.path) o)
nearest-step x t p u false o e n = skipped x t p u o e n
nearest-step x t p u true None e n = alone x t p u e n
nearest-step x t p u true (Some b) e n = chosen (is_lt (path_cmp x.path b)) refl
  where
    chosen : (l : Bool) → is_lt (path_cmp x.path b) ≡ l → Nearest (x ∷ t) p u (cond l (Some x.path) (Some b))
    chosen true l = before x t p u b e l n
    chosen false l = behind x t p u b l n

pub next_path-is : (t : List Scope) (p u : List ℕ) → Nearest t p u (next_path t p u)
next_path-is [] p u = λ r h. absurd (omega arith)
next_path-is (x ∷ t) p u = nearest-step x t p u (is_ahead p u x) (next_path t p u) refl (next_path-is t p u)

-- the least of those ahead is the next
pub next-is : (t : List Scope) (p u b : List ℕ) → IsLeastAhead t p u b → next_path t p u ≡ Some b
next-is t p u b i = same (next_path t p u) refl (next_path-is t p u)
  where
    same : (o : Option (List ℕ)) → next_path t p u ≡ o → Nearest t p u o → next_path t p u ≡ Some b
    same None e n = absurd (let z = n i.scope i.stands in let y = i.ahead in cc)
    same (Some c) e n =
        let up = n.least i.scope i.stands i.ahead in
        let down = i.least n.scope n.stands n.ahead in
        e ∙ ap Some (path-same c b (ap (λ q. is_gt (path_cmp c q)) (sym i.path) ∙ up) (ap (λ q. is_gt (path_cmp b q)) (sym n.path) ∙ down))

pub next-none : (t : List Scope) (p u : List ℕ) → NoneAhead t p u → next_path t p u ≡ None
next-none t p u k = same (next_path t p u) refl (next_path-is t p u)
  where
    same : (o : Option (List ℕ)) → next_path t p u ≡ o → Nearest t p u o → next_path t p u ≡ None
    same None e n = e
    same (Some c) e n = absurd (let z = k n.scope n.stands in let y = n.ahead in cc)

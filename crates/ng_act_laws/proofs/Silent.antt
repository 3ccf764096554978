-- Where a scope is buried, no listener stands at it nor at a live scope below it.
use Rattle.std.proofs.Common.{◌≡◌, ◌<◌, ◌≤◌, ◌+◌, ℕ, zero, suc, Bool, true, false, not, eqb, ◌&&◌, if◌then◌else◌, List, [], ◌∷◌, length, map, Option, Some, None, refl, ap, sym, ◌∙◌, arith, rules, subst, inl, inr}
use Rattle.std.specs.Prelude.{MatchOption}
use Rattle.std.specs.Ordering.{is_lt, is_gt, is_eq, ordering_reverse}
use Rattle.std.specs.declared.cmp.Ordering.{Ordering}
use Rattle.std.specs.declared.cmp.Ordering.TheVariants.{Less, Equal, Greater}
use Rattle.std.proofs.lemmas.Bool.Decides.{eqb_tells}
use Rattle.std.proofs.lemmas.Cmp.{tied_itself}
use Rattle.ng_base.specs.Order.{path_cmp, path_cmp_total}
use Rattle.ng_behaviour.specs.Listeners.{Heard, heard_at, quiet, without_listeners_of}
use Rattle.ng_behaviour.specs.Scopes.{Scope, scope_at, path_at, live_at, at, begins, is_ahead, next_scope, IsScopeTree, IsNextScope, NoneAhead}
use Rattle.ng_behaviour.proofs.Paths.{begins-itself, begins-after}
use Rattle.ng_behaviour.proofs.Dying.{path-tells}
use Rattle.ng_behaviour.proofs.ScopeLaws.{next_law}
use Rattle.ng_core.specs.Burying.{next_then, hushed, hushes, buried, many}
use Rattle.ng_act_laws.specs.Laws.{IsQuiet}
use Rattle.ng_core.specs.State.{State, with_change, leaves}

-- lists that are emptied keep their scopes
quiet_scope : (xs : List Heard) (s i : ℕ) → (heard_at (without_listeners_of xs s) i).scope ≡ (heard_at xs i).scope
quiet_scope [] s i = refl
quiet_scope (x ∷ xs) s zero = refl
quiet_scope (x ∷ xs) s (suc i) = quiet_scope xs s i

emptied : {A : Type 0} (b : Bool) (es : List A) → es ≡ [] → (if b then [] else es) ≡ []
emptied true es h = refl
emptied false es h = h

quiet_empty : (xs : List Heard) (s i : ℕ) → (heard_at xs i).entries ≡ [] → (heard_at (without_listeners_of xs s) i).entries ≡ []
quiet_empty [] s i h = refl
quiet_empty (x ∷ xs) s zero h = emptied (eqb s x.scope) x.entries h
quiet_empty (x ∷ xs) s (suc i) h = quiet_empty xs s i h

quiet_own : (xs : List Heard) (s i : ℕ) → (heard_at xs i).scope ≡ s → (heard_at (without_listeners_of xs s) i).entries ≡ []
quiet_own [] s i h = refl
quiet_own (x ∷ xs) s zero h = elim (eqb_tells s x.scope) [
  | inl t ↦ rw t.0 refl
  | inr t ↦ absurd (t.1 (sym h))
]
quiet_own (x ∷ xs) s (suc i) h = quiet_own xs s i h

pub quiet_kept : (xs : List Heard) (s r : ℕ) → IsQuiet r xs → IsQuiet r (without_listeners_of xs s)
quiet_kept xs s r q i h = quiet_empty xs s i (q i (sym (quiet_scope xs s i) ∙ h))

quiet_itself : (xs : List Heard) (r : ℕ) → IsQuiet r (without_listeners_of xs r)
quiet_itself xs r i h = quiet_own xs r i (sym (quiet_scope xs r i) ∙ h)

next_quiet : (o : Option ℕ) (s : State) (f : ℕ → State) (r : ℕ) → IsQuiet r s.heard → ((sc : ℕ) → IsQuiet r (f sc).heard) → IsQuiet r (next_then o s f).heard
next_quiet None s f r q h = q
next_quiet (Some sc) s f r q h = h sc

pub hushes_quiet : (k top last r : ℕ) (s : State) → IsQuiet r s.heard → IsQuiet r (hushes k top last s).heard
hushes_quiet zero top last r s q = q
hushes_quiet (suc k) top last r s q =
    next_quiet (next_scope s.scopes (path_at s.scopes last) (path_at s.scopes top)) s (λ sc. hushes k top sc (hushed sc s)) r q
    (λ sc. hushes_quiet k top sc r (hushed sc s) (quiet_kept s.heard sc r q))

-- how many scopes are ahead
abbrev count_ahead : List Scope → List ℕ → List ℕ → ℕ
count_ahead [] p u = 0
count_ahead (x ∷ t) p u = if is_ahead p u x then suc (count_ahead t p u) else count_ahead t p u

abbrev one_more : Bool → ℕ → ℕ
one_more b n = if b then suc n else n

count_below : (t : List Scope) (p u : List ℕ) → count_ahead t p u ≤ length t
count_below [] p u = omega arith
count_below (x ∷ t) p u = by (is_ahead p u x) (count_below t p u)
  where
    by : (b : Bool) → count_ahead t p u ≤ length t → one_more b (count_ahead t p u) ≤ suc (length t)
    by true h = omega arith
    by false h = omega arith

count_some : (t : List Scope) (p u : List ℕ) (r : ℕ) → r < length t → is_ahead p u (scope_at t r) ≡ true → 0 < count_ahead t p u
count_some [] p u r l a = absurd (omega arith)
count_some (x ∷ t) p u zero l a = rw a (omega arith)
count_some (x ∷ t) p u (suc r) l a = by (is_ahead p u x) (count_some t p u r (omega arith) a)
  where
    by : (b : Bool) → 0 < count_ahead t p u → 0 < one_more b (count_ahead t p u)
    by true h = omega arith
    by false h = h

one_less : (a b : Bool) (m n : ℕ) → (b ≡ true → a ≡ true) → n ≤ m → one_more b n ≤ one_more a m
one_less true true m n f h = omega arith
one_less true false m n f h = omega arith
one_less false true m n f h = absurd (let z : false ≡ true = f refl in cc)
one_less false false m n f h = h

count_falls : (t : List Scope) (p q u : List ℕ) → ((x : Scope) → is_ahead q u x ≡ true → is_ahead p u x ≡ true) → count_ahead t q u ≤ count_ahead t p u
count_falls [] p q u f = omega arith
count_falls (x ∷ t) p q u f = one_less (is_ahead p u x) (is_ahead q u x) (count_ahead t p u) (count_ahead t q u) (f x) (count_falls t p q u f)

one_fewer : (a b : Bool) (m n : ℕ) → (b ≡ true → a ≡ true) → n < m → one_more b n < one_more a m
one_fewer true true m n f h = omega arith
one_fewer true false m n f h = omega arith
one_fewer false true m n f h = absurd (let z : false ≡ true = f refl in cc)
one_fewer false false m n f h = h

count_less : (t : List Scope) (p q u : List ℕ) (s : ℕ) → ((x : Scope) → is_ahead q u x ≡ true → is_ahead p u x ≡ true) → s < length t → is_ahead p u (scope_at t s) ≡ true → is_ahead q u (scope_at t s) ≡ false → count_ahead t q u < count_ahead t p u
count_less [] p q u s f l a b = absurd (omega arith)
count_less (x ∷ t) p q u zero f l a b = let h : count_ahead t q u ≤ count_ahead t p u = count_falls t p q u f in rw (a, b) (omega arith)
count_less (x ∷ t) p q u (suc s) f l a b = one_fewer (is_ahead p u x) (is_ahead q u x) (count_ahead t p u) (count_ahead t q u) (f x) (count_less t p q u s f (omega arith) a b)

-- the order of paths
is_less : (o : Ordering) → is_lt o ≡ true → o ≡ Less
is_less Less h = refl
is_less Equal h = absurd (cc)
is_less Greater h = absurd (cc)

less_or_same : (o : Ordering) → is_gt o ≡ false → is_eq o ≡ false → is_lt o ≡ true
less_or_same Less g e = refl
less_or_same Equal g e = absurd (cc)
less_or_same Greater g e = absurd (cc)

not_before_itself : (p : List ℕ) → is_lt (path_cmp p p) ≡ false
not_before_itself p = ap is_lt (tied_itself path_cmp_total p)

before_that : (p q x : List ℕ) → is_lt (path_cmp p q) ≡ true → is_lt (path_cmp q x) ≡ true → is_lt (path_cmp p x) ≡ true
before_that p q x a b = ap is_lt (path_cmp_total.trans p q x (is_less (path_cmp p q) a) (is_less (path_cmp q x) b))

-- a scope that is ahead
record Ahead (p u : List ℕ) (x : Scope) : Type 0 where
  live : x.live ≡ true
  above : is_lt (path_cmp p x.path) ≡ true
  below : begins u x.path ≡ true

all_three : (a b c : Bool) → (a && (b && c)) ≡ true → (a ≡ true) × ((b ≡ true) × (c ≡ true))
all_three true true true h = (refl, (refl, refl))
all_three true true false h = absurd (cc)
all_three true false c h = absurd (cc)
all_three false b c h = absurd (cc)

ahead_parts : (p u : List ℕ) (x : Scope) → is_ahead p u x ≡ true → Ahead p u x
ahead_parts p u x h =
    let a = all_three x.live (is_lt (path_cmp p x.path)) (begins u x.path) h in
    record { live = a.0; above = a.1.0; below = a.1.1 }

ahead_of : (p u : List ℕ) (x : Scope) → Ahead p u x → is_ahead p u x ≡ true
ahead_of p u x a = rw (a.live, a.above, a.below) refl

ahead_before : (p q u : List ℕ) (x : Scope) → is_lt (path_cmp p q) ≡ true → is_ahead q u x ≡ true → is_ahead p u x ≡ true
ahead_before p q u x l h =
    let a : Ahead q u x = ahead_parts q u x h in
    ahead_of p u x (record { live = a.live; above = before_that p q x.path l a.above; below = a.below })

not_ahead_itself : (u : List ℕ) (x : Scope) → is_ahead x.path u x ≡ false
not_ahead_itself u x = by x.live (begins u x.path) (not_before_itself x.path)
  where
    by : (a c : Bool) → is_lt (path_cmp x.path x.path) ≡ false → (a && (is_lt (path_cmp x.path x.path) && c)) ≡ false
    by true c h = rw h refl
    by false c h = refl

-- scopes of one path are one
one_path : (t : List Scope) (s r : ℕ) → IsScopeTree t → s < length t → r < length t → path_at t s ≡ path_at t r → s ≡ r
one_path t s r h ls lr e =
    let a : at t (path_at t s) ≡ Some s = h.leads s ls in
    let b : at t (path_at t r) ≡ Some r = h.leads r lr in
    let c : at t (path_at t s) ≡ Some r = rw e b in
    cc

-- each scope ahead is reached
hushes_reach : (k top last r : ℕ) (s : State) → IsScopeTree s.scopes → count_ahead s.scopes (path_at s.scopes last) (path_at s.scopes top) ≤ k → r < length s.scopes
    → is_ahead (path_at s.scopes last) (path_at s.scopes top) (scope_at s.scopes r) ≡ true → IsQuiet r (hushes k top last s).heard
hushes_reach zero top last r s tree most l a =
    let z : 0 < count_ahead s.scopes (path_at s.scopes last) (path_at s.scopes top) = count_some s.scopes (path_at s.scopes last) (path_at s.scopes top) r l a in
    absurd (omega arith)
hushes_reach (suc k) top last r s tree most l a =
    by (next_scope s.scopes (path_at s.scopes last) (path_at s.scopes top)) (next_law s.scopes (path_at s.scopes last) (path_at s.scopes top) tree) (λ sc. hushes_reach k top sc r (hushed sc s) tree)
  where
    p : List ℕ
    p = path_at s.scopes last

    u : List ℕ
    u = path_at s.scopes top

    Reaches : ℕ → Type 0
    Reaches sc = count_ahead s.scopes (path_at s.scopes sc) u ≤ k → r < length s.scopes → is_ahead (path_at s.scopes sc) u (scope_at s.scopes r) ≡ true → IsQuiet r (hushes k top sc (hushed sc s)).heard

    by : (o : Option ℕ) → MatchOption o (NoneAhead s.scopes p u) (IsNextScope s.scopes p u) → ((sc : ℕ) → Reaches sc) → IsQuiet r (next_then o s (λ sc. hushes k top sc (hushed sc s))).heard
    by None n rest = absurd (let z : is_ahead p u (scope_at s.scopes r) ≡ false = n r l in cc)
    by (Some sc) n rest = elim (eqb_tells sc r) [
      | inl t ↦
          let own : IsQuiet r (hushed sc s).heard = subst (λ x. IsQuiet r (without_listeners_of s.heard x)) (sym t.1) (quiet_itself s.heard r) in
          hushes_quiet k top sc r (hushed sc s) own
      | inr t ↦
          let b : is_ahead p u (scope_at s.scopes sc) ≡ true = search rules in
          let x : Ahead p u (scope_at s.scopes sc) = ahead_parts p u (scope_at s.scopes sc) b in
          let y : Ahead p u (scope_at s.scopes r) = ahead_parts p u (scope_at s.scopes r) a in
          let fewer : count_ahead s.scopes (path_at s.scopes sc) u < count_ahead s.scopes p u = count_less s.scopes p (path_at s.scopes sc) u sc (λ z h. ahead_before p (path_at s.scopes sc) u z x.above h) n.stands b (not_ahead_itself u (scope_at s.scopes sc)) in
          let above : is_lt (path_cmp (path_at s.scopes sc) (path_at s.scopes r)) ≡ true = elim (path-tells (path_at s.scopes sc) (path_at s.scopes r)) [
            | inl e ↦ absurd (t.1 (one_path s.scopes sc r tree n.stands l e.1))
            | inr e ↦ less_or_same (path_cmp (path_at s.scopes sc) (path_at s.scopes r)) (n.least r l (search rules)) e.0
          ] in
          rest sc (omega arith) l (ahead_of (path_at s.scopes sc) u (scope_at s.scopes r) (record { live = y.live; above = above; below = y.below }))
    ]

-- no listener stands where a scope was buried
pub buried_quiet : (scope r : ℕ) (s : State) → IsScopeTree s.scopes → length s.scopes ≤ length s.objects → scope < length s.scopes → r < length s.scopes
    → begins (path_at s.scopes scope) (path_at s.scopes r) ≡ true → live_at s.scopes r ≡ true → IsQuiet r (buried scope s).heard
buried_quiet scope r s tree enough ls lr below live = elim (eqb_tells scope r) [
  | inl t ↦ hushes_quiet (many s) scope scope r first (subst (λ x. IsQuiet r (without_listeners_of s.heard x)) (sym t.1) (quiet_itself s.heard r))
  | inr t ↦
      let above : is_lt (path_cmp (path_at s.scopes scope) (path_at s.scopes r)) ≡ true = elim (path-tells (path_at s.scopes scope) (path_at s.scopes r)) [
        | inl e ↦ absurd (t.1 (one_path s.scopes scope r tree ls lr e.1))
        | inr e ↦ less_or_same (path_cmp (path_at s.scopes scope) (path_at s.scopes r)) (begins-after (path_at s.scopes scope) (path_at s.scopes r) below) e.0
      ] in
      let few : count_ahead s.scopes (path_at s.scopes scope) (path_at s.scopes scope) ≤ length s.scopes = count_below s.scopes (path_at s.scopes scope) (path_at s.scopes scope) in
      hushes_reach (many s) scope scope r first tree (omega arith) lr (ahead_of (path_at s.scopes scope) (path_at s.scopes scope) (scope_at s.scopes r) (record { live = live; above = above; below = below }))
]
  where
    first : State
    first = hushed scope (with_change (leaves scope) s)

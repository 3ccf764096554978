-- The tree of scopes: a list in order of making, in which each scope has its path, its parent, its object and its children, and is live or not.
use Rattle.std.specs.Prelude.{ℕ, zero, suc, ◌<◌, ◌≡◌, Bool, true, false, ◌&&◌, eqb, IsTrue, List, [], ◌∷◌, ◌++◌, length, map, Option, Some, None, option_and_then, slice_get, slice_index_or, MatchOption, if◌then◌else◌}
use Rattle.std.specs.Ordering.{is_lt, is_gt}
use Rattle.ng_base.specs.Order.{path_cmp}

pub record Scope : Type 0 where
  pub path : List ℕ
  pub parent : Option ℕ
  pub object : ℕ
  pub live : Bool
  pub children : List ℕ

abbrev pub no_scope : Scope
no_scope = record { path = []; parent = None; object = 0; live = false; children = [] }

abbrev pub scope_at : List Scope → ℕ → Scope
scope_at t s = slice_index_or t s no_scope

abbrev pub path_at : List Scope → ℕ → List ℕ
path_at t s = (scope_at t s).path

abbrev pub parent_at : List Scope → ℕ → Option ℕ
parent_at t s = (scope_at t s).parent

abbrev pub object_at : List Scope → ℕ → ℕ
object_at t s = (scope_at t s).object

abbrev pub live_at : List Scope → ℕ → Bool
live_at t s = (scope_at t s).live

abbrev pub children_at : List Scope → ℕ → List ℕ
children_at t s = (scope_at t s).children

-- a path begins with another
abbrev pub begins : List ℕ → List ℕ → Bool
begins [] ps = true
begins (u ∷ us) [] = false
begins (u ∷ us) (p ∷ ps) = eqb u p && begins us ps

-- from a scope down along a path: from child to child
abbrev pub down : List Scope → ℕ → List ℕ → Option ℕ
down t s [] = Some s
down t s (k ∷ ks) = option_and_then (λ c. down t c ks) (slice_get (children_at t s) k)

-- the scope of a path, live or not
abbrev pub at : List Scope → List ℕ → Option ℕ
at t p = down t 0 p

-- the scope of an object, of a place on
abbrev pub scope_from : ℕ → List Scope → ℕ → Option ℕ
scope_from i [] o = None
scope_from i (x ∷ t) o = if eqb o x.object then Some i else scope_from (suc i) t o

-- the scope of an object
abbrev pub of_object : List Scope → ℕ → Option ℕ
of_object t o = scope_from 0 t o

-- the root alone
abbrev pub root_of : ℕ → List Scope
root_of o = record { path = []; parent = None; object = o; live = true; children = [] } ∷ []

-- one scope is changed, and every other is as before
abbrev pub change_at : List Scope → ℕ → (Scope → Scope) → List Scope
change_at [] s f = []
change_at (x ∷ t) zero f = f x ∷ t
change_at (x ∷ t) (suc s) f = x ∷ change_at t s f

abbrev pub adopting : ℕ → Scope → Scope
adopting c x = record { path = x.path; parent = x.parent; object = x.object; live = x.live; children = x.children ++ c ∷ [] }

-- the path that the next scope under a container has: the container's and its own number
abbrev pub child_path : List Scope → ℕ → List ℕ
child_path t c = path_at t c ++ length (children_at t c) ∷ []

-- the next scope under a container, which is live where the container is
abbrev pub child_of : List Scope → ℕ → ℕ → Scope
child_of t c o = record { path = child_path t c; parent = Some c; object = o; live = live_at t c; children = [] }

-- a scope more, under a container
abbrev pub with_child : List Scope → ℕ → ℕ → List Scope
with_child t c o = change_at t c (adopting (length t)) ++ child_of t c o ∷ []

abbrev pub dead : Scope → Scope
dead x = record { path = x.path; parent = x.parent; object = x.object; live = false; children = x.children }

abbrev pub dying_under : List ℕ → Scope → Scope
dying_under u x = if begins u x.path then dead x else x

abbrev pub dead_under : List ℕ → List Scope → List Scope
dead_under u t = map (dying_under u) t

-- a scope and all below it are not live
abbrev pub without_scope : List Scope → ℕ → List Scope
without_scope t s = dead_under (path_at t s) t

abbrev pub nearer : List ℕ → Option (List ℕ) → Bool
nearer q None = true
nearer q (Some b) = is_lt (path_cmp q b)

-- a scope is live, stands above p, and is u or below it
abbrev pub is_ahead : List ℕ → List ℕ → Scope → Bool
is_ahead p u x = x.live && (is_lt (path_cmp p x.path) && begins u x.path)

abbrev pub nearest : List ℕ → List ℕ → Scope → Option (List ℕ) → Option (List ℕ)
nearest p u x best = if is_ahead p u x && nearer x.path best then Some x.path else best

-- the least path above p of a live scope that is u or below it
abbrev pub next_path : List Scope → List ℕ → List ℕ → Option (List ℕ)
next_path [] p u = None
next_path (x ∷ t) p u = nearest p u x (next_path t p u)

-- the live scope of the least path above p that begins with u
abbrev pub next_scope : List Scope → List ℕ → List ℕ → Option ℕ
next_scope t p u = option_and_then (at t) (next_path t p u)

-- s is live, above p and begun with u, and no such scope stands before it
pub record IsNextScope (t : List Scope) (p u : List ℕ) (s : ℕ) : Type 0 where
  pub stands : s < length t
  pub ahead : IsTrue (is_ahead p u (scope_at t s))
  pub least : (r : ℕ) → r < length t → IsTrue (is_ahead p u (scope_at t r)) → is_gt (path_cmp (path_at t s) (path_at t r)) ≡ false

abbrev pub NoneAhead : List Scope → List ℕ → List ℕ → Type 0
NoneAhead t p u = (r : ℕ) → r < length t → is_ahead p u (scope_at t r) ≡ false

-- what holds of every tree of scopes: paths lead down from the root by the children's numbers, so they differ, and no scope is live below one that is not
pub record IsScopeTree (t : List Scope) : Type 0 where
  pub root : 0 < length t
  pub top : path_at t 0 ≡ []
  pub leads : (s : ℕ) → s < length t → at t (path_at t s) ≡ Some s
  pub numbered : (s k c : ℕ) → slice_get (children_at t s) k ≡ Some c → (c < length t) × (path_at t c ≡ path_at t s ++ k ∷ [])
  pub lively : (s r : ℕ) → s < length t → r < length t → begins (path_at t s) (path_at t r) ≡ true → live_at t r ≡ true → live_at t s ≡ true

-- the live scope of a path
abbrev pub live_scope : List Scope → List ℕ → Option ℕ
live_scope t p = option_and_then (λ s. if live_at t s then Some s else None) (at t p)

-- each scope's path leads to it, and a path that leads somewhere is the path of what it leads to
pub record IsLed (t : List Scope) : Type 0 where
  pub leads : (s : ℕ) → s < length t → at t (path_at t s) ≡ Some s
  pub back : (p : List ℕ) (r : ℕ) → at t p ≡ Some r → (r < length t) × (path_at t r ≡ p)

-- the next scope is the least of those ahead, and there is none exactly where none is ahead
abbrev pub NextScopeLaw : Type 0
NextScopeLaw = (t : List Scope) (p u : List ℕ) → IsScopeTree t → MatchOption (next_scope t p u) (NoneAhead t p u) (IsNextScope t p u)

-- a tree that grows by a scope, or in which scopes die, is a tree
abbrev pub GrownTreeLaw : Type 0
GrownTreeLaw = (t : List Scope) (c o : ℕ) → IsScopeTree t → c < length t → IsScopeTree (with_child t c o) × IsScopeTree (without_scope t c)

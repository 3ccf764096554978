-- Listeners: for each scope and name that ever had one a list of them, in order of registration.
use Rattle.std.specs.Prelude.{ℕ, zero, suc, ◌+◌, ◌<◌, ◌≤◌, ◌≡◌, Bool, true, false, ◌&&◌, not, eqb, List, [], ◌∷◌, ◌++◌, map, Option, Some, None, IsSome, option_map, bytes_eq, if◌then◌else◌}
use Rattle.std.specs.List.{filter}
use Rattle.std.specs.Map.{lookup}
use Rattle.ng_language.specs.Trees.{Trees}

-- a function that was registered, by its name, and its program
pub record Listener : Type 0 where
  pub id : ℕ
  pub body : Trees

-- the listeners of a scope for a name, each under its serial, and the last serial given
pub record Heard : Type 0 where
  pub scope : ℕ
  pub name : List ℕ
  pub last : ℕ
  pub entries : List (ℕ × Listener)

-- the listener under a serial
abbrev pub stands_at : List (ℕ × Listener) → ℕ → Option Listener
stands_at es s = lookup (eqb s) es

abbrev pub is_for : ℕ → List ℕ → Heard → Bool
is_for s n x = eqb s x.scope && bytes_eq n x.name

abbrev pub place_from : ℕ → List Heard → ℕ → List ℕ → Option ℕ
place_from i [] s n = None
place_from i (x ∷ xs) s n = if is_for s n x then Some i else place_from (suc i) xs s n

-- the place of the list of a scope and a name
abbrev pub place_of : List Heard → ℕ → List ℕ → Option ℕ
place_of xs s n = place_from 0 xs s n

-- one list is changed, and every other is as before
abbrev pub hear_at : List Heard → ℕ → (Heard → Heard) → List Heard
hear_at [] i f = []
hear_at (x ∷ xs) zero f = f x ∷ xs
hear_at (x ∷ xs) (suc i) f = x ∷ hear_at xs i f

abbrev pub nobody : ℕ → List ℕ → Heard
nobody s n = record { scope = s; name = n; last = 0; entries = [] }

abbrev pub listened : Listener → Heard → Heard
listened l x = record { scope = x.scope; name = x.name; last = x.last + 1; entries = x.entries ++ (x.last + 1, l) ∷ [] }

abbrev pub listened_at : Option ℕ → List Heard → ℕ → List ℕ → Listener → List Heard
listened_at (Some i) xs s n l = hear_at xs i (listened l)
listened_at None xs s n l = xs ++ listened l (nobody s n) ∷ []

-- a listener more
abbrev pub with_listener : List Heard → ℕ → List ℕ → Listener → List Heard
with_listener xs s n l = listened_at (place_of xs s n) xs s n l

abbrev pub is_called : ℕ → ℕ × Listener → Bool
is_called id e = eqb id e.1.id

abbrev pub dropped : ℕ → Heard → Heard
dropped id x = record { scope = x.scope; name = x.name; last = x.last; entries = filter (λ e. not (is_called id e)) x.entries }

-- a listener less
abbrev pub without_listener : List Heard → ℕ → List Heard
without_listener xs id = map (dropped id) xs

abbrev pub called_in : List (ℕ × Listener) → ℕ → Option Listener
called_in [] id = None
called_in (e ∷ es) id = if is_called id e then Some e.1 else called_in es id

abbrev pub first_of : Option Listener → Option Listener → Option Listener
first_of (Some l) o = Some l
first_of None o = o

-- the listener of a name
abbrev pub called : List Heard → ℕ → Option Listener
called [] id = None
called (x ∷ xs) id = first_of (called_in x.entries id) (called xs id)

-- the list at a place
abbrev pub heard_at : List Heard → ℕ → Heard
heard_at [] i = nobody 0 []
heard_at (x ∷ xs) zero = x
heard_at (x ∷ xs) (suc i) = heard_at xs i

abbrev pub last_at : Option ℕ → List Heard → ℕ
last_at (Some i) xs = (heard_at xs i).last
last_at None xs = 0

-- the last serial of the list of a scope and a name
abbrev pub last_of : List Heard → ℕ → List ℕ → ℕ
last_of xs s n = last_at (place_of xs s n) xs

abbrev pub quiet : ℕ → Heard → Heard
quiet s x = record { scope = x.scope; name = x.name; last = x.last; entries = if eqb s x.scope then [] else x.entries }

-- the listeners of a scope are gone
abbrev pub without_listeners_of : List Heard → ℕ → List Heard
without_listeners_of xs s = map (quiet s) xs

-- serials rise, and stand above k and not above n
abbrev pub RiseTo : ℕ → ℕ → List (ℕ × Listener) → Type 0
RiseTo k n [] = Unit {0}
RiseTo k n (e ∷ es) = (k < e.0) × (e.0 ≤ n) × RiseTo e.0 n es

-- no listener stands above a place and not above an end
abbrev pub NobodyAhead : List (ℕ × Listener) → ℕ → ℕ → Type 0
NobodyAhead es p e = (s : ℕ) → p < s → s ≤ e → stands_at es s ≡ None

-- the least serial of a listener above a place and not above an end
pub record IsNextListener (es : List (ℕ × Listener)) (p e s : ℕ) : Type 0 where
  pub above : p < s
  pub within : s ≤ e
  pub stands : IsSome (stands_at es s)
  pub least : (r : ℕ) → p < r → r < s → stands_at es r ≡ None

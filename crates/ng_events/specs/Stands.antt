-- What the lists of a table of listeners stand for, and the walks that are open on them.
use Rattle.std.specs.Prelude.{ℕ, zero, suc, ◌+◌, ◌<◌, ◌≡◌, Bool, true, false, ◌||◌, eqb, List, [], ◌∷◌, ◌++◌, length, map, Option, Some, None, IsSome, option_map, replicate, slice_set, if◌then◌else◌}
use Rattle.ng_base.specs.declared.name.FunId.{FunId}
use Rattle.ng_chain.specs.Walked.{Walked, walk_at, open_walks, serial_of, with_entries, with_walk, without}
use Rattle.ng_chain.specs.declared.chain.Span.{Span}
use Rattle.ng_chain.specs.declared.chain.Token.{Token}
use Rattle.ng_parse.specs.ProgramOf.{program}
use Rattle.ng_behaviour.specs.Listeners.{Listener, Heard, IsNextListener, NobodyAhead, RiseTo, stands_at, heard_at, place_of}
use Rattle.ng_events.specs.declared.stands.Listener.{Listener as Registered}
use Rattle.ng_events.specs.declared.stands.Stand.{Stand}
use Rattle.ng_events.specs.declared.stands.EventWalk.{EventWalk}
use Rattle.ng_events.specs.declared.stands.EventWalk.TheVariants.{Bare, On}

-- the lists, and how many walks are open where no list is
pub record Table : Type 0 where
  pub stands : List Stand
  pub bare : ℕ

abbrev pub seen : Registered → Listener
seen l = record { id = l.id.0; body = program l.body }

abbrev pub entries_of : List (Token × Registered) → List (ℕ × Listener)
entries_of = map (λ e. (serial_of e.0, seen e.1))

abbrev pub heard : Stand → Heard
heard s = record { scope = s.scope; name = s.name; last = s.chain.last; entries = entries_of s.chain.entries }

abbrev pub all_heard : List Stand → List Heard
all_heard = map heard

-- what the table stands for: the listeners
abbrev pub lists_of : Table → List Heard
lists_of t = all_heard t.stands

-- who listens at a scope for a name, each under its serial
abbrev pub listening_at : Option ℕ → List Heard → List (ℕ × Listener)
listening_at None xs = []
listening_at (Some i) xs = (heard_at xs i).entries

abbrev pub listening : List Heard → ℕ → List ℕ → List (ℕ × Listener)
listening xs s n = listening_at (place_of xs s n) xs

abbrev pub no_chain : Walked Registered
no_chain = record { entries = []; last = 0; walks = replicate 64 None }

-- the chain of a list: an empty one where no list is
abbrev pub chain_at : List Stand → ℕ → Walked Registered
chain_at [] i = no_chain
chain_at (x ∷ xs) zero = x.chain
chain_at (x ∷ xs) (suc i) = chain_at xs i

-- one list's chain is changed, and every other is as before
abbrev pub change_chain : List Stand → ℕ → (Walked Registered → Walked Registered) → List Stand
change_chain [] i f = []
change_chain (x ∷ xs) zero f = record { scope = x.scope; name = x.name; chain = f x.chain } ∷ xs
change_chain (x ∷ xs) (suc i) f = x ∷ change_chain xs i f

abbrev pub pushed : Token → Registered → Walked Registered → Walked Registered
pushed t l c = record { entries = c.entries ++ (t, l) ∷ []; last = c.last + 1; walks = c.walks }

abbrev pub removed : Token → Walked Registered → Walked Registered
removed t c = with_entries c (without (serial_of t) c.entries)

abbrev pub walked : ℕ → Option Span → Walked Registered → Walked Registered
walked k w c = with_walk c k w

abbrev pub begun : ℕ → Walked Registered → Walked Registered
begun k c = with_walk c k (Some (record { place = 0; end = c.last }))

-- nobody is in a list any more
abbrev pub emptied : Walked Registered → Walked Registered
emptied c = with_entries c []

-- so at each of these places
abbrev pub empty_at : List ℕ → List Stand → List Stand
empty_at [] xs = xs
empty_at (i ∷ is) xs = empty_at is (change_chain xs i emptied)

-- one of these entries is a listener of that name
abbrev pub is_named : ℕ → List (Token × Registered) → Bool
is_named q [] = false
is_named q (e ∷ es) = eqb q e.1.id.0 || is_named q es

-- the walks on each list: none on one that is not there yet
abbrev pub walks_on : List Stand → ℕ → List (Option Span)
walks_on xs i = (chain_at xs i).walks

abbrev pub walks_at : Table → ℕ → List (Option Span)
walks_at t = walks_on t.stands

abbrev pub open_on : List Stand → ℕ
open_on [] = 0
open_on (x ∷ xs) = open_walks x.chain.walks + open_on xs

-- how many walks are open
abbrev pub open_of : Table → ℕ
open_of t = open_on t.stands + t.bare

abbrev pub is_at : ℕ → ℕ → Bool
is_at zero zero = true
is_at zero (suc j) = false
is_at (suc i) zero = false
is_at (suc i) (suc j) = is_at i j

-- one walk is opened, moved or closed, and all others are as before
abbrev pub put_walk : (ℕ → List (Option Span)) → ℕ → ℕ → Option Span → ℕ → List (Option Span)
put_walk ws i k w j = if is_at i j then slice_set (ws j) k w else ws j

-- an open walk, over the listeners that stand at a scope for a name, or over none
abbrev pub IsOpen : Table → EventWalk → Type 0
IsOpen t Bare = 0 < t.bare
IsOpen t (On i w) = IsSome (walk_at (walks_at t i) w.slot)

-- a walk is begun over the list of a scope and a name, where there is one
abbrev pub Begins : Table → ℕ → List ℕ → EventWalk → Table → Type 0
Begins t s n Bare u = (place_of (lists_of t) s n ≡ None) × (u.bare ≡ t.bare + 1) × (walks_at u ≡ walks_at t)
Begins t s n (On i w) u =
    (place_of (lists_of t) s n ≡ Some i) × (i < length t.stands) × (u.bare ≡ t.bare) × (walk_at (walks_at t i) w.slot ≡ None) × (w.slot < length (walks_at t i)) × (walks_at u ≡ put_walk (walks_at t) i w.slot (Some (record { place = 0; end = (heard_at (lists_of t) i).last }))) × RiseTo 0 (heard_at (lists_of t) i).last (heard_at (lists_of t) i).entries

-- the next listener of a walk, and where the walk stands then
abbrev pub Hears : List (ℕ × Listener) → Option Span → Option FunId → Option Span → Type 0
Hears es None r new = Unit {0}
Hears es (Some w) None new = NobodyAhead es w.place w.end × (new ≡ Some w)
Hears es (Some w) (Some id) None = ⊥
Hears es (Some w) (Some id) (Some v) = IsNextListener es w.place w.end v.place × (v.end ≡ w.end) × (option_map (λ l. l.id) (stands_at es v.place) ≡ Some id.0)

-- one walk goes on, and no other
abbrev pub Goes : Table → EventWalk → Option FunId → Table → Type 0
Goes t Bare r u = (r ≡ None) × (walks_at u ≡ walks_at t)
Goes t (On i w) r u = Hears (heard_at (lists_of t) i).entries (walk_at (walks_at t i) w.slot) r (walk_at (walks_at u i) w.slot) × (walks_at u ≡ put_walk (walks_at t) i w.slot (walk_at (walks_at u i) w.slot))

-- one walk ends, and no other
abbrev pub Ends : Table → EventWalk → Table → Type 0
Ends t Bare u = (u.bare + 1 ≡ t.bare) × (walks_at u ≡ walks_at t)
Ends t (On i w) u = (u.bare ≡ t.bare) × (walks_at u ≡ put_walk (walks_at t) i w.slot None)

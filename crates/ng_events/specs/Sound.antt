-- What holds of a table of listeners and its maps.
use Rattle.std.specs.Prelude.{ℕ, ◌+◌, ◌<◌, ◌≤◌, ◌≡◌, List, length, Some, slice_get}
use Rattle.std.specs.BTreeMap.{BTreeMap, get}
use Rattle.std.specs.Ordering.{nat_cmp}
use Rattle.ng_chain.specs.Walked.{value_of}
use Rattle.ng_chain.specs.declared.chain.Token.{Token}
use Rattle.ng_behaviour.specs.Listeners.{place_of}
use Rattle.ng_events.specs.declared.stands.Listener.{Listener as Registered}
use Rattle.ng_events.specs.declared.stands.Stand.{Stand}
use Rattle.ng_events.specs.declared.stands.Home.{Home}
use Rattle.ng_events.specs.Stands.{chain_at, all_heard, walks_on, open_on}
use Rattle.ng_events.specs.Names.{named}

-- a listener stands where its home says
pub record IsThere (xs : List Stand) (id : ℕ) (h : Home) : Type 0 where
  pub within : h.list < length xs
  pub listener : Registered
  pub stands : value_of (chain_at xs h.list).entries h.token ≡ Some listener
  pub called : id ≡ listener.id.0

abbrev pub AreThere : List Stand → BTreeMap ℕ Home → Type 0
AreThere xs homes = (id : ℕ) (h : Home) → get nat_cmp homes id ≡ Some h → IsThere xs id h

-- each listener has its home
abbrev pub HaveHomes : List Stand → BTreeMap ℕ Home → Type 0
HaveHomes xs homes = (l k : ℕ) (e : Token × Registered) → slice_get (chain_at xs l).entries k ≡ Some e → get nat_cmp homes e.1.id.0 ≡ Some (record { list = l; token = e.0 })

abbrev pub HavePlaces : List Stand → BTreeMap ℕ (BTreeMap (List ℕ) ℕ) → Type 0
HavePlaces xs names = (s : ℕ) (n : List ℕ) → named names s n ≡ place_of (all_heard xs) s n

-- no two lists are of one scope and name: each is the place of its own
pub record IsPlace (xs : List Stand) (i : ℕ) : Type 0 where
  pub scope : ℕ
  pub name : List ℕ
  pub place : place_of (all_heard xs) scope name ≡ Some i

abbrev pub ArePlaces : List Stand → Type 0
ArePlaces xs = (i : ℕ) → i < length xs → IsPlace xs i

pub record IsSound (xs : List Stand) (names : BTreeMap ℕ (BTreeMap (List ℕ) ℕ)) (homes : BTreeMap ℕ Home) (open_walks bare : ℕ) : Type 0 where
  pub places : HavePlaces xs names
  pub alone : ArePlaces xs
  pub there : AreThere xs homes
  pub known : HaveHomes xs homes
  pub counted : open_walks ≡ open_on xs + bare
  pub few : open_walks ≤ 64

-- no walk and no place is touched
pub record LeavesWalks (xs ys : List Stand) : Type 0 where
  pub walks : walks_on ys ≡ walks_on xs
  pub places : (s : ℕ) (n : List ℕ) → place_of (all_heard ys) s n ≡ place_of (all_heard xs) s n
  pub counted : open_on ys ≡ open_on xs
  pub as_long : length ys ≡ length xs

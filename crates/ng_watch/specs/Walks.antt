-- A walk over the watchers of a page from a key upwards, as a digest makes it (guide: Scopes, "Scope Life Cycle").
use Rattle.std.specs.Prelude.{ℕ, suc, ◌≡◌, Bool, false, List, Option, Some, None, Result, Ok, Err}
use Rattle.ng_base.specs.Objects.{Object}
use Rattle.ng_base.specs.declared.fault.Fault.{Fault}
use Rattle.ng_base.specs.declared.path.Key.{Key}
use Rattle.ng_behaviour.specs.Keys.{is_key}
use Rattle.ng_watch.specs.Seen.{Watcher}
use Rattle.ng_watch.specs.Table.{Table, found, first_key, key_after}
use Rattle.ng_watch.specs.Verdicts.{Judged, clean, judged_of, verdict}
use Rattle.ng_watch.specs.declared.walking.Reached.{Reached}
use Rattle.ng_watch.specs.declared.walking.Reached.TheVariants as ends

-- where a walk ended: behind the last watcher, with the key up to which it went; or at a watcher, with what its test found
pub data Arrival : Type 0 where
  behind_all : Option Key → Arrival
  at_watcher : Key → Result Judged Fault → Arrival

abbrev pub reached_of : Reached → Arrival
reached_of (ends.End c) = behind_all c
reached_of (ends.Watcher k v) = at_watcher k (Ok (judged_of v))
reached_of (ends.Faulted k f) = at_watcher k (Err f)

-- the least key above one, or the least of all
abbrev pub next_of : Option Key → Table → Option Key
next_of None t = first_key t
next_of (Some k) t = key_after k t

-- whether a walk is to end at a key
abbrev pub ends_at : Option Key → Key → Bool
ends_at None k = false
ends_at (Some last) k = is_key last k

-- Above a key, or from the least of all, so many watchers are passed, up to one of the others, or to the end. Each of those that are
-- passed is clean, and is not the one at which the walk is to end
pub data Walks (objects : List Object) (t : Table) (last : Option Key) : Option Key → ℕ → Arrival → Type 0 where
  came_to_end : {c : Option Key} → next_of c t ≡ None → Walks objects t last c 0 (behind_all c)
  came_to_watcher : {c : Option Key} {k : Key} {w : Watcher} → next_of c t ≡ Some k → found k t ≡ Some w → Walks objects t last c 0 (at_watcher k (verdict objects w))
  passed_watcher : {c : Option Key} {k : Key} {w : Watcher} {n : ℕ} {a : Arrival} → next_of c t ≡ Some k → found k t ≡ Some w → verdict objects w ≡ Ok clean → ends_at last k ≡ false → Walks objects t last (Some k) n a → Walks objects t last c (suc n) a

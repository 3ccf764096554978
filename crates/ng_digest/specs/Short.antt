-- The short digest: the calls in their order, each chosen by the answers before it.
use Rattle.std.specs.Prelude.{ℕ, ◌≡◌, ◌≢◌, ◌<◌, ◌≤◌, Bool, true, false, Some, None, Result, Ok, Err, is_some}
use Rattle.ng_digest.specs.Laws.{InOrder}
use Rattle.ng_base.specs.declared.fault.Fault.{Fault}
use Rattle.ng_base.specs.declared.fault.Memory.{Memory}
use Rattle.ng_digest.specs.declared.log.Report.{Report}
use Rattle.ng_digest.specs.declared.rounds.Found.{Found}
use Rattle.ng_digest.specs.declared.rounds.Found.TheVariants.{Nothing, Stopped, Fireable}
use Rattle.ng_digest.specs.declared.rounds.Walked.{Walked}
use Rattle.ng_digest.specs.declared.rounds.Walked.TheVariants as walk
use Rattle.ng_digest.specs.declared.rounds.RoundEnd.{RoundEnd}
use Rattle.ng_digest.specs.declared.rounds.RoundEnd.TheVariants as round
use Rattle.ng_digest.specs.declared.rounds.End.{End}
use Rattle.ng_digest.specs.declared.rounds.End.TheVariants.{Settled, Infdig, FireLimit, AsyncLimit}
use Rattle.ng_digest.specs.declared.rounds.DigestFault.{DigestFault}
use Rattle.ng_digest.specs.declared.rounds.DigestFault.TheVariants as fault
use Rattle.ng_digest.specs.Log.{report_of}
use Rattle.ng_digest.specs.Machine.{Machine, found_dirty, next_key}
use Rattle.ng_digest.specs.Place.{Place, begun, after_task, advanced, found, after_test, after_fire, is_remembered, is_dirty, closed, posted, given_up}

-- whether a live key is above the cursor
abbrev pub has_more : {S K : Type 0} → Machine S K → Place S K → Bool
has_more m p = is_some (next_key m p.state p.cursor)

abbrev pub waiting : {S K : Type 0} → Machine S K → Place S K → Bool
waiting m p = m.waits p.state

-- tasks run while one waits; or ten thousand have run and one more waits
pub data Drains {S K : Type 0} (m : Machine S K) : Place S K → Bool → Place S K → Type 0 where
  drained : {p : Place S K} → waiting m p ≡ false → Drains m p false p
  too_many : {p : Place S K} → waiting m p ≡ true → 10000 ≤ p.log.tasks → Drains m p true p
  ran_one : {p q : Place S K} {over : Bool} → waiting m p ≡ true → p.log.tasks < 10000 → Drains m (after_task true m p) over q → Drains m p over q

-- from the cursor upwards keys are tested, up to one that is dirty, to the remembered key, or to the last
pub data Skips {S K : Type 0} (m : Machine S K) : Place S K → Found → Place S K → Type 0 where
  none_above : {p : Place S K} → has_more m p ≡ false → InOrder m p.state → Skips m p Nothing (advanced m p)
  at_remembered : {p : Place S K} → has_more m p ≡ true → InOrder m p.state → is_remembered m (advanced m p) ≡ true → found m (advanced m p) ≢ found_dirty → Skips m p Stopped (after_test m (advanced m p))
  at_dirty : {p : Place S K} → has_more m p ≡ true → InOrder m p.state → found m (advanced m p) ≡ found_dirty → Skips m p Fireable (after_test m (advanced m p))
  passed_by : {p q : Place S K} {f : Found} → has_more m p ≡ true → InOrder m p.state → is_remembered m (advanced m p) ≡ false → found m (advanced m p) ≢ found_dirty → Skips m (after_test m (advanced m p)) f q → Skips m p f q

-- each dirty key is fired, up to the limit
pub data Walks {S K : Type 0} (m : Machine S K) : Place S K → Walked → Place S K → Type 0 where
  walked_through : {p q : Place S K} → Skips m p Nothing q → Walks m p walk.ToEnd q
  walk_stopped : {p q : Place S K} → Skips m p Stopped q → Walks m p walk.Stopped q
  walk_limited : {p q : Place S K} → Skips m p Fireable q → 1000000 ≤ q.log.fires → Walks m p walk.Limit q
  fired_one : {p q r : Place S K} {e : Walked} → Skips m p Fireable q → q.log.fires < 1000000 → Walks m (after_fire m q) e r → Walks m p e r

-- a walk under the limit, and whether it was cut short at the remembered key
pub data IsWhole : Walked → Bool → Type 0 where
  came_to_end : IsWhole walk.ToEnd false
  cut_short : IsWhole walk.Stopped true

-- a round: the tasks, the walk, and the close
pub data Round {S K : Type 0} (m : Machine S K) : Place S K → RoundEnd → Place S K → Type 0 where
  many_tasks : {p q : Place S K} → Drains m (begun p) true q → Round m p round.AsyncLimit q
  many_fires : {p q r : Place S K} → Drains m (begun p) false q → Walks m q walk.Limit r → Round m p round.FireLimit r
  closed_clean : {p q r : Place S K} {e : Walked} {cut : Bool} → Drains m (begun p) false q → Walks m q e r → IsWhole e cut → is_dirty m r ≡ false → Round m p (round.Quiet cut) (closed m r)
  closed_dirty : {p q r : Place S K} {e : Walked} {cut : Bool} → Drains m (begun p) false q → Walks m q e r → IsWhole e cut → is_dirty m r ≡ true → Round m p round.Busy (closed m r)

-- rounds up to one that isn't dirty, at most eleven
pub data Rounds {S K : Type 0} (m : Machine S K) : Place S K → End → Place S K → Type 0 where
  last_is_clean : {p q : Place S K} {cut : Bool} → Round m p (round.Quiet cut) q → Rounds m p (Settled cut) q
  over_fires : {p q : Place S K} → Round m p round.FireLimit q → Rounds m p FireLimit q
  over_tasks : {p q : Place S K} → Round m p round.AsyncLimit q → Rounds m p AsyncLimit q
  eleventh_is_dirty : {p q : Place S K} → Round m p round.Busy q → 11 ≤ q.log.dirty_rounds → Rounds m p Infdig q
  one_more : {p q r : Place S K} {end : End} → Round m p round.Busy q → q.log.dirty_rounds < 11 → Rounds m q end r → Rounds m p end r

-- A whole digest. Want of memory alone says nothing
pub data Digests {S K : Type 0} (m : Machine S K) : Place S K → Result Report DigestFault → Place S K → Type 0 where
  gives_report : {p q : Place S K} {cut : Bool} → Rounds m p (Settled cut) q → m.handed (m.settled q.state) ≡ None → Digests m p (Ok (report_of q.log cut)) (posted m q)
  gives_faulted : {p q : Place S K} {cut : Bool} {first : Fault} {count : ℕ} → Rounds m p (Settled cut) q → m.handed (m.settled q.state) ≡ Some (first, count) → Digests m p (Err (fault.Faulted first count)) (posted m q)
  gives_infdig : {p q : Place S K} → Rounds m p Infdig q → Digests m p (Err fault.Infdig) (given_up m q)
  gives_fire_limit : {p q : Place S K} → Rounds m p FireLimit q → Digests m p (Err fault.FireLimit) (given_up m q)
  gives_async_limit : {p q : Place S K} → Rounds m p AsyncLimit q → Digests m p (Err fault.AsyncLimit) (given_up m q)
  gives_memory : {p q : Place S K} {e : Memory} → Digests m p (Err (fault.Memory e)) q

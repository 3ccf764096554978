-- The plain digest: it walks every round to its end, and remembers no key.
use Rattle.std.specs.Prelude.{ℕ, ◌≡◌, ◌≢◌, ◌<◌, ◌≤◌, Bool, true, false, Option, Some, None, Result, Ok, Err, ◌||◌, nat_lt}
use Rattle.ng_base.specs.declared.fault.Fault.{Fault}
use Rattle.ng_digest.specs.declared.rounds.RoundEnd.{RoundEnd}
use Rattle.ng_digest.specs.declared.rounds.RoundEnd.TheVariants as round
use Rattle.ng_digest.specs.declared.rounds.End.{End}
use Rattle.ng_digest.specs.declared.rounds.End.TheVariants.{Settled, Infdig, FireLimit, AsyncLimit}
use Rattle.ng_digest.specs.declared.rounds.DigestFault.{DigestFault}
use Rattle.ng_digest.specs.declared.rounds.DigestFault.TheVariants as fault
use Rattle.ng_digest.specs.Log.{more32}
use Rattle.ng_digest.specs.Machine.{Machine, found_dirty, next_key}

-- a state, and what was counted so far but the tests
pub record Plain (S : Type 0) : Type 0 where
  pub state : S
  pub rounds : ℕ
  pub dirty_rounds : ℕ
  pub fires : ℕ
  pub round_fires : ℕ
  pub tasks : ℕ

-- nothing was counted yet
abbrev pub at_first : {S : Type 0} → S → Plain S
at_first s = record { state = s; rounds = 0; dirty_rounds = 0; fires = 0; round_fires = 0; tasks = 0 }

abbrev pub next_round : {S : Type 0} → Plain S → Plain S
next_round p = record p { rounds = more32 p.rounds; round_fires = 0 }

abbrev pub with_state : {S : Type 0} → Plain S → S → Plain S
with_state p s = record p { state = s }

abbrev pub plain_task : {S K : Type 0} → Machine S K → Plain S → Plain S
plain_task m p = record p { state = m.ran p.state; tasks = more32 p.tasks }

abbrev pub plain_fire : {S K : Type 0} → Machine S K → Plain S → K → Plain S
plain_fire m p k = record p { state = m.fired p.state k; fires = more32 p.fires; round_fires = more32 p.round_fires }

-- a round is dirty where a watcher fired in it or a task waits at its end
abbrev pub was_dirty : {S K : Type 0} → Machine S K → Plain S → Bool
was_dirty m p = nat_lt 0 p.round_fires || m.waits p.state

abbrev pub count_dirty : {S : Type 0} → Plain S → Plain S
count_dirty p = record p { dirty_rounds = more32 p.dirty_rounds }

-- tasks run while one waits; or ten thousand have run and one more waits
pub data PlainDrains {S K : Type 0} (m : Machine S K) : Plain S → Bool → Plain S → Type 0 where
  plain_drained : {p : Plain S} → m.waits p.state ≡ false → PlainDrains m p false p
  plain_too_many : {p : Plain S} → m.waits p.state ≡ true → 10000 ≤ p.tasks → PlainDrains m p true p
  plain_ran : {p q : Plain S} {over : Bool} → m.waits p.state ≡ true → p.tasks < 10000 → PlainDrains m (plain_task m p) over q → PlainDrains m p over q

-- From the cursor upwards each live key is tested in the state as it stands then, and fired where it is dirty, up to
-- the last key or to one fire too many
pub data PlainWalks {S K : Type 0} (m : Machine S K) : Plain S → Option K → Bool → Plain S → Type 0 where
  plain_end : {p : Plain S} {c : Option K} → next_key m p.state c ≡ None → PlainWalks m p c false p
  plain_clean : {p q : Plain S} {c : Option K} {k : K} {over : Bool} → next_key m p.state c ≡ Some k → m.verdict p.state k ≢ found_dirty → PlainWalks m (with_state p (m.tested p.state k)) (Some k) over q → PlainWalks m p c over q
  plain_limit : {p : Plain S} {c : Option K} {k : K} → next_key m p.state c ≡ Some k → m.verdict p.state k ≡ found_dirty → 1000000 ≤ p.fires → PlainWalks m p c true p
  plain_dirty : {p q : Plain S} {c : Option K} {k : K} {over : Bool} → next_key m p.state c ≡ Some k → m.verdict p.state k ≡ found_dirty → p.fires < 1000000 → PlainWalks m (plain_fire m p k) (Some k) over q → PlainWalks m p c over q

-- a round: the tasks, and a walk from the least key to the last
pub data PlainRound {S K : Type 0} (m : Machine S K) : Plain S → RoundEnd → Plain S → Type 0 where
  plain_many_tasks : {p q : Plain S} → PlainDrains m (next_round p) true q → PlainRound m p round.AsyncLimit q
  plain_many_fires : {p q r : Plain S} → PlainDrains m (next_round p) false q → PlainWalks m q None true r → PlainRound m p round.FireLimit r
  plain_quiet : {p q r : Plain S} → PlainDrains m (next_round p) false q → PlainWalks m q None false r → was_dirty m r ≡ false → PlainRound m p (round.Quiet false) r
  plain_busy : {p q r : Plain S} → PlainDrains m (next_round p) false q → PlainWalks m q None false r → was_dirty m r ≡ true → PlainRound m p round.Busy (count_dirty r)

-- rounds up to one that isn't dirty, at most eleven
pub data PlainRounds {S K : Type 0} (m : Machine S K) : Plain S → End → Plain S → Type 0 where
  plain_last : {p q : Plain S} → PlainRound m p (round.Quiet false) q → PlainRounds m p (Settled false) q
  plain_over_fires : {p q : Plain S} → PlainRound m p round.FireLimit q → PlainRounds m p FireLimit q
  plain_over_tasks : {p q : Plain S} → PlainRound m p round.AsyncLimit q → PlainRounds m p AsyncLimit q
  plain_eleventh : {p q : Plain S} → PlainRound m p round.Busy q → 11 ≤ q.dirty_rounds → PlainRounds m p Infdig q
  plain_more : {p q r : Plain S} {end : End} → PlainRound m p round.Busy q → q.dirty_rounds < 11 → PlainRounds m q end r → PlainRounds m p end r

-- A whole digest: its answer is the rounds and the fires, or why it did not succeed. Want of memory is not in it
pub data PlainDigests {S K : Type 0} (m : Machine S K) : S → Result (ℕ × ℕ) DigestFault → Plain S → Type 0 where
  plain_ok : {s : S} {p : Plain S} → PlainRounds m (at_first s) (Settled false) p → m.handed (m.settled p.state) ≡ None → PlainDigests m s (Ok (p.rounds, p.fires)) (with_state p (m.settled p.state))
  plain_faulted : {s : S} {p : Plain S} {first : Fault} {count : ℕ} → PlainRounds m (at_first s) (Settled false) p → m.handed (m.settled p.state) ≡ Some (first, count) → PlainDigests m s (Err (fault.Faulted first count)) (with_state p (m.settled p.state))
  plain_infdig : {s : S} {p : Plain S} → PlainRounds m (at_first s) Infdig p → PlainDigests m s (Err fault.Infdig) (with_state p (m.failed p.state))
  plain_fire_limit : {s : S} {p : Plain S} → PlainRounds m (at_first s) FireLimit p → PlainDigests m s (Err fault.FireLimit) (with_state p (m.failed p.state))
  plain_async_limit : {s : S} {p : Plain S} → PlainRounds m (at_first s) AsyncLimit p → PlainDigests m s (Err fault.AsyncLimit) (with_state p (m.failed p.state))

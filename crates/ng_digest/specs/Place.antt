-- Where a world stands in a digest, and where each call takes it.
use Rattle.std.specs.Prelude.{◌≡◌, Bool, true, false, Option, Some, None, Result, Ok, Err, ◌||◌, nat_lt, if◌then◌else◌}
use Rattle.ng_base.specs.declared.fault.Memory.{Memory as Wanted}
use Rattle.ng_base.specs.declared.fault.Memory.TheVariants.{Refused, Worn}
use Rattle.ng_digest.specs.declared.world.Tested.{Tested}
use Rattle.ng_digest.specs.declared.world.Tested.TheVariants.{Clean, Dirty, Faulted, Memory}
use Rattle.ng_digest.specs.declared.log.Log.{Log}
use Rattle.ng_digest.specs.declared.world.Stage.{Stage}
use Rattle.ng_digest.specs.declared.world.Stage.TheVariants.{Between, Draining, AtKey, Pending, Passed, Through, Calm, Over}
use Rattle.ng_digest.specs.Log.{with_round, with_test, with_fire, with_task, with_close}
use Rattle.ng_digest.specs.Machine.{Machine, Verdict, found_clean, found_dirty, found_faulted, next_key, verdict_at, tested_at, fired_at, adds_at, is_same}

-- the state; the key at the cursor; the key that was last dirty; what was counted; which call may come
pub record Place (S K : Type 0) : Type 0 where
  pub state : S
  pub cursor : Option K
  pub remembered : Option K
  pub log : Log
  pub stage : Stage

-- a world's states and keys, what its calls do to a state, and where it stands
pub record Moves (W : Type 0) : Type 1 where
  pub State : Type 0
  pub Key : Type 0
  pub machine : Machine State Key
  pub at : W → Place State Key
  -- what else holds of a world between its calls, and what holds once its rounds are over, unless memory ran out
  pub Holds : W → Type 0
  pub Rests : W → Type 0
  -- what is used up where a call answers that a counter stands at its last value
  pub IsWorn : W → Type 0

-- the cursor may move: behind a key that was dealt with, or once no task waits
abbrev pub MayAdvance : Stage → Bool → Type 0
MayAdvance Draining waits = waits ≡ false
MayAdvance Passed waits = Unit {0}
MayAdvance _ waits = ⊥

-- a round begins
abbrev pub begun : {S K : Type 0} → Place S K → Place S K
begun p = record p { cursor = None; log = with_round p.log; stage = Draining }

-- a task ran, which clears what is remembered; or none waited
abbrev pub after_task : {S K : Type 0} → Bool → Machine S K → Place S K → Place S K
after_task true m p = record p { state = m.ran p.state; remembered = None; log = with_task p.log }
after_task false m p = p

-- the cursor came to a key, or found none above it
abbrev pub at_next : {S K : Type 0} → Place S K → Option K → Place S K
at_next p None = record p { stage = Through }
at_next p (Some k) = record p { cursor = Some k; stage = AtKey }

abbrev pub advanced : {S K : Type 0} → Machine S K → Place S K → Place S K
advanced m p = at_next p (next_key m p.state p.cursor)

-- a test was made: a dirty watcher is to be fired, and a round stops at the remembered key if it isn't dirty
abbrev pub stage_tested : Bool → Verdict → Stage
stage_tested same found_dirty = Pending
stage_tested true found_clean = Through
stage_tested true found_faulted = Through
stage_tested false found_clean = Passed
stage_tested false found_faulted = Passed

abbrev pub state_tested : {S K : Type 0} → Machine S K → S → Option K → Verdict → S
state_tested m s c found_dirty = s
state_tested m s c found_clean = tested_at m s c
state_tested m s c found_faulted = tested_at m s c

abbrev pub is_remembered : {S K : Type 0} → Machine S K → Place S K → Bool
is_remembered m p = is_same m p.cursor p.remembered

abbrev pub found : {S K : Type 0} → Machine S K → Place S K → Verdict
found m p = verdict_at m p.state p.cursor

abbrev pub after_test : {S K : Type 0} → Machine S K → Place S K → Place S K
after_test m p = record p { state = state_tested m p.state p.cursor (found m p); log = with_test p.log; stage = stage_tested (is_remembered m p) (found m p) }

-- a fire was made: its key is remembered, unless it added a watcher
abbrev pub after_fire : {S K : Type 0} → Machine S K → Place S K → Place S K
after_fire m p = record p { state = fired_at m p.state p.cursor; remembered = if adds_at m p.state p.cursor then None else p.cursor; log = with_fire p.log; stage = Passed }

-- a round was dirty where a watcher fired in it or a task waits at its end
abbrev pub is_dirty : {S K : Type 0} → Machine S K → Place S K → Bool
is_dirty m p = nat_lt 0 p.log.round_fires || m.waits p.state

abbrev pub stage_closed : Bool → Stage
stage_closed true = Between
stage_closed false = Calm

abbrev pub closed : {S K : Type 0} → Machine S K → Place S K → Place S K
closed m p = record p { log = with_close (is_dirty m p) p.log; stage = stage_closed (is_dirty m p) }

-- the end, after the rounds have settled and after they were given up
abbrev pub posted : {S K : Type 0} → Machine S K → Place S K → Place S K
posted m p = record p { state = m.settled p.state; stage = Over }

abbrev pub given_up : {S K : Type 0} → Machine S K → Place S K → Place S K
given_up m p = record p { state = m.failed p.state }

-- the answer of a test is what the watcher's test finds; want of memory is free
abbrev pub Answers : Verdict → Tested → Type 0
Answers v Clean = v ≡ found_clean
Answers v Dirty = v ≡ found_dirty
Answers v Faulted = v ≡ found_faulted
Answers v (Memory e) = Unit {0}

-- what holds unless a test wanted memory
abbrev pub OnTested : Tested → Type 0 → Type 0
OnTested (Memory e) p = Unit {0}
OnTested _ p = p

-- what holds where memory was wanted since a counter stands at its last value
abbrev pub WhenWorn : Wanted → Type 0 → Type 0
WhenWorn Worn p = p
WhenWorn Refused p = Unit {0}

-- the same of a call's answer, and of a test's
abbrev pub OnWorn : {T : Type 0} → Result T Wanted → Type 0 → Type 0
OnWorn (Ok v) p = Unit {0}
OnWorn (Err e) p = WhenWorn e p

abbrev pub OnWornTest : Tested → Type 0 → Type 0
OnWornTest (Memory e) p = WhenWorn e p
OnWornTest _ p = Unit {0}

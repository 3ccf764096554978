-- What a world is to a digest: a state with watchers under keys, and what a test, a fire and a task do to it.
use Rattle.std.specs.Prelude.{ℕ, Bool, true, false, Option, Some, None, List, find, filter, length}
use Rattle.std.specs.Ordering.{is_lt, is_eq}
use Rattle.std.specs.declared.cmp.Ordering.{Ordering}
use Rattle.ng_base.specs.declared.fault.Fault.{Fault}

-- what the test of a watcher finds
pub data Verdict : Type 0 where
  found_clean : Verdict
  found_dirty : Verdict
  found_faulted : Verdict

-- States S with watchers under keys K. Each step gives one state.
pub record Machine (S K : Type 0) : Type 0 where
  -- how keys are ordered
  pub order : K → K → Ordering
  -- the live keys, the least first
  pub keys : S → List K
  -- what the test of a key's watcher finds
  pub verdict : S → K → Verdict
  -- the state after a test that wasn't dirty, which at most hands a fault over
  pub tested : S → K → S
  -- the state after the fire of a dirty watcher
  pub fired : S → K → S
  -- whether that fire adds a watcher
  pub adds : S → K → Bool
  -- whether a task waits
  pub waits : S → Bool
  -- the state after the first waiting task
  pub ran : S → S
  -- the state after what is done once the rounds have settled, and once they were given up
  pub settled : S → S
  pub failed : S → S
  -- the first fault handed over in this digest, and the count
  pub handed : S → Option (Fault × ℕ)

-- a key is above the cursor; before the least key the cursor is none
abbrev pub above : {S K : Type 0} → Machine S K → Option K → K → Bool
above m None k = true
above m (Some c) k = is_lt (m.order c k)

-- the least live key above the cursor
abbrev pub next_key : {S K : Type 0} → Machine S K → S → Option K → Option K
next_key m s c = find (above m c) (m.keys s)

-- how many live keys are above the cursor
abbrev pub ahead : {S K : Type 0} → Machine S K → S → Option K → ℕ
ahead m s c = length (filter (above m c) (m.keys s))

-- the same at the cursor
abbrev pub verdict_at : {S K : Type 0} → Machine S K → S → Option K → Verdict
verdict_at m s None = found_clean
verdict_at m s (Some k) = m.verdict s k

abbrev pub tested_at : {S K : Type 0} → Machine S K → S → Option K → S
tested_at m s None = s
tested_at m s (Some k) = m.tested s k

abbrev pub fired_at : {S K : Type 0} → Machine S K → S → Option K → S
fired_at m s None = s
fired_at m s (Some k) = m.fired s k

abbrev pub adds_at : {S K : Type 0} → Machine S K → S → Option K → Bool
adds_at m s None = false
adds_at m s (Some k) = m.adds s k

-- the cursor stands at the remembered key
abbrev pub same_key : {K : Type 0} → (K → K → Ordering) → Option K → Option K → Bool
same_key order (Some c) (Some k) = is_eq (order c k)
same_key order (Some c) None = false
same_key order None k = false

abbrev pub is_same : {S K : Type 0} → Machine S K → Option K → Option K → Bool
is_same m = same_key m.order

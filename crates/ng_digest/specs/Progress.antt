-- Where a digest stands, but for its world's state, and where each call takes that.
use Rattle.std.specs.Prelude.{ℕ, Bool, true, false, Option, Some, None, if◌then◌else◌}
use Rattle.ng_digest.specs.declared.log.Log.{Log}
use Rattle.ng_digest.specs.declared.progress.Last.{Last}
use Rattle.ng_digest.specs.declared.progress.Last.TheVariants.{Nothing, AtCursor, Key}
use Rattle.ng_digest.specs.declared.world.Stage.{Stage}
use Rattle.ng_digest.specs.declared.world.Stage.TheVariants.{Between, Draining, AtKey, Passed, Through, Over}
use Rattle.ng_digest.specs.Log.{zero_log, with_round, with_test, with_tests, with_fire, with_task, with_close}
use Rattle.ng_digest.specs.Machine.{Verdict}
use Rattle.ng_digest.specs.Place.{Place, stage_tested, stage_closed}

-- what a place has beside its state
pub record Standing (K : Type 0) : Type 0 where
  pub cursor : Option K
  pub remembered : Option K
  pub log : Log
  pub stage : Stage

-- the place of a state
abbrev pub place : {S K : Type 0} → S → Standing K → Place S K
place s p = record { state = s; cursor = p.cursor; remembered = p.remembered; log = p.log; stage = p.stage }

-- the key that was last dirty
abbrev pub last_key : {K : Type 0} → Last K → Option K → Option K
last_key Nothing c = None
last_key AtCursor c = c
last_key (Key k) c = Some k

-- before a digest: nothing was counted or remembered yet
abbrev pub at_start : {K : Type 0} → Standing K
at_start = record { cursor = None; remembered = None; log = zero_log; stage = Between }

-- as `begun` of a place
abbrev pub round_begun : {K : Type 0} → Standing K → Standing K
round_begun p = record p { cursor = None; log = with_round p.log; stage = Draining }

-- as `after_task`
abbrev pub task_done : {K : Type 0} → Bool → Standing K → Standing K
task_done true p = record p { remembered = None; log = with_task p.log }
task_done false p = p

-- as `at_next`
abbrev pub came_to : {K : Type 0} → Option K → Standing K → Standing K
came_to None p = record p { stage = Through }
came_to (Some k) p = record p { cursor = Some k; stage = AtKey }

-- so many keys were tested and passed, the last of which is the cursor's
abbrev pub passed : {K : Type 0} → ℕ → Option K → Standing K → Standing K
passed n c p = record p { cursor = c; log = with_tests n p.log }

-- as `after_test`
abbrev pub test_done : {K : Type 0} → Bool → Verdict → Standing K → Standing K
test_done same v p = record p { log = with_test p.log; stage = stage_tested same v }

-- as `after_fire`
abbrev pub fire_done : {K : Type 0} → Bool → Standing K → Standing K
fire_done adds p = record p { remembered = if adds then None else p.cursor; log = with_fire p.log; stage = Passed }

-- as `closed`
abbrev pub round_closed : {K : Type 0} → Bool → Standing K → Standing K
round_closed dirty p = record p { log = with_close dirty p.log; stage = stage_closed dirty }

-- as `posted`
abbrev pub rounds_over : {K : Type 0} → Standing K → Standing K
rounds_over p = record p { stage = Over }

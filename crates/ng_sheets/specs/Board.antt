-- Numbers, watchers over them, and what watchers and tasks do to both.
use Rattle.std.specs.Prelude.{ℕ, suc, ◌+◌, Bool, true, false, nat_lt, nat_eq, if◌then◌else◌, Option, Some, None, List, [], ◌∷◌, ◌++◌, length, slice_get, slice_set, slice_index, remove}
use Rattle.std.specs.List.{list_any}
use Rattle.ng_base.specs.declared.fault.Fault.{Fault}
use Rattle.ng_base.specs.declared.fault.Fault.TheVariants.{Range}
use Rattle.ng_sheets.specs.declared.board.Act.{Act}
use Rattle.ng_sheets.specs.declared.board.Act.TheVariants as acts
use Rattle.ng_sheets.specs.declared.board.Body.{Body}
use Rattle.ng_sheets.specs.declared.board.Watch.{Watch}
use Rattle.ng_sheets.specs.declared.board.Board.{Board}
use Rattle.ng_digest.specs.Log.{more32}
use Rattle.ng_digest.specs.Machine.{Verdict, found_clean, found_dirty, found_faulted}

pub record State : Type 0 where
  pub numbers : List ℕ
  pub watches : List Watch
  pub bodies : List Body
  pub tasks : List ℕ
  pub told : List ℕ
  pub failed : List ℕ
  pub handed : Option (Fault × ℕ)
  pub added : Bool

abbrev pub view : Board → State
view b = record { numbers = b.numbers.items; watches = b.watches.items; bodies = b.bodies.items; tasks = b.tasks.items; told = b.told.items; failed = b.failed.items; handed = b.handed; added = b.added }

-- numbers, watchers and bodies before anything ran
abbrev pub set_up : List ℕ → List Watch → List Body → State
set_up numbers watches bodies = record { numbers = numbers; watches = watches; bodies = bodies; tasks = []; told = []; failed = []; handed = None; added = false }

-- a state, and the fault that was met
pub record Ran : Type 0 where
  pub state : State
  pub fault : Option Fault

abbrev pub done : State → Ran
done s = record { state = s; fault = None }

abbrev pub faulted : State → Fault → Ran
faulted s f = record { state = s; fault = Some f }

-- a watcher is put in unset, unless it is there
abbrev pub put_in : ℕ → Watch → State → State
put_in k w s = if w.live then s else record s { watches = slice_set s.watches k (record w { live = true; kept = None }); added = true }

abbrev pub put_in_at : ℕ → Option Watch → State → Ran
put_in_at k None s = faulted s Range
put_in_at k (Some w) s = done (put_in k w s)

abbrev pub take_out_at : ℕ → Option Watch → State → Ran
take_out_at k None s = faulted s Range
take_out_at k (Some w) s = done (record s { watches = slice_set s.watches k (record w { live = false }) })

abbrev pub write : ℕ → ℕ → State → Ran
write place number s = if nat_lt place (length s.numbers) then done (record s { numbers = slice_set s.numbers place number }) else faulted s Range

abbrev pub step_up : ℕ → ℕ → State → State
step_up place limit s = if nat_lt (slice_index s.numbers place) limit then record s { numbers = slice_set s.numbers place (slice_index s.numbers place + 1) } else s

-- what an act does
abbrev pub act : Act → State → Ran
act acts.Rest s = done s
act (acts.Set place number) s = write place number s
act (acts.Step place limit) s = if nat_lt place (length s.numbers) then done (step_up place limit s) else faulted s Range
act (acts.Copy from to) s = if nat_lt from (length s.numbers) then write to (slice_index s.numbers from) s else faulted s Range
act (acts.Add key) s = put_in_at key (slice_get s.watches key) s
act (acts.Remove key) s = take_out_at key (slice_get s.watches key) s
act (acts.Queue body) s = done (record s { tasks = s.tasks ++ body ∷ [] })
act (acts.Fail fault) s = faulted s fault

-- a body's acts in order, up to one that faults
abbrev pub go_on : Option Fault → State → (State → Ran) → Ran
go_on None s next = next s
go_on (Some f) s next = faulted s f

abbrev pub and_then : Ran → (State → Ran) → Ran
and_then r next = go_on r.fault r.state next

abbrev pub run_body : Body → State → Ran
run_body b s = and_then (and_then (act b.first s) (act b.second)) (act b.third)

abbrev pub run_found : Option Body → State → Ran
run_found None s = faulted s Range
run_found (Some b) s = run_body b s

abbrev pub run_at : ℕ → State → Ran
run_at i s = run_found (slice_get s.bodies i) s

-- a fault is handed over
abbrev pub one_more_fault : Fault → Option (Fault × ℕ) → Option (Fault × ℕ)
one_more_fault f None = Some (f, 1)
one_more_fault f (Some h) = Some (h.0, more32 h.1)

abbrev pub hand_over : Fault → State → State
hand_over f s = record s { handed = one_more_fault f s.handed }

-- what a test finds: the number now against the one that was kept
abbrev pub is_kept : Option ℕ → ℕ → Bool
is_kept None n = false
is_kept (Some old) n = nat_eq old n

abbrev pub compare : Option ℕ → Option ℕ → Verdict
compare kept None = found_faulted
compare kept (Some n) = if is_kept kept n then found_clean else found_dirty

abbrev pub verdict_of : Option Watch → List ℕ → Verdict
verdict_of None ns = found_clean
verdict_of (Some w) ns = compare w.kept (slice_get ns w.place)

abbrev pub verdict : State → ℕ → Verdict
verdict s k = verdict_of (slice_get s.watches k) s.numbers

-- a test's fault is handed over once in a digest
abbrev pub is_told : State → ℕ → Bool
is_told s k = list_any (λ j. nat_eq j k) s.told

abbrev pub is_quiet : Verdict → Bool → Bool
is_quiet found_clean t = true
is_quiet found_dirty t = true
is_quiet found_faulted t = t

abbrev pub tell : ℕ → Verdict → State → State
tell k v s = if is_quiet v (is_told s k) then s else hand_over Range (record s { told = s.told ++ k ∷ [] })

abbrev pub tested : State → ℕ → State
tested s k = tell k (verdict s k) s

-- a fire keeps the number now and runs the body; its fault is handed over, and the watcher is marked
abbrev pub mark : ℕ → Option Fault → State → State
mark k None s = s
mark k (Some f) s = hand_over f (record s { failed = s.failed ++ k ∷ [] })

abbrev pub marked : ℕ → Ran → State
marked k r = mark k r.fault r.state

abbrev pub keep : ℕ → Watch → ℕ → State → State
keep k w n s = record s { watches = slice_set s.watches k (record w { kept = Some n }); added = false }

abbrev pub fire_at : ℕ → Watch → Option ℕ → State → State
fire_at k w None s = s
fire_at k w (Some n) s = marked k (run_at w.body (keep k w n s))

abbrev pub fire_found : ℕ → Option Watch → State → State
fire_found k None s = s
fire_found k (Some w) s = fire_at k w (slice_get s.numbers w.place) s

abbrev pub fired : State → ℕ → State
fired s k = fire_found k (slice_get s.watches k) s

-- the first waiting task runs; its fault is handed over
abbrev pub waits : State → Bool
waits s = nat_lt 0 (length s.tasks)

abbrev pub told_of : Option Fault → State → State
told_of None s = s
told_of (Some f) s = hand_over f s

abbrev pub ended : Ran → State
ended r = told_of r.fault r.state

abbrev pub ran : State → State
ran s = if waits s then ended (run_at (slice_index s.tasks 0) (record s { tasks = remove s.tasks 0 })) else s

-- each watcher whose fire faulted is set to unset
abbrev pub unset_found : ℕ → Option Watch → List Watch → List Watch
unset_found k None ws = ws
unset_found k (Some w) ws = slice_set ws k (record w { kept = None })

abbrev pub unset_each : List ℕ → List Watch → List Watch
unset_each [] ws = ws
unset_each (k ∷ ks) ws = unset_each ks (unset_found k (slice_get ws k) ws)

abbrev pub unset : State → State
unset s = record s { watches = unset_each s.failed s.watches }

-- the first live watcher of a list whose first has the key k
abbrev pub first_live : ℕ → List Watch → Option ℕ
first_live k [] = None
first_live k (w ∷ ws) = if w.live then Some k else first_live (suc k) ws

-- the keys of the live ones
abbrev pub live_from : ℕ → List Watch → List ℕ
live_from k [] = []
live_from k (w ∷ ws) = if w.live then k ∷ live_from (suc k) ws else live_from (suc k) ws

-- What a digest does to a page (guide: Scopes, "Scope Life Cycle"; API: `$digest`).
use Rattle.std.specs.Prelude.{ℕ, Bool, false, List, [], Option, Some, None, Result, Ok, Err, if◌then◌else◌}
use Rattle.std.specs.BTreeSet.{insert_key}
use Rattle.std.specs.List.{list_any}
use Rattle.std.specs.Map.{keys_of}
use Rattle.ng_core.specs.State as act
use Rattle.ng_core.specs.declared.core_state.Handed.{Handed}
use Rattle.ng_base.specs.Views.{ViewTree}
use Rattle.ng_base.specs.declared.fault.Fault.{Fault}
use Rattle.ng_base.specs.declared.path.Key.{Key}
use Rattle.ng_digest.specs.Machine.{Machine, Verdict, found_clean, found_dirty, found_faulted}
use Rattle.ng_fire.specs.Fires.{fired as fires, fire_adds}
use Rattle.ng_changes.specs.Runs.{any_waits, ran}
use Rattle.ng_settling.specs.Settling as settling
use Rattle.ng_link.specs.Calls.{with_core}
use Rattle.ng_link.specs.State as link
use Rattle.ng_link.specs.Untroubled.{untroubled}
use Rattle.ng_behaviour.specs.Keys.{key_cmp, is_key}
use Rattle.ng_watch.specs.Seen.{Watcher}
use Rattle.ng_watch.specs.Table.{found}
use Rattle.ng_watch.specs.Verdicts.{Judged, clean, dirty, verdict}

-- A page in a digest: its works; the keys whose test's fault was handed over in this digest, and those whose fire faulted in it,
-- both in order; and what the probes printed.
pub record State : Type 0 where
  pub works : link.State
  pub told : List Key
  pub faulted : List Key
  pub probed : List (List ℕ)

abbrev pub with_works : link.State → State → State
with_works w s = record s { works = w }

-- what the test of a watcher finds
abbrev pub found_as : Result Judged Fault → Verdict
found_as (Ok clean) = found_clean
found_as (Ok (dirty t)) = found_dirty
found_as (Err f) = found_faulted

abbrev pub verdict_of : State → Option Watcher → Verdict
verdict_of s None = found_clean
verdict_of s (Some w) = found_as (verdict s.works.core.objects w)

abbrev pub verdict_at : State → Key → Verdict
verdict_at s k = verdict_of s (found k s.works.watchers)

-- whether the fault of a key's test was handed over in this digest
abbrev pub is_told : List Key → Key → Bool
is_told told k = list_any (is_key k) told

abbrev pub told_at : Key → Fault → State → State
told_at k f s = record s { works = with_core (act.with_fault f s.works.core) s.works; told = insert_key key_cmp s.told k }

-- a test hands its fault over, once in a digest
abbrev pub tell : Key → Result Judged Fault → State → State
tell k (Ok j) s = s
tell k (Err f) s = if is_told s.told k then s else told_at k f s

abbrev pub tested_of : Key → Option Watcher → State → State
tested_of k None s = s
tested_of k (Some w) s = tell k (verdict s.works.core.objects w) s

abbrev pub tested : State → Key → State
tested s k = tested_of k (found k s.works.watchers) s

-- the snapshot that a dirty test hands on
abbrev pub handed_on : Result Judged Fault → Option ViewTree
handed_on (Ok clean) = None
handed_on (Ok (dirty t)) = Some t
handed_on (Err f) = None

abbrev pub handed_on_of : State → Option Watcher → Option ViewTree
handed_on_of s None = None
handed_on_of s (Some w) = handed_on (verdict s.works.core.objects w)

abbrev pub handed_on_at : State → Key → Option ViewTree
handed_on_at s k = handed_on_of s (found k s.works.watchers)

-- a fire that faulted is remembered up to the end of the digest
abbrev pub with_faulted : Key → Bool → List Key → List Key
with_faulted k b ks = if b then insert_key key_cmp ks k else ks

abbrev pub fired_to : Key → link.State × Bool → State → State
fired_to k r s = record s { works = r.0; faulted = with_faulted k r.1 s.faulted }

-- the watcher keeps the snapshot that was handed on, and fires
abbrev pub fired_by : Key → Option ViewTree → State → State
fired_by k None s = s
fired_by k (Some t) s = fired_to k (fires k t s.works) s

abbrev pub fired : State → Key → State
fired s k = fired_by k (handed_on_at s k) s

abbrev pub adds_by : Key → Option ViewTree → State → Bool
adds_by k None s = false
adds_by k (Some t) s = fire_adds k t s.works

abbrev pub adds : State → Key → Bool
adds s k = adds_by k (handed_on_at s k) s

-- once the rounds have settled; and once they were given up
abbrev pub settled : State → State
settled s = record s { works = (settling.settled s.faulted s.works).0; probed = (settling.settled s.faulted s.works).1 }

abbrev pub failed : State → State
failed s = with_works (settling.given_up s.faulted s.works) s

-- the first fault that was handed over, and the count
abbrev pub counted : ℕ → Option Fault → Option (Fault × ℕ)
counted n None = None
counted n (Some f) = Some (f, n)

abbrev pub handed_over : Handed → Option (Fault × ℕ)
handed_over h = counted h.count h.first

abbrev pub page_machine : Machine State Key
page_machine = record {
  order = key_cmp;
  keys = λ s. keys_of s.works.watchers;
  verdict = verdict_at;
  tested = tested;
  fired = fired;
  adds = adds;
  waits = λ s. any_waits s.works.core.tasks;
  ran = λ s. with_works (ran s.works) s;
  settled = settled;
  failed = failed;
  handed = λ s. handed_over s.works.core.handed;
}

-- a page before a digest: no fault was handed over, no fire has faulted, nothing was printed
abbrev pub readied : link.State → State
readied s = record { works = with_core (untroubled s.core) s; told = []; faulted = []; probed = [] }

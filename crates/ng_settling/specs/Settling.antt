-- What comes once the rounds have settled, in this order: each watcher whose fire faulted keeps nothing; each one-time binding
-- whose value is there ends; the probes are evaluated (guide: Expressions, "One-time binding").
use Rattle.std.specs.Prelude.{ℕ, ◌&&◌, Bool, List, [], ◌∷◌, ◌++◌, map, codes, Result, Ok, Err, if◌then◌else◌}
use Rattle.ng_core.specs.State as act
use Rattle.ng_base.specs.Faults.{fault_name}
use Rattle.ng_base.specs.Objects.{Object}
use Rattle.ng_base.specs.declared.fault.Fault.{Fault}
use Rattle.ng_base.specs.declared.fault.Fault.TheVariants.{ImpureCall}
use Rattle.ng_base.specs.declared.path.Key.{Key}
use Rattle.ng_behaviour.specs.Scopes.{object_at}
use Rattle.ng_drawing.specs.Instance.{text_now}
use Rattle.ng_language.specs.Trees.{Trees}
use Rattle.ng_link.specs.Calls.{with_core, unset_at, ended_at}
use Rattle.ng_link.specs.State.{State}
use Rattle.ng_evaluation.specs.Purity.{are_pure, all_filters_known}

-- watchers keep nothing any more, so that the next digest fires them again
abbrev pub unset_all : List Key → State → State
unset_all [] s = s
unset_all (k ∷ ks) s = unset_all ks (unset_at k s)

-- a program that changes nothing and names known filters alone
abbrev pub is_watchable : Trees → Bool
is_watchable p = are_pure p && all_filters_known p

-- what a probe prints: its value as a text, or the name of its fault
abbrev pub printed_as : Result (List ℕ) Fault → List ℕ
printed_as (Ok t) = t
printed_as (Err f) = codes "fault " ++ fault_name f

-- a probe is evaluated over an object; one that would change something is not
abbrev pub probe_text : List Object → ℕ → Trees → List ℕ
probe_text objects o p = printed_as (if is_watchable p then text_now objects o p else Err ImpureCall)

-- the probes are evaluated over the root scope
abbrev pub probed : act.State → List (List ℕ)
probed c = map (probe_text c.objects (object_at c.scopes 0)) c.probes

-- no probe waits
abbrev pub without_probes : State → State
without_probes s = with_core (record s.core { probes = [] }) s

-- the keys of the watchers whose fire faulted in the digest; the state after it, and what the probes print
abbrev pub settled : List Key → State → State × List (List ℕ)
settled faulted s = by (ended_at (unset_all faulted s))
  where
    by : State → State × List (List ℕ)
    by t = (without_probes t, probed t.core)

-- the rounds were given up: tasks and probes go on waiting, and no one-time binding ends
abbrev pub given_up : List Key → State → State
given_up faulted s = unset_all faulted s

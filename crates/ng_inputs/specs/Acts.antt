-- What holds of the commands of a script that was read.
use Rattle.std.specs.Prelude.{◌≡◌, true, List, is_some}
use Rattle.std.specs.List.{AllByRecursion}
use Rattle.serde_json.specs.Find.{as_array}
use Rattle.ng_script.specs.Acts.{Act, Entry, click_on, fire_at, type_into, check_at, eval_root, eval_at, emit_from, broadcast_from, queue_task, probe_root, destroy_scope, make_digest}
use Rattle.ng_evaluation.specs.Purity.{are_pure, all_filters_known}

-- a probe is pure, and its filters are there; the arguments of an event are a list
abbrev pub IsSound : Act → Type 0
IsSound (probe_root p) = (are_pure p ≡ true) × (all_filters_known p ≡ true)
IsSound (emit_from o name args) = is_some (as_array args) ≡ true
IsSound (broadcast_from o name args) = is_some (as_array args) ≡ true
IsSound (click_on t) = Unit {0}
IsSound (fire_at e t d) = Unit {0}
IsSound (type_into t x) = Unit {0}
IsSound (check_at t b) = Unit {0}
IsSound (eval_root p) = Unit {0}
IsSound (eval_at o p) = Unit {0}
IsSound (queue_task p) = Unit {0}
IsSound (destroy_scope o) = Unit {0}
IsSound make_digest = Unit {0}

abbrev pub AreSound : List Entry → Type 0
AreSound es = AllByRecursion (λ (e : Entry). IsSound e.act) es

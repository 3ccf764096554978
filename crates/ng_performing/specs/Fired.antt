-- Commands that fire an event of the document.
use Rattle.std.specs.Prelude.{Option, None, Some, codes}
use Rattle.serde_json.specs.Data.{object, no_members}
use Rattle.ng_base.specs.declared.path.Target.{Target}
use Rattle.ng_commands.specs.Handling.{Happening}
use Rattle.ng_script.specs.Acts.{Act, click_on, fire_at, type_into, check_at, eval_root, eval_at, emit_from, broadcast_from, queue_task, probe_root, destroy_scope, make_digest}

-- an event and its target
pub record Fired : Type 0 where
  pub event : Happening
  pub target : Target

-- the event that a command fires
abbrev pub fired_by : Act → Option Fired
fired_by (click_on t) = Some (record { event = record { type = codes "click"; extra = object no_members }; target = t })
fired_by (fire_at e t d) = Some (record { event = record { type = e; extra = d }; target = t })
fired_by (type_into t x) = None
fired_by (check_at t b) = None
fired_by (eval_root p) = None
fired_by (eval_at o p) = None
fired_by (emit_from o name args) = None
fired_by (broadcast_from o name args) = None
fired_by (queue_task p) = None
fired_by (probe_root p) = None
fired_by (destroy_scope o) = None
fired_by make_digest = None

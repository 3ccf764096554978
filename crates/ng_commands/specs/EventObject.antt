-- `$event`, the object of a dispatch (API: ngClick; guide: Expressions, "$event"): one new object with `type`, and then the extra
-- names. Nothing is made where a number is out of range, or where the objects would be too many.
use Rattle.std.specs.Prelude.{ℕ, ◌+◌, Bool, false, List, [], ◌∷◌, ◌++◌, length, Option, None, Some, Result, Ok, Err, codes, nat_lt, unwrap_or, option_map, if◌then◌else◌}
use Rattle.std.specs.Str.{chars}
use Rattle.serde_json.specs.Data.{Data, Members, no_members, member}
use Rattle.ng_core.specs.Beginning.{members_in}
use Rattle.ng_core.specs.State as act
use Rattle.ng_core.specs.State.{Run, with_objects}
use Rattle.ng_base.specs.Objects.{Object}
use Rattle.ng_base.specs.Views.{prim}
use Rattle.ng_base.specs.declared.fault.Fault.{Fault}
use Rattle.ng_base.specs.declared.fault.Fault.TheVariants.{Range, StoreFull}
use Rattle.ng_base.specs.declared.heap.ObjKind.TheVariants as kinds
use Rattle.ng_base.specs.declared.value.Value.{Value}
use Rattle.ng_base.specs.declared.value.Value.TheVariants as value
use Rattle.ng_language.specs.Objects.{look, new_object, set_name}
use Rattle.ng_language.specs.Operators.{truthy}
use Rattle.ng_store.specs.Json.{is_whole, objects_in, json_value, with_json}
use Rattle.ng_store.specs.declared.json.JsonFault.{JsonFault}

abbrev pub value_read : Result Value JsonFault → Value
value_read (Ok v) = v
value_read (Err e) = value.Undefined

-- the names of a JSON object are set on an object that stands, one after another
abbrev pub extra_set : List Object → ℕ → Members → List Object
extra_set objects o no_members = objects
extra_set objects o (member k d ms) = extra_set (set_name (with_json objects d) o (chars k) (value_read (json_value objects d))) o ms

-- an event object more, of this type
abbrev pub typed_event : List Object → List ℕ → List Object
typed_event objects type = set_name (objects ++ new_object kinds.Event None ∷ []) (length objects) (codes "type") (value.Text type)

abbrev pub event_objects : List Object → List ℕ → Data → List Object
event_objects objects type extra = extra_set (typed_event objects type) (length objects) (members_in extra)

-- Why it can't be made: a number, first, or else the count of the objects, among which the event stands for the extra object.
abbrev pub event_refusal : List Object → Data → Option Fault
event_refusal objects extra =
    if is_whole extra then (if nat_lt 1000000 (length objects + objects_in extra) then Some StoreFull else None) else Some Range

-- the object's name, or why there is none
abbrev pub event_made : Option Fault → List ℕ → Data → act.State → Run ℕ
event_made None type extra c = (with_objects (event_objects c.objects type extra) c, Ok (length c.objects))
event_made (Some f) type extra c = (c, Err f)

abbrev pub event_run : List ℕ → Data → act.State → Run ℕ
event_run type extra c = event_made (event_refusal c.objects extra) type extra c

-- whether a name of an object counts as true
abbrev pub is_set : List Object → ℕ → List ℕ → Bool
is_set objects o name = unwrap_or (option_map (λ v. truthy (prim v)) (look objects o name)) false

-- whether its `cancelBubble` counts as true
abbrev pub is_cancelled : List Object → ℕ → Bool
is_cancelled objects o = is_set objects o (codes "cancelBubble")

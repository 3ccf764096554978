-- What the methods of an event object write (API: `$rootScope.Scope`, `$on`).
use Rattle.std.specs.Prelude.{ℕ, true, List, codes, Option, None, Some, if◌then◌else◌}
use Rattle.std.specs.Str.{bytes_eq}
use Rattle.ng_base.specs.Objects.{Object}
use Rattle.ng_base.specs.declared.value.Value.TheVariants as value
use Rattle.ng_language.specs.Objects.{set_name}
use Rattle.ng_write.specs.declared.events.EventCall.{EventCall}
use Rattle.ng_write.specs.declared.events.EventCall.TheVariants as calls

-- the method of an event object of a name
abbrev pub event_call_named : List ℕ → Option EventCall
event_call_named name =
    if bytes_eq name (codes "stopPropagation") then Some calls.StopPropagation
    else (if bytes_eq name (codes "preventDefault") then Some calls.PreventDefault
    else None)

-- the property that a method sets
abbrev pub set_by : EventCall → List ℕ
set_by calls.StopPropagation = codes "cancelBubble"
set_by calls.PreventDefault = codes "defaultPrevented"

-- the objects after a method of an event object: its property is true
abbrev pub event_called : List Object → ℕ → EventCall → List Object
event_called objects o call = set_name objects o (set_by call) (value.Bool true)

-- The object of an event, from its first line to its end (guide: Scopes, "Scope Events Propagation").
use Rattle.std.specs.Prelude.{ℕ, false, List, [], ◌∷◌, ◌++◌, length, codes, None, Ok, Err, nat_lt, if◌then◌else◌}
use Rattle.ng_base.specs.Objects.{Object}
use Rattle.ng_base.specs.Views.{ViewTree, prim, list, views_from}
use Rattle.ng_base.specs.declared.fault.Fault.TheVariants.{StoreFull}
use Rattle.ng_base.specs.declared.heap.ObjKind.TheVariants as kinds
use Rattle.ng_base.specs.declared.value.Value.{Value}
use Rattle.ng_base.specs.declared.value.Value.TheVariants as value
use Rattle.ng_behaviour.specs.Scopes.{object_at}
use Rattle.ng_language.specs.Objects.{new_object, set_name}
use Rattle.ng_members.specs.Leaves.{Local}
use Rattle.ng_write.specs.Making.{value_in}
use Rattle.ng_core.specs.State.{State, Run, ◌>>=◌, with_objects, with_stopped, without_stop}
use Rattle.ng_core.specs.Keeping.{stores}

-- an event: its object, the list of its arguments, and its name
pub record Event : Type 0 where
  pub object : ℕ
  pub args : ViewTree
  pub name : List ℕ

abbrev pub object_value : ℕ → Value
object_value o = value.Obj (record { 0 = o })

-- the event's own object, behind the others
abbrev pub with_event : List Object → ℕ → List ℕ → List Object
with_event objects target name =
    set_name (set_name (set_name (set_name (objects ++ new_object kinds.Event None ∷ [])
    (length objects) (codes "name") (value.Text name))
    (length objects) (codes "targetScope") (object_value target))
    (length objects) (codes "currentScope") value.Null)
    (length objects) (codes "defaultPrevented") (value.Bool false)

-- the objects of an event, or StoreFull before either is made where the two would be more than 1,000,000
abbrev pub announced : ℕ → List ℕ → List ViewTree → State → Run Event
announced scope name args s =
    if nat_lt (length s.objects) 999999
    then (stores (list (views_from args)) (with_objects (with_event s.objects (object_at s.scopes scope) name) s) >>= λ v t. (t, Ok (record { object = length s.objects; args = v; name = name })))
    else (s, Err StoreFull)

-- the scope that the event has reached
abbrev pub shows_current : Event → Value → State → State
shows_current e v s = with_objects (set_name s.objects e.object (codes "currentScope") v) s

abbrev pub event_locals : Event → List Local
event_locals e = (codes "event", object_value e.object) ∷ (codes "args", value_in e.args) ∷ []

-- the event is over: no scope is current
abbrev pub ended : Event → State → State
ended e s = with_stopped (without_stop e.object s.stopped) (shows_current e value.Null s)

abbrev pub finished : Event → State → Run ViewTree
finished e s = (ended e s, Ok (prim (object_value e.object)))

-- No write takes an object away.
use Rattle.std.proofs.Common.{◌≡◌, ◌≤◌, ◌+◌, ◌-◌, ℕ, Bool, true, false, if◌then◌else◌, List, [], ◌∷◌, ◌++◌, length, take, drop, reverse, None, Result, Ok, Err, arith}
use Rattle.std.specs.Prelude.{codes, nat_lt}
use Rattle.ng_base.specs.Objects.{Object}
use Rattle.ng_base.specs.Views.{ViewTree}
use Rattle.ng_base.specs.declared.fault.Fault.{Fault}
use Rattle.ng_base.specs.declared.fault.Fault.TheVariants.{StoreFull}
use Rattle.ng_base.specs.declared.heap.ObjKind.TheVariants as kinds
use Rattle.ng_base.specs.declared.value.Value.{Value}
use Rattle.ng_base.specs.declared.value.Value.TheVariants as value
use Rattle.ng_language.specs.Objects.{update_at, with_items, with_property, set_name, set_items, items_at, new_object}
use Rattle.ng_store.proofs.Sound.{length-update_at}
use Rattle.ng_members.specs.Leaves.{Local}
use Rattle.ng_write.specs.Assigning.{name_assigned, member_assigned}
use Rattle.std.specs.List.{splice, slice_range}
use Rattle.ng_write.specs.Changing.{changed, cut_out, cut_from, cut_count}
use Rattle.ng_write.specs.Events.{event_called, set_by}
use Rattle.ng_write.specs.Making.{made_member, made_where, is_nothing, member_value}
use Rattle.ng_write.specs.Storing.{stored, with_object, array_with, plain_with}
use Rattle.ng_write.specs.Written.{Written, ◌>>◌}
use Rattle.ng_write.specs.declared.changing.Change.{Change}
use Rattle.ng_write.specs.declared.changing.Change.TheVariants as changes
use Rattle.ng_write.specs.declared.events.EventCall.{EventCall}
use Rattle.ng_write.proofs.Extending.{stored_extends, extends_object}
use Rattle.ng_write.proofs.More.{length-one_more}
use Rattle.ng_write.proofs.Only.{only_name, only_object}
use Rattle.ng_core.specs.Events.{with_event, object_value}

updated-grows : (objects : List Object) (o : ℕ) (f : Object → Object) → length objects ≤ length (update_at objects o f)
updated-grows objects o f = omega (arith, length-update_at objects o f)

pub named-grows : (objects : List Object) (o : ℕ) (name : List ℕ) (v : Value) → length objects ≤ length (set_name objects o name v)
named-grows objects o name v = updated-grows objects o (with_property name v)

items-grows : (objects : List Object) (o : ℕ) (items : List Value) → length objects ≤ length (set_items objects o items)
items-grows objects o items = updated-grows objects o (with_items items)

pub stored-grows : (objects : List Object) (t : ViewTree) → length objects ≤ length (stored objects t).0
stored-grows objects t = (stored_extends t objects).no_fewer

pub called-grows : (objects : List Object) (o : ℕ) (m : EventCall) → length objects ≤ length (event_called objects o m)
called-grows objects o m = named-grows objects o (set_by m) (value.Bool true)

pub assigned_name-grows : (objects : List Object) (scope : ℕ) (locals : List Local) (name : List ℕ) (v : Value) → length objects ≤ length (name_assigned objects scope locals name v).0
assigned_name-grows objects scope locals name v = omega (arith, (only_name objects scope locals name v).as_many)

pub assigned-grows : (objects : List Object) (w : Value) (name : List ℕ) (v : Value) → length objects ≤ length (member_assigned objects w name v).0
assigned-grows objects (value.Obj o) name v = omega (arith, (only_object objects o.0 name v).as_many)
assigned-grows objects value.Undefined name v = omega arith
assigned-grows objects value.Null name v = omega arith
assigned-grows objects value.Nan name v = omega arith
assigned-grows objects (value.Bool b) name v = omega arith
assigned-grows objects (value.Int n) name v = omega arith
assigned-grows objects (value.Text t) name v = omega arith
assigned-grows objects (value.Fun f) name v = omega arith

-- a write whose answer is another's
ended : (now : List Object) (r : Result (Unit {0}) Fault) (v : Value) → length now ≤ length ((let w : Written (Unit {0}) = (now, r) in w) >> λ u after. (let y : Written Value = (after, Ok v) in y)).0
ended now (Ok u) v = omega arith
ended now (Err e) v = omega arith

-- an empty object is made, and then assigned
pub made-grows : (objects : List Object) (w : Value) (name : List ℕ) → length objects ≤ length (made_member objects w name).0
made-grows objects w name = by (is_nothing (member_value objects w name))
  where
    assign : Value → List Object → Written (Unit {0})
    assign new now = member_assigned now w name new

    by : (b : Bool) → length objects ≤ length (made_where b (member_value objects w name) objects assign).0
    by true = made (with_object (plain_with []) objects).0 (with_object (plain_with []) objects).1 (extends_object (plain_with []) objects).no_fewer
      where
        made : (now : List Object) (r : Result Value Fault) → length objects ≤ length now → length objects ≤ length (let x : Written Value = (now, r) in x >> λ new on. assign new on >> λ u after. (after, Ok new)).0
        made now (Ok v) h =
            let k : length now ≤ length (assign v now).0 = assigned-grows now w name v in
            let m : length (assign v now).0 ≤ length (assign v now >> λ u after. (let y : Written Value = (after, Ok v) in y)).0 = ended (assign v now).0 (assign v now).1 v in
            omega arith
        made now (Err e) h = h
    by false = omega arith

cut-grows : (objects : List Object) (o from to : ℕ) (new : List Value) → length objects ≤ length (cut_out objects o from to new).0
cut-grows objects o from to new = by (nat_lt (length objects) 1000000)
  where
    changed_items : List Object
    changed_items = set_items objects o (splice (items_at objects o) from to new)

    cut : Object
    cut = array_with (slice_range (items_at objects o) from to)

    by : (b : Bool) → length objects ≤ length (let w : Written Value = if b then (changed_items ++ cut ∷ [], Ok (value.Obj (record { 0 = length objects }))) else (objects, Err StoreFull) in w.0)
    by true = omega (arith, length-one_more changed_items cut, items-grows objects o (splice (items_at objects o) from to new))
    by false = omega arith

pub changed-grows : (objects : List Object) (m : Change) (o : ℕ) (args : List Value) → length objects ≤ length (changed objects m o args).0
unfolding changed
changed-grows objects changes.Push o args = items-grows objects o (items_at objects o ++ args)
changed-grows objects changes.Pop o args = items-grows objects o (take (length (items_at objects o) - 1) (items_at objects o))
changed-grows objects changes.Shift o args = items-grows objects o (drop 1 (items_at objects o))
changed-grows objects changes.Unshift o args = items-grows objects o (args ++ items_at objects o)
changed-grows objects changes.Splice o args = cut-grows objects o (cut_from (length (items_at objects o)) args) (cut_from (length (items_at objects o)) args + cut_count (length (items_at objects o)) args) (drop 2 args)
changed-grows objects changes.Reverse o args = items-grows objects o (reverse (items_at objects o))

-- the event's own object stands behind the others
pub event-grows : (objects : List Object) (target : ℕ) (name : List ℕ) → length objects ≤ length (with_event objects target name)
event-grows objects target name =
    let x = new_object kinds.Event None in
    let a : List Object = objects ++ x ∷ [] in
    let b : List Object = set_name a (length objects) (codes "name") (value.Text name) in
    let c : List Object = set_name b (length objects) (codes "targetScope") (object_value target) in
    let d : List Object = set_name c (length objects) (codes "currentScope") value.Null in
    let p : length a ≤ length b = named-grows a (length objects) (codes "name") (value.Text name) in
    let q : length b ≤ length c = named-grows b (length objects) (codes "targetScope") (object_value target) in
    let r : length c ≤ length d = named-grows c (length objects) (codes "currentScope") value.Null in
    let s : length d ≤ length (with_event objects target name) = named-grows d (length objects) (codes "defaultPrevented") (value.Bool false) in
    let t : length a ≡ length objects + 1 = length-one_more objects x in
    omega (arith, p, q, r, s, t)

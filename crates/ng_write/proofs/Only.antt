-- An assignment changes one object.
use Rattle.std.proofs.Common.{◌≡◌, ◌++◌, ◌∷◌, [], ℕ, Bool, true, false, List, length, take, refl, pos, slice_set, if◌then◌else◌, nat_lt, nat_le, Option, Some, None, ◌==◌}
use Rattle.std.specs.Prelude.{Ok, Err}
use Rattle.ng_base.specs.Objects.{Object, object_at, index_of}
use Rattle.ng_base.specs.declared.heap.ObjKind.{ObjKind}
use Rattle.ng_base.specs.declared.heap.ObjKind.TheVariants as kinds
use Rattle.ng_base.specs.declared.fault.Fault.TheVariants.{NotAssignable, Range}
use Rattle.ng_base.specs.declared.value.Value.{Value}
use Rattle.ng_base.specs.declared.value.Value.TheVariants as value
use Rattle.ng_language.specs.Objects.{update_at, with_items, with_property, set_name, set_items, items_at}
use Rattle.ng_store.proofs.Kept.{other_object}
use Rattle.ng_store.proofs.Sound.{length-update_at}
use Rattle.ng_members.specs.Leaves.{Local}
use Rattle.ng_members.specs.Members.{is_length}
use Rattle.ng_write.specs.Written.{Written}
use Rattle.ng_write.specs.Reading.{OnlyAt}
use Rattle.ng_write.specs.Assigning.{is_kept_name, length_assigned, item_assigned, indexed, by_kind, object_assigned, is_local, locals_after, name_assigned}

only_self : (objects : List Object) (o : ℕ) → OnlyAt o objects objects
only_self objects o = record { as_many = refl; others = λ q h. refl }

only_updated : (objects : List Object) (o : ℕ) (f : Object → Object) → OnlyAt o objects (update_at objects o f)
only_updated objects o f = record { as_many = length-update_at objects o f; others = λ q h. other_object objects o q f h }

-- of two ways, each changes one object
only_either : (objects : List Object) (o : ℕ) (b : Bool) (w u : Written (Unit {0})) → OnlyAt o objects w.0 → OnlyAt o objects u.0 → OnlyAt o objects (let r : Written (Unit {0}) = if b then w else u in r.0)
only_either objects o true w u h k = h
only_either objects o false w u h k = k

only_length : (objects : List Object) (o : ℕ) (v : Value) → OnlyAt o objects (length_assigned objects o v).0
only_length objects o (value.Int (pos n)) =
    only_either objects o (nat_le n (length (items_at objects o))) (set_items objects o (take n (items_at objects o)), Ok tt) (objects, Err Range)
    (only_updated objects o (with_items (take n (items_at objects o)))) (only_self objects o)
only_length objects o v = only_self objects o

only_item : (objects : List Object) (o i : ℕ) (v : Value) → OnlyAt o objects (item_assigned objects o i v).0
only_item objects o i v =
    let rest : Written (Unit {0}) = if i == length (items_at objects o) then (set_items objects o (items_at objects o ++ v ∷ []), Ok tt) else (objects, Err Range) in
    only_either objects o (nat_lt i (length (items_at objects o))) (set_items objects o (slice_set (items_at objects o) i v), Ok tt) rest
    (only_updated objects o (with_items (slice_set (items_at objects o) i v)))
    (only_either objects o (i == length (items_at objects o)) (set_items objects o (items_at objects o ++ v ∷ []), Ok tt) (objects, Err Range)
    (only_updated objects o (with_items (items_at objects o ++ v ∷ []))) (only_self objects o))

only_indexed : (objects : List Object) (o : ℕ) (name : List ℕ) (i : Option ℕ) (v : Value) → OnlyAt o objects (indexed objects o name i v).0
only_indexed objects o name None v = only_self objects o
only_indexed objects o name (Some i) v = only_item objects o i v

only_kind : (k : ObjKind) (objects : List Object) (o : ℕ) (name : List ℕ) (v : Value) → OnlyAt o objects (by_kind k objects o name v).0
only_kind kinds.Plain objects o name v = only_updated objects o (with_property name v)
only_kind kinds.Event objects o name v = only_updated objects o (with_property name v)
only_kind kinds.Array objects o name v =
    only_either objects o (is_length name) (length_assigned objects o v) (indexed objects o name (index_of name) v)
    (only_length objects o v) (only_indexed objects o name (index_of name) v)
only_kind kinds.Scope objects o name v =
    only_either objects o (is_kept_name name) (objects, Err NotAssignable) (set_name objects o name v, Ok tt)
    (only_self objects o) (only_updated objects o (with_property name v))

pub only_object : (objects : List Object) (o : ℕ) (name : List ℕ) (v : Value) → OnlyAt o objects (object_assigned objects o name v).0
unfolding object_assigned
only_object objects o name v = only_kind (object_at objects o).kind objects o name v

pub only_name : (objects : List Object) (scope : ℕ) (locals : List Local) (name : List ℕ) (v : Value) → OnlyAt scope objects (name_assigned objects scope locals name v).0
unfolding name_assigned
only_name objects scope locals name v =
    only_either objects scope (is_local locals name) (objects, Ok tt) (object_assigned objects scope name v) (only_self objects scope) (only_object objects scope name v)

chosen_local : (b : Bool) (w u : Written (Unit {0})) → b ≡ true → (let r : Written (Unit {0}) = if b then w else u in r) ≡ w
chosen_local true w u e = refl
chosen_local false w u e = absurd (cc)

-- a local of the name: no object is touched
pub local_alone : (objects : List Object) (scope : ℕ) (locals : List Local) (name : List ℕ) (v : Value) → is_local locals name ≡ true → name_assigned objects scope locals name v ≡ (objects, Ok tt)
unfolding name_assigned
local_alone objects scope locals name v e = chosen_local (is_local locals name) (objects, Ok tt) (object_assigned objects scope name v) e

-- no local of the name: the locals are as they were
pub locals_alone : (locals : List Local) (name : List ℕ) (v : Value) → is_local locals name ≡ false → locals_after locals name v ≡ locals
locals_alone locals name v e = rw e refl

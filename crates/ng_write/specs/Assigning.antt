-- Assignment to names, members and items (guide: Expressions, "Context").
use Rattle.std.specs.Prelude.{ℕ, suc, pos, Bool, true, false, List, [], ◌∷◌, ◌++◌, length, take, codes, Option, None, Some, is_some, Ok, Err, slice_set, nat_lt, nat_le, ◌==◌, ◌||◌, if◌then◌else◌}
use Rattle.std.specs.List.{list_all}
use Rattle.std.specs.Str.{bytes_eq}
use Rattle.std.specs.Map.{lookup}
use Rattle.indexmap.specs.IndexMap.{insert_entry}
use Rattle.ng_base.specs.Codes.{digit_zero}
use Rattle.std.specs.Char.{is_ascii_digit}
use Rattle.ng_base.specs.Objects.{Object, object_at, index_of}
use Rattle.ng_base.specs.declared.heap.ObjKind.{ObjKind}
use Rattle.ng_base.specs.declared.heap.ObjKind.TheVariants as kinds
use Rattle.ng_base.specs.declared.value.Value.{Value}
use Rattle.ng_base.specs.declared.value.Value.TheVariants as value
use Rattle.ng_base.specs.declared.fault.Fault.{Fault}
use Rattle.ng_base.specs.declared.fault.Fault.TheVariants.{NotAssignable, Range}
use Rattle.ng_language.specs.Objects.{set_name, set_items, items_at}
use Rattle.ng_members.specs.Leaves.{Local}
use Rattle.ng_members.specs.Members.{is_length}
use Rattle.ng_write.specs.Written.{Written}

-- a scope's number, its parent and the root are read and not written
abbrev pub is_kept_name : List ℕ → Bool
is_kept_name name = bytes_eq name (codes "$id") || bytes_eq name (codes "$parent") || bytes_eq name (codes "$root")

-- a name of a scope
abbrev pub scope_assigned : List Object → ℕ → List ℕ → Value → Written (Unit {0})
scope_assigned objects o name v = if is_kept_name name then (objects, Err NotAssignable) else (set_name objects o name v, Ok tt)

-- the length of an array: a whole number from 0 to the length cuts
abbrev pub length_assigned : List Object → ℕ → Value → Written (Unit {0})
length_assigned objects o (value.Int (pos n)) =
    if nat_le n (length (items_at objects o)) then (set_items objects o (take n (items_at objects o)), Ok tt) else (objects, Err Range)
length_assigned objects o v = (objects, Err Range)

-- an item of an array: one that is there is replaced, and the next one is added
abbrev pub item_assigned : List Object → ℕ → ℕ → Value → Written (Unit {0})
item_assigned objects o i v =
    if nat_lt i (length (items_at objects o)) then (set_items objects o (slice_set (items_at objects o) i v), Ok tt)
    else (if i == length (items_at objects o) then (set_items objects o (items_at objects o ++ v ∷ []), Ok tt)
    else (objects, Err Range))

abbrev pub is_only_zero : List ℕ → Bool
is_only_zero [] = true
is_only_zero (c ∷ cs) = false

-- digits without a leading zero, as many as there may be
abbrev pub is_whole_name : List ℕ → Bool
is_whole_name [] = false
is_whole_name (c ∷ cs) = if c == digit_zero then is_only_zero cs else list_all is_ascii_digit (c ∷ cs)

-- a name of an array that is no index: a whole number is above each length, and no other name is assigned to
abbrev pub beyond : List ℕ → Fault
beyond name = if is_whole_name name then Range else NotAssignable

abbrev pub indexed : List Object → ℕ → List ℕ → Option ℕ → Value → Written (Unit {0})
indexed objects o name (Some i) v = item_assigned objects o i v
indexed objects o name None v = (objects, Err (beyond name))

-- a name of an array: its length or an index
abbrev pub array_assigned : List Object → ℕ → List ℕ → Value → Written (Unit {0})
array_assigned objects o name v = if is_length name then length_assigned objects o v else indexed objects o name (index_of name) v

abbrev pub by_kind : ObjKind → List Object → ℕ → List ℕ → Value → Written (Unit {0})
by_kind kinds.Plain objects o name v = (set_name objects o name v, Ok tt)
by_kind kinds.Array objects o name v = array_assigned objects o name v
by_kind kinds.Scope objects o name v = scope_assigned objects o name v
by_kind kinds.Event objects o name v = (set_name objects o name v, Ok tt)

-- a name of an object
unfoldable pub object_assigned : List Object → ℕ → List ℕ → Value → Written (Unit {0})
object_assigned objects o name v = by_kind (object_at objects o).kind objects o name v

-- `a.b = v`: what is no object has no member that is assigned to
abbrev pub member_assigned : List Object → Value → List ℕ → Value → Written (Unit {0})
member_assigned objects (value.Obj o) name v = object_assigned objects o.0 name v
member_assigned objects w name v = (objects, Err NotAssignable)

abbrev pub is_local : List Local → List ℕ → Bool
is_local locals name = is_some (lookup (bytes_eq name) locals)

-- the place of the first local of a name, where the list starts at a place
abbrev pub place_among : List ℕ → ℕ → List Local → Option ℕ
place_among name i [] = None
place_among name i (l ∷ ls) = if bytes_eq name l.0 then Some i else place_among name (suc i) ls

-- the locals after a bare name is assigned to: one of this name gets the value
abbrev pub locals_after : List Local → List ℕ → Value → List Local
locals_after locals name v = if is_local locals name then insert_entry bytes_eq locals name v else locals

-- `a = v`: a local, else a name of the scope's own object
unfoldable pub name_assigned : List Object → ℕ → List Local → List ℕ → Value → Written (Unit {0})
name_assigned objects scope locals name v = if is_local locals name then (objects, Ok tt) else object_assigned objects scope name v

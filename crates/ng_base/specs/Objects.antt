-- The objects of a page: a list, in which each object has its kind, its prototype, and items or named values.
use Rattle.std.specs.Prelude.{ℕ, ◌<◌, ◌+◌, ◌-◌, ◌*◌, ◌&&◌, ◌==◌, Bool, true, false, List, [], ◌∷◌, ◌++◌, length, map, Option, None, Some, is_some, slice_get, slice_index_or, option_and_then, nat_lt, if◌then◌else◌, bytes_eq, decimal}
use Rattle.std.specs.Char.{is_ascii_digit}
use Rattle.std.specs.List.{range_with_len}
use Rattle.std.specs.Map.{lookup}
use Rattle.std.specs.BTreeSet.{insert_key}
use Rattle.std.specs.Ordering.{nat_cmp}
use Rattle.ng_base.specs.Codes.{digit_zero}
use Rattle.ng_base.specs.declared.value.Value.{Value}
use Rattle.ng_base.specs.declared.value.Value.TheVariants as value
use Rattle.ng_base.specs.declared.heap.ObjKind.{ObjKind}
use Rattle.ng_base.specs.declared.heap.ObjKind.TheVariants as kinds

-- An array has items, and every other object has named values in order of insertion.
pub record Object : Type 0 where
  pub kind : ObjKind
  pub proto : Option ℕ
  pub items : List Value
  pub properties : List (List ℕ × Value)

abbrev pub no_object : Object
no_object = record { kind = kinds.Plain; proto = None; items = []; properties = [] }

-- the object of a name
abbrev pub object_at : List Object → ℕ → Object
object_at objects o = slice_index_or objects o no_object

abbrev pub is_array : ObjKind → Bool
is_array kinds.Array = true
is_array kinds.Plain = false
is_array kinds.Scope = false
is_array kinds.Event = false

-- an object that a value names is one of so many
abbrev pub StandsAmong : ℕ → Value → Type 0
StandsAmong count (value.Obj o) = o.0 < count
StandsAmong count v = Unit {0}

-- the number that digits spell behind those that were read, below 2^32 - 1
abbrev pub spelled : ℕ → List ℕ → Option ℕ
spelled n [] = Some n
spelled n (c ∷ cs) = if is_ascii_digit c && nat_lt (10 * n + (c - digit_zero)) 4294967295 then spelled (10 * n + (c - digit_zero)) cs else None

abbrev pub only_zero : List ℕ → Option ℕ
only_zero [] = Some 0
only_zero (c ∷ cs) = None

-- the array index that a name spells: digits without a leading zero
abbrev pub index_of : List ℕ → Option ℕ
index_of [] = None
index_of (c ∷ cs) = if c == digit_zero then only_zero cs else spelled 0 (c ∷ cs)

-- the value that an object itself has under a name
abbrev pub own_of : Object → List ℕ → Option Value
own_of x name = if is_array x.kind then option_and_then (λ i. slice_get x.items i) (index_of name) else lookup (bytes_eq name) x.properties

abbrev pub own : List Object → ℕ → List ℕ → Option Value
own objects o name = own_of (object_at objects o) name

abbrev pub with_index : List ℕ → Option ℕ → List ℕ
with_index indices None = indices
with_index indices (Some i) = insert_key nat_cmp indices i

-- the indices among the names, ascending, behind those that were found
abbrev pub indices_from : List ℕ → List (List ℕ × Value) → List ℕ
indices_from indices [] = indices
indices_from indices (p ∷ ps) = indices_from (with_index indices (index_of p.0)) ps

-- the names that are no indices, in order of insertion
abbrev pub other_names : List (List ℕ × Value) → List (List ℕ)
other_names [] = []
other_names (p ∷ ps) = if is_some (index_of p.0) then other_names ps else p.0 ∷ other_names ps

-- an object's names in the order of keys: indices first, ascending, and of an array nothing else
abbrev pub names_of : Object → List (List ℕ)
names_of x =
    if is_array x.kind then map decimal (range_with_len 0 (length x.items))
    else map decimal (indices_from [] x.properties) ++ other_names x.properties

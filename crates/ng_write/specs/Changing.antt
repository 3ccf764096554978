-- The methods of arrays that change them, as in JavaScript.
use Rattle.std.specs.Prelude.{ℕ, ℤ, pos, negsuc, ◌+◌, ◌-◌, min, List, [], ◌∷◌, ◌++◌, length, take, drop, reverse, slice_range, codes, Option, None, Some, Ok, Err, nat_lt, if◌then◌else◌}
use Rattle.std.specs.List.{splice}
use Rattle.std.specs.Str.{bytes_eq}
use Rattle.ng_base.specs.Objects.{Object}
use Rattle.ng_base.specs.declared.value.Value.{Value}
use Rattle.ng_base.specs.declared.value.Value.TheVariants as value
use Rattle.ng_base.specs.declared.fault.Fault.TheVariants.{StoreFull}
use Rattle.ng_language.specs.Objects.{set_items, items_at, first_item, last_item}
use Rattle.ng_language.specs.Operators.{num}
use Rattle.ng_members.specs.Methods.{from_end}
use Rattle.ng_write.specs.declared.changing.Change.{Change}
use Rattle.ng_write.specs.declared.changing.Change.TheVariants as changes
use Rattle.ng_write.specs.Storing.{array_with}
use Rattle.ng_write.specs.Written.{Written}

-- the method of a name that changes an array
abbrev pub change_named : List ℕ → Option Change
change_named name =
    if bytes_eq name (codes "push") then Some changes.Push
    else (if bytes_eq name (codes "pop") then Some changes.Pop
    else (if bytes_eq name (codes "shift") then Some changes.Shift
    else (if bytes_eq name (codes "unshift") then Some changes.Unshift
    else (if bytes_eq name (codes "splice") then Some changes.Splice
    else (if bytes_eq name (codes "reverse") then Some changes.Reverse
    else None)))))

abbrev pub number : ℕ → Value
number n = value.Int (pos n)

-- values behind the items; the new length
abbrev pub pushed : List Object → ℕ → List Value → Written Value
pushed objects o args = (set_items objects o (items_at objects o ++ args), Ok (number (length (items_at objects o) + length args)))

-- values before the items; the new length
abbrev pub unshifted : List Object → ℕ → List Value → Written Value
unshifted objects o args = (set_items objects o (args ++ items_at objects o), Ok (number (length (items_at objects o) + length args)))

-- without the last item, which is the value
abbrev pub popped : List Object → ℕ → Written Value
popped objects o = (set_items objects o (take (length (items_at objects o) - 1) (items_at objects o)), Ok (last_item (items_at objects o)))

-- without the first item, which is the value
abbrev pub shifted : List Object → ℕ → Written Value
shifted objects o = (set_items objects o (drop 1 (items_at objects o)), Ok (first_item (items_at objects o)))

-- the items from the last to the first; the array itself
abbrev pub reversed : List Object → ℕ → Written Value
reversed objects o = (set_items objects o (reverse (items_at objects o)), Ok (value.Obj (record { 0 = o })))

-- as many as asked for, and not more than there are; what is below 0 or no number counts as 0
abbrev pub up_to : ℕ → Option ℤ → ℕ
up_to most None = 0
up_to most (Some (pos k)) = min k most
up_to most (Some (negsuc k)) = 0

-- the first place that `splice` takes out: a number below 0 counts from the end, what is no number is 0
abbrev pub cut_from : ℕ → List Value → ℕ
cut_from n [] = 0
cut_from n (from ∷ args) = from_end n (num from)

-- how many items `splice` takes out: none where no argument is given, all from the place on where no count is given
abbrev pub cut_count : ℕ → List Value → ℕ
cut_count n [] = 0
cut_count n (from ∷ []) = n - from_end n (num from)
cut_count n (from ∷ count ∷ args) = up_to (n - from_end n (num from)) (num count)

-- a range of the items is replaced by values, and becomes a new array, or StoreFull where 1,000,000 objects stand
abbrev pub cut_out : List Object → ℕ → ℕ → ℕ → List Value → Written Value
cut_out objects o from to new =
    if nat_lt (length objects) 1000000
    then (
      set_items objects o (splice (items_at objects o) from to new) ++ array_with (slice_range (items_at objects o) from to) ∷ [],
      Ok (value.Obj (record { 0 = length objects })),
    )
    else (objects, Err StoreFull)

-- `splice`: the arguments behind the count stand where the range stood
abbrev pub spliced : List Object → ℕ → List Value → Written Value
spliced objects o args =
    cut_out objects o (cut_from (length (items_at objects o)) args)
    (cut_from (length (items_at objects o)) args + cut_count (length (items_at objects o)) args) (drop 2 args)

-- what a method leaves and gives
unfoldable pub changed : List Object → Change → ℕ → List Value → Written Value
changed objects changes.Push o args = pushed objects o args
changed objects changes.Pop o args = popped objects o
changed objects changes.Shift o args = shifted objects o
changed objects changes.Unshift o args = unshifted objects o args
changed objects changes.Splice o args = spliced objects o args
changed objects changes.Reverse o args = reversed objects o

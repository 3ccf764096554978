-- Rows of a repeat that are kept and stand in the order of their entries already, each for its own.
use Rattle.std.specs.Prelude.{ℕ, ◌+◌, ◌≡◌, ◌⊎◌, Bool, true, false, nat_lt, List, [], ◌∷◌, Option, None, Some, slice_get, if◌then◌else◌}
use Rattle.std.specs.Option.{option_map_or}
use Rattle.ng_drawing.specs.Roles.{Entry, Role, a_body, a_row, a_named, same_entry}
use Rattle.ng_rows.specs.RepeatRows.{Row}
use Rattle.ng_instances.specs.Instances.{Body}

-- whether a role is that of the row of an entry, under whatever key
abbrev pub is_for : Entry → Role → Bool
is_for e a_body = false
is_for e (a_row k f) = same_entry e f
is_for e (a_named w) = false

abbrev pub stands_for : Entry → Option Body → Bool
stands_for e None = false
stands_for e (Some b) = is_for e b.role

-- what the place that the next row comes from is at least, where the row of an entry stays as it is
abbrev pub place_after : List Body → ℕ → Entry → Option ℕ → Option ℕ
place_after bs n e None = Some n
place_after bs n e (Some i) = if nat_lt i n then None else if stands_for e (slice_get bs i) then Some (i + 1) else None

-- the places that rows come from rise, from this on, and each row that is kept stays as it is
abbrev pub in_order : List Body → ℕ → List Row → List (Option ℕ) → Bool
in_order bs n [] ps = true
in_order bs n (r ∷ rs) [] = false
in_order bs n (r ∷ rs) (p ∷ ps) = option_map_or (λ m. in_order bs m rs ps) (place_after bs n r.item.entry p) false

-- some items of a list, in their order
abbrev pub IsPart : {X : Type 0} → List X → List X → Type 0
IsPart xs [] = xs ≡ []
IsPart {X} xs (y ∷ ys) = IsPart xs ys ⊎ ((zs : List X) × (xs ≡ y ∷ zs) × IsPart zs ys)

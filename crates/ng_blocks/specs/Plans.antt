-- Which rows a repeat keeps, by their track keys.
use Rattle.std.specs.Prelude.{ℕ, Bool, true, false, not, ◌||◌, List, [], ◌∷◌, Option, map, position, Result, Ok, Err, if◌then◌else◌}
use Rattle.std.specs.List.{list_any}
use Rattle.ng_blocks.specs.Places.{places}
use Rattle.ng_blocks.specs.SameKeys.{same_key}
use Rattle.ng_blocks.specs.declared.keys.TrackKey.{TrackKey}
use Rattle.ng_blocks.specs.declared.plans.Plan.{Plan}
use Rattle.ng_blocks.specs.declared.plans.PlanFault.{PlanFault}
use Rattle.ng_blocks.specs.declared.plans.PlanFault.TheVariants.{Dupes, Memory}

-- the key is one of these
abbrev pub is_among : List TrackKey → TrackKey → Bool
is_among keys k = list_any (same_key k) keys

-- two of these keys are the same
abbrev pub has_double : List TrackKey → Bool
has_double [] = false
has_double (k ∷ ks) = is_among ks k || has_double ks

-- the places of the old rows whose key is nowhere among the new ones
abbrev pub gone_places : List TrackKey → List TrackKey → List ℕ
gone_places old new = places (λ k. not (is_among new k)) old

-- the place of the old row of this key
abbrev pub row_of : List TrackKey → TrackKey → Option ℕ
row_of old k = position (same_key k) old

-- rows whose key is gone go, and each entry comes from the old row of its key
abbrev pub planned : List TrackKey → List TrackKey → Result Plan PlanFault
planned old new =
    if has_double new then Err Dupes
    else Ok (record { gone = gone_places old new; from = map (row_of old) new })

abbrev pub is_free : PlanFault → Bool
is_free (Memory m) = true
is_free Dupes = false

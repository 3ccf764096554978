-- Places one after another, and what a plan of rows may be known to be.
use Rattle.std.specs.Prelude.{ℕ, zero, suc, ◌+◌, ◌≡◌, Bool, true, false, nat_lt, List, [], ◌∷◌, Option, None, Some, Ok, if◌then◌else◌}
use Rattle.std.specs.Option.{option_map_or}
use Rattle.ng_base.specs.Objects.{index_of}
use Rattle.ng_blocks.specs.Plans.{has_double, planned}
use Rattle.ng_blocks.specs.declared.keys.TrackKey.{TrackKey}
use Rattle.ng_blocks.specs.declared.keys.TrackKey.TheVariants as keys
use Rattle.ng_blocks.specs.declared.plans.Plan.{Plan}

-- so many places, of which the first is this
abbrev pub places_on : ℕ → ℕ → List ℕ
places_on i zero = []
places_on i (suc n) = i ∷ places_on (i + 1) n

-- entries that come from the rows there
abbrev pub sources_on : ℕ → ℕ → List (Option ℕ)
sources_on i zero = []
sources_on i (suc n) = Some i ∷ sources_on (i + 1) n

-- so many entries that come from no row
abbrev pub no_sources : ℕ → List (Option ℕ)
no_sources zero = []
no_sources (suc n) = None ∷ no_sources n

-- the number that the text of a key spells, or the place that it is
abbrev pub number_of : TrackKey → Option ℕ
number_of (keys.Prim v) = None
number_of (keys.Place i) = Some i
number_of (keys.Text t) = index_of t

-- what a number that comes next is at least
abbrev pub next_after : ℕ → Option ℕ → Option ℕ
next_after n None = None
next_after n (Some m) = if nat_lt m n then None else Some (m + 1)

-- the numbers of keys rise, from this on
abbrev pub rise_from : ℕ → List TrackKey → Bool
rise_from n [] = true
rise_from n (k ∷ ks) = option_map_or (λ m. rise_from m ks) (next_after n (number_of k)) false

-- no two rows that stand have one key, and this is planned
abbrev pub IsPlan : List TrackKey → List TrackKey → Plan → Type 0
IsPlan old new p = (has_double old ≡ false) × (planned old new ≡ Ok p)

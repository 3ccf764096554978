-- What the fire of a binding's site writes (guide: Directives, "Isolating the Scope of a Directive"; API: `$compile`, `scope`). It is noted with the
-- instance, by the site's number of registration.
use Rattle.std.specs.Prelude.{ℕ, ◌<◌, ◌&&◌, Bool, not, is_some, length, slice_index_or, List, Option}
use Rattle.std.specs.BTreeMap.{is_at}
use Rattle.std.specs.List.{AllByRecursion}
use Rattle.std.specs.Map.{lookup}
use Rattle.std.specs.Ordering.{nat_cmp}
use Rattle.ng_language.specs.Trees.{Trees}
use Rattle.ng_drawing.specs.Numbering.{is_within}

-- a piece of the text of a binding: plain words, or the hole of a site, by its number of registration
pub data BoundPiece : Type 0 where
  bound_word : List ℕ → BoundPiece
  bound_hole : ℕ → BoundPiece

-- The text of pieces, or the value, goes under a name of an isolate scope; or it goes the one way or the other between such a name and a scope, to which
-- a program writes, where that is possible.
pub data Bound : Type 0 where
  bound_text : (scope : ℕ) → (name : List ℕ) → List BoundPiece → Bound
  bound_in : (scope : ℕ) → (name : List ℕ) → Bound
  bound_both : (scope : ℕ) → (name : List ℕ) → (over : ℕ) → Option Trees → Bound

abbrev pub Bounds : Type 0
Bounds = List (ℕ × Bound)

abbrev pub bound_in_table : ℕ → Bounds → Option Bound
bound_in_table serial t = lookup (is_at (nat_cmp serial)) t

-- whether a number is that of a site of which there is no such note
abbrev pub is_unbound : List ℕ → Bounds → ℕ → Bool
is_unbound serials t n = is_within 0 (length serials) n && not (is_some (bound_in_table (slice_index_or serials n 0) t))

-- the scopes that a site writes to are among so many
abbrev pub BoundStands : ℕ → Bound → Type 0
BoundStands count (bound_text s n ps) = s < count
BoundStands count (bound_in s n) = s < count
BoundStands count (bound_both s n o w) = (s < count) × (o < count)

abbrev pub AllStand : ℕ → Bounds → Type 0
AllStand count t = AllByRecursion (λ (e : ℕ × Bound). BoundStands count e.1) t

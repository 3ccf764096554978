-- What the rows of a repeat in the code stand for.
use Rattle.std.specs.Prelude.{ℕ, ◌≡◌, List, Option, map, option_map}
use Rattle.std.specs.Borrow.{Bor}
use Rattle.std.specs.List.{AllByRecursion}
use Rattle.ng_base.specs.Objects.{StandsAmong}
use Rattle.ng_parts.specs.RepeatedOf.{repeated_of}
use Rattle.ng_rows.specs.RepeatRows.{Row, row_words}
use Rattle.ng_rows.specs.TrackingOf.{item_of}
use Rattle.ng_rows.specs.declared.rows.RowNames.{RowNames}
use Rattle.ng_rows.specs.declared.rows.Row as code
use Rattle.ng_instances.specs.declared.instances.Body as code_body

abbrev pub path_of : Option (Bor code_body.Body) → Option (List ℕ)
path_of b = option_map (λ (x : Bor code_body.Body). x.now.path) b

abbrev pub row_of : code.Row → Row
row_of r = record { item = item_of r.item.now; key = r.key.now; from = path_of r.from }

abbrev pub rows_of : List code.Row → List Row
rows_of rs = map row_of rs

-- the names that a row's scope is told, in the order in which it is told them
abbrev pub AreNames : RowNames → Type 0
AreNames n = n.all.items ≡ row_words (repeated_of n.repeated.now)

-- the values of rows name objects among so many
abbrev pub RowsOfStand : ℕ → List Row → Type 0
RowsOfStand count rs = AllByRecursion (λ (r : Row). StandsAmong count r.item.value) rs

-- The filters, as evaluation sees them: closed, since it asks nothing of how a filter works.
use Rattle.std.specs.Prelude.{ℕ, Bool, List, Result}
use Rattle.ng_base.specs.Objects.{Object}
use Rattle.ng_base.specs.Views.{ViewTree, ViewTrees}
use Rattle.ng_base.specs.declared.fault.Fault.{Fault}
use Rattle.ng_filters.specs.Known as table
use Rattle.ng_filters.specs.Applied as filtering

-- the filter is in the table and takes so many arguments
unfoldable pub known : List ℕ → ℕ → Bool
known name n = table.known name n

-- what a filter makes of an input with its arguments
unfoldable pub applied : List Object → List ℕ → ViewTree → ViewTrees → Result ViewTree Fault
applied objects name t ts = filtering.applied objects name t ts

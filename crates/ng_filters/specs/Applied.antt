-- What a filter makes of its input (guide: Filters).
use Rattle.std.specs.Prelude.{ℕ, zero, suc, List, Option, Some, None, Result, Ok}
use Rattle.ng_base.specs.Objects.{Object}
use Rattle.ng_base.specs.Views.{ViewTree, ViewTrees, no_views, view_then}
use Rattle.ng_base.specs.declared.fault.Fault.{Fault}
use Rattle.ng_filters.specs.declared.table.Filter.{Filter}
use Rattle.ng_filters.specs.declared.table.Filter.TheVariants as filters
use Rattle.ng_filters.specs.Known.{named}
use Rattle.ng_filters.specs.Parts.{undefined}
use Rattle.ng_filters.specs.Casing.{uppercase, lowercase}
use Rattle.ng_filters.specs.Numbers.{number, json}
use Rattle.ng_filters.specs.Limits.{limited}
use Rattle.ng_filters.specs.Matching.{filtered}
use Rattle.ng_filters.specs.Ordering.{ordered}

-- an argument that is missing is undefined
abbrev pub first_of : ViewTrees → ViewTree
first_of no_views = undefined
first_of (view_then t ts) = t

abbrev pub second_of : ViewTrees → ViewTree
second_of no_views = undefined
second_of (view_then t ts) = first_of ts

abbrev pub applied_by : Filter → List Object → ViewTree → ViewTrees → Result ViewTree Fault
applied_by filters.Uppercase objects input args = Ok (uppercase input)
applied_by filters.Lowercase objects input args = Ok (lowercase input)
applied_by filters.Number objects input args = Ok (number input (first_of args))
applied_by filters.Json objects input args = json objects input (first_of args)
applied_by filters.LimitTo objects input args = Ok (limited objects input (first_of args) (second_of args))
applied_by filters.Matching objects input args = filtered objects input (first_of args)
applied_by filters.OrderBy objects input args = ordered objects input (first_of args) (second_of args)

-- a filter that is in no table leaves its input as it is
abbrev pub applied_if : Option Filter → List Object → ViewTree → ViewTrees → Result ViewTree Fault
applied_if None objects input args = Ok input
applied_if (Some f) objects input args = applied_by f objects input args

-- the filter of a name, applied to an input with its arguments
abbrev pub applied : List Object → List ℕ → ViewTree → ViewTrees → Result ViewTree Fault
applied objects name input args = applied_if (named name) objects input args

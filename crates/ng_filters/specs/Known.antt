-- The table of filters (API: filters).
use Rattle.std.specs.Prelude.{ℕ, Bool, false, List, Option, Some, None, codes, nat_le, ◌==◌, ◌&&◌, if◌then◌else◌}
use Rattle.std.specs.Str.{bytes_eq}
use Rattle.ng_filters.specs.declared.table.Filter.{Filter}
use Rattle.ng_filters.specs.declared.table.Filter.TheVariants as filters

-- the filter of a name
abbrev pub named : List ℕ → Option Filter
named name =
    if bytes_eq name (codes "uppercase") then Some filters.Uppercase
    else (if bytes_eq name (codes "lowercase") then Some filters.Lowercase
    else (if bytes_eq name (codes "number") then Some filters.Number
    else (if bytes_eq name (codes "json") then Some filters.Json
    else (if bytes_eq name (codes "limitTo") then Some filters.LimitTo
    else (if bytes_eq name (codes "filter") then Some filters.Matching
    else (if bytes_eq name (codes "orderBy") then Some filters.OrderBy
    else None))))))

-- whether a filter takes so many arguments
abbrev pub takes : Filter → ℕ → Bool
takes filters.Uppercase args = args == 0
takes filters.Lowercase args = args == 0
takes filters.Number args = nat_le args 1
takes filters.Json args = nat_le args 1
takes filters.LimitTo args = nat_le 1 args && nat_le args 2
takes filters.Matching args = args == 1
takes filters.OrderBy args = nat_le args 2

abbrev pub taken_by : Option Filter → ℕ → Bool
taken_by None args = false
taken_by (Some f) args = takes f args

-- the filter is in the table and takes so many arguments
abbrev pub known : List ℕ → ℕ → Bool
known name args = taken_by (named name) args

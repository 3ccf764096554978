-- Words that the laws of filters use.
use Rattle.std.specs.Prelude.{Bool, true, false, List, Result, Ok, Err}
use Rattle.ng_base.specs.Objects.{Object}
use Rattle.ng_base.specs.Views.{ViewTree}
use Rattle.ng_base.specs.declared.fault.Fault.{Fault}
use Rattle.ng_filters.specs.Matching.{item_matches}

abbrev pub is_found : Result Bool Fault → Bool
is_found (Ok found) = found
is_found (Err e) = false

-- whether an item matches a pattern
abbrev pub stays : List Object → ViewTree → ViewTree → Bool
stays objects p t = is_found (item_matches objects p t)

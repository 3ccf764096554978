use Rattle.std.proofs.Common.{◌≡◌, drop}
use Rattle.std.specs.List.{list_all}
use Rattle.ng_filters.specs.Ordering.{is_name}
use Rattle.ng_filters.proofs.predicates.all_names.Given as goal

abbrev pub invariant-loop-part : goal.invariant-loop-part
invariant-loop-part l = list_all is_name (drop l.part-index l.part-items) ≡ list_all is_name l.parts

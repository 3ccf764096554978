use Rattle.std.proofs.Common.{◌≡◌, [], map}
use Rattle.ng_base.specs.ViewOf.{field_of}
use Rattle.ng_language.specs.Unfolding.{sorted_from}
use Rattle.ng_value.proofs.ordering.sorted.Given as goal

abbrev pub invariant-loop-name : goal.invariant-loop-name
invariant-loop-name l = map field_of l.done.entries ≡ sorted_from [] (map field_of l.yielded)

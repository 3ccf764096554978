use Rattle.std.proofs.Common.{◌≡◌, ◌++◌, map, drop}
use Rattle.ng_parts.specs.AttributeOf.{hiding_of}
use Rattle.ng_copies.proofs.including.copied_hidings.Given as goal

abbrev pub invariant-loop-hiding : goal.invariant-loop-hiding
invariant-loop-hiding l = map hiding_of l.copies.items ++ map hiding_of (drop l.hiding-index l.hidings) ≡ map hiding_of l.hidings

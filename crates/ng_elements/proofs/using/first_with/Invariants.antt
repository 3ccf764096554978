use Rattle.std.proofs.Common.{◌≡◌, drop}
use Rattle.ng_elements.specs.ReadOf.{wish_of}
use Rattle.ng_elements.specs.Using.{first_with}
use Rattle.ng_elements.proofs.using.first_with.Given as goal

abbrev pub invariant-loop-n : goal.invariant-loop-n
invariant-loop-n l = first_with l.defs (wish_of l.wish) (drop l.n-index l.numbers) ≡ first_with l.defs (wish_of l.wish) l.numbers

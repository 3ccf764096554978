use Rattle.std.proofs.Common.{IsSome}
use Rattle.ng_chain.specs.Walked.{walk_at}
use Rattle.ng_tests.proofs.chains.a_walk_has_the_value_that_stands_under_it.Given as goal

abbrev pub invariant-loop-v : goal.invariant-loop-v
invariant-loop-v g l = Unit {0}

abbrev pub invariant-loop-does : goal.invariant-loop-does
invariant-loop-does g l = IsSome (walk_at l.chain.walks l.w.slot)

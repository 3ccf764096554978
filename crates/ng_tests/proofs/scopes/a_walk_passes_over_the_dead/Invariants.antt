use Rattle.std.proofs.Common.{length}
use Rattle.ng_behaviour.specs.ScopeObjects.{AreAmong}
use Rattle.ng_tests.proofs.scopes.a_walk_passes_over_the_dead.Given as goal

abbrev pub invariant-loop-makes : goal.invariant-loop-makes
invariant-loop-makes g l = AreAmong (length l.store) l.scopes

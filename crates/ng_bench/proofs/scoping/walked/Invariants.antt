use Rattle.std.proofs.Common.{length}
use Rattle.ng_behaviour.specs.ScopeObjects.{AreAmong}
use Rattle.ng_bench.proofs.scoping.walked.Given as goal

abbrev pub invariant-loop : goal.invariant-loop
invariant-loop l = AreAmong (length l.store) l.scopes

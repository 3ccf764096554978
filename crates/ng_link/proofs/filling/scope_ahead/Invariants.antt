use Rattle.ng_link.specs.Walking.{AreOf, Table}
use Rattle.ng_link.proofs.filling.scope_ahead.Given as goal

abbrev pub invariant-loop-i : goal.invariant-loop-i
invariant-loop-i l = (is : Table) → AreOf is l.initial.ahead → AreOf is l.ahead

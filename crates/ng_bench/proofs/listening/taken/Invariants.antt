use Rattle.ng_events.specs.Apart.{StayOpen}
use Rattle.ng_bench.proofs.listening.taken.Given as goal

abbrev pub invariant-loop-i : goal.invariant-loop-i
invariant-loop-i l = StayOpen l.initial.listeners l.listeners

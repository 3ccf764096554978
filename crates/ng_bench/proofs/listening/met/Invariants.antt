use Rattle.ng_events.specs.Stands.{IsOpen}
use Rattle.ng_bench.proofs.listening.met.Given as goal

abbrev pub invariant-loop : goal.invariant-loop
invariant-loop l = IsOpen l.listeners l.w

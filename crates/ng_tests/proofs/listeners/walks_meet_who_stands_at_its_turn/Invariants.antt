use Rattle.ng_events.specs.Apart.{AreApart}
use Rattle.ng_events.specs.Stands.{IsOpen}
use Rattle.ng_tests.proofs.listeners.walks_meet_who_stands_at_its_turn.Given as goal

abbrev pub invariant-loop-id : goal.invariant-loop-id
invariant-loop-id g l = Unit {0}

abbrev pub invariant-loop-does : goal.invariant-loop-does
invariant-loop-does g l = IsOpen l.listeners l.a × IsOpen l.listeners l.b × IsOpen l.listeners l.c × AreApart l.a l.b × AreApart l.a l.c × AreApart l.b l.c

use Rattle.std.proofs.Common.{subst}
use Rattle.ng_events.specs.declared.stands.EventWalk.{EventWalk}
use Rattle.ng_events.specs.Stands.{Begins}
use Rattle.ng_events.proofs.Apart.{open-begun_other}
use Rattle.ng_tests.proofs.listeners.begin.Goals as goal

pub returns-in-Some-On-clause-others : goal.returns-in-Some-On-clause-others
returns-in-Some-On-clause-others c v o =
    open-begun_other c.args.listeners.now c.begin.new.self 3 c.args.name.now c.in-Some-On.list c.in-Some-On.walk v
    (subst (λ (w : EventWalk). Begins c.args.listeners.now 3 c.args.name.now w c.begin.new.self) c.in-Some-On.field-0-is c.in-Some-On.ensures.walk)
    o

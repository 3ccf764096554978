use Rattle.ng_events.proofs.Apart.{open-gone_on}
use Rattle.ng_tests.proofs.listeners.next.Goals as goal

pub returns-in-Some-clause-open : goal.returns-in-Some-clause-open
returns-in-Some-clause-open c = open-gone_on c.args.listeners.now c.next.new.self c.args.w.now c.next.result c.requires c.next.ensures.goes c.next.ensures.bare

pub returns-in-None-clause-open : goal.returns-in-None-clause-open
returns-in-None-clause-open c = open-gone_on c.args.listeners.now c.next.new.self c.args.w.now c.next.result c.requires c.next.ensures.goes c.next.ensures.bare

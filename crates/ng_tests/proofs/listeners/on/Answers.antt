use Rattle.ng_events.proofs.Apart.{open-left}
use Rattle.ng_tests.proofs.listeners.on.Goals as goal

pub returns-in-Ok : goal.returns-in-Ok
returns-in-Ok c = open-left c.args.listeners.now c.on.new.self c.on.ensures.walks c.on.ensures.bare

pub returns-in-Err : goal.returns-in-Err
returns-in-Err c = open-left c.args.listeners.now c.on.new.self c.on.ensures.walks c.on.ensures.bare

use Rattle.ng_events.proofs.Apart.{open-left}
use Rattle.ng_tests.proofs.listeners.off.Goals as goal

pub returns-then-off : goal.returns-then-off
returns-then-off c = open-left c.args.listeners.now c.off.new.self c.off.ensures.walks c.off.ensures.bare

pub returns-else-off : goal.returns-else-off
returns-else-off c = open-left c.args.listeners.now c.off.new.self c.off.ensures.walks c.off.ensures.bare

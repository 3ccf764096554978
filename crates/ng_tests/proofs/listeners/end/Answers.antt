use Rattle.ng_events.proofs.Apart.{open-ended_other}
use Rattle.ng_tests.proofs.listeners.end.Goals as goal

pub returns : goal.returns
returns c v o a = open-ended_other c.args.listeners.now c.end.new.self c.args.w v c.end.ensures.ends o a
